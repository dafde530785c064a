-- What reading the log makes of a view.
use Rattle.std.proofs.Common.{◌≡◌, ◌≢◌, ℕ, zero, suc, ◌+◌, ◌/◌, ◌%◌, ◌^◌, ◌<◌, ◌≤◌, eqb, true, false, Some, None, List, [], ◌∷◌, ◌++◌, take, refl, sym, ap, ◌∙◌, subst, arith, append_assoc, append-nil, length, length-append, get_or}
use Rattle.std.specs.Prelude.{slice_index}
use Rattle.std.specs.List.{Contains, slice_get}
use Rattle.std.proofs.lemmas.Option.{none-some}
use Rattle.core_laws.specs.places.WordIds.{WordId, LogLength, Version}
use Rattle.history_model.specs.declared.histories.Mark.{Mark}
use Rattle.history_model.specs.declared.histories.Record.{Record}
use Rattle.node_words.specs.declared.shapes.names.Name.{Name}
use Rattle.node_words.specs.Plans.{Layout, IsPlan}
use Rattle.node_words.proofs.PlanLaws.{few_buckets}
use Rattle.std.proofs.Math.Nat.{div-add-mod, mod-lt}
use Rattle.core_laws.specs.contents.Aligned.{top}
use Rattle.core_laws.specs.contents.Versions.{IsUnmarked}
use Rattle.history_model.specs.Packing.{log_words}
use Rattle.table_rule.specs.LogFacts.{number_seen, LogFacts, RootFacts, IsShownUnmarked}
use Rattle.table_rule.specs.Listing.{Found}
use Rattle.table_rule.specs.LogWords.{mark_of_words}
use Rattle.table_rule.specs.Views.{SeatView, known_at, word_id_same}
use Rattle.table_rule.proofs.KnownWords.{known_now, known_else}
use Rattle.table_rule.specs.LogChanges.{log_knowing, under_log_turn, met_busy, with_found, with_seen_mark, with_record, marks_with, SawNext}
use Rattle.table_rule.proofs.MarkLists.{with_keeps}
use Rattle.node_table.specs.Learning.{WordsStay}
use Rattle.node_table.specs.TableStates.{TableState, PassState, SamePass}
use Rattle.node_table.proofs.Learned.{belongs_on, grows_one}
use Rattle.node_table.specs.LogTurns.{AreOthers, AreWordsOf, FoundMark, FoundOpen, HasLogTurn, IsBusy, IsMarkKnown, IsWordOf, LearnsLog, MeetsBusy, SeesMark, SeesMore, TakesLog, with_log}

-- a word of a version tells no length
pub length_else : (u i n : ℕ) (ws : List (WordId × ℕ))
    → known_at LogLength ((Version u i, n) ∷ ws) ≡ known_at LogLength ws
length_else u i n ws =
    known_else (Version u i) LogLength n ws (λ e. (let no : ⊥ = cc in no))

some_else : (x y : WordId) (n : ℕ) (ws : List (WordId × ℕ)) → known_at y ws ≢ None
    → known_at y ((x, n) ∷ ws) ≢ None
some_else x y n ws some = elim (word_id_same y x) [
  | yes e ↦ (λ none. none-some n
      (sym none ∙ ap (λ z. known_at z ((x, n) ∷ ws)) e ∙ known_now x n ws))
  | no ne ↦ (λ none. some (sym (known_else x y n ws ne) ∙ none))
]

some_now : (x : WordId) (n : ℕ) (ws : List (WordId × ℕ)) → known_at x ((x, n) ∷ ws) ≢ None
some_now x n ws none = none-some n (sym none ∙ known_now x n ws)

-- the view once four words of a version were loaded
abbrev four_known : SeatView → ℕ → ℕ → ℕ → ℕ → ℕ → SeatView
four_known v u a b c d =
    log_knowing (log_knowing (log_knowing (log_knowing v (Version u 0) a) (Version u 1) b)
    (Version u 2) c) (Version u 3) d

pub four_some : (v : SeatView) (u a b c d : ℕ) (i : ℕ) → i < 4
    → known_at (Version u i) (four_known v u a b c d).log.words ≢ None
four_some v u a b c d zero lt =
    some_else (Version u 3) (Version u 0) d _ (some_else (Version u 2) (Version u 0) c _
    (some_else (Version u 1) (Version u 0) b _ (some_now (Version u 0) a v.log.words)))
four_some v u a b c d (suc zero) lt =
    some_else (Version u 3) (Version u 1) d _ (some_else (Version u 2) (Version u 1) c _
    (some_now (Version u 1) b _))
four_some v u a b c d (suc (suc zero)) lt =
    some_else (Version u 3) (Version u 2) d _ (some_now (Version u 2) c _)
four_some v u a b c d (suc (suc (suc zero))) lt = some_now (Version u 3) d _
four_some v u a b c d (suc (suc (suc (suc i)))) lt = absurd (omega arith)

four_length : (v : SeatView) (u a b c d : ℕ)
    → known_at LogLength (four_known v u a b c d).log.words ≡ known_at LogLength v.log.words
four_length v u a b c d =
    length_else u 3 d _ ∙ length_else u 2 c _ ∙ length_else u 1 b _ ∙ length_else u 0 a _

-- four words were loaded one after another
pub record Loaded (v m : SeatView) (u : ℕ) : Type 0 where
  pub first : ℕ
  pub second : ℕ
  pub third : ℕ
  pub fourth : ℕ
  pub is : m ≡ four_known v u first second third fourth

pub loaded_four : (v v1 v2 v3 v4 : SeatView) (u a b c d : ℕ)
    → v1 ≡ log_knowing v (Version u 0) a → v2 ≡ log_knowing v1 (Version u 1) b
    → v3 ≡ log_knowing v2 (Version u 2) c → v4 ≡ log_knowing v3 (Version u 3) d → Loaded v v4 u
loaded_four v v1 v2 v3 v4 u a b c d e1 e2 e3 e4 = record {
  first = a;
  second = b;
  third = c;
  fourth = d;
  is = e4
      ∙ ap (λ (x : SeatView). (let z : SeatView = log_knowing x (Version u 3) d in z)) (e3
      ∙ ap (λ (x : SeatView). (let z : SeatView = log_knowing x (Version u 2) c in z)) (e2
      ∙ ap (λ (x : SeatView). (let z : SeatView = log_knowing x (Version u 1) b in z)) e1));
}

module _ (v m : SeatView) (u : ℕ) (l : Loaded v m u) where
  pub loaded_seen : number_seen m ≡ number_seen v
  loaded_seen = ap (λ (x : SeatView). number_seen x) l.is

  pub loaded_turn : m.log.turn ≡ v.log.turn
  loaded_turn = ap (λ (x : SeatView). x.log.turn) l.is

  pub loaded_length : known_at LogLength m.log.words ≡ known_at LogLength v.log.words
  loaded_length = ap (λ (x : SeatView). known_at LogLength x.log.words) l.is
      ∙ four_length v u l.first l.second l.third l.fourth

  pub loaded_some : (i : ℕ) → i < 4 → known_at (Version u i) m.log.words ≢ None
  loaded_some i lt =
      subst (λ (x : SeatView). known_at (Version u i) x.log.words ≢ None) (sym l.is)
      (four_some v u l.first l.second l.third l.fourth i lt)

  -- and then the record was seen
  module _ (w : SeatView) (word : ℕ) (s : SawNext m word w) where
    saw_is : w ≡ with_record (log_knowing (four_known v u l.first l.second l.third l.fourth)
        (Version (suc (number_seen m)) 4) word) s.change
    saw_is = s.is
        ∙ ap (λ (x : SeatView). (let z : SeatView =
        with_record (log_knowing x (Version (suc (number_seen m)) 4) word) s.change in z)) l.is

    pub saw_more : SeesMore v w
    saw_more = record {
      more = s.change ∷ [];
      is = saw_is
          ∙ ap (λ (ws : List (WordId × ℕ)). (let z : SeatView = with_log v (record v.log {
            words = ws;
            seen = record v.log.seen { records = v.log.seen.records ++ s.change ∷ [] };
          }) in z)) (sym (ap (λ (x : SeatView). x.log.words) saw_is));
    }

    pub saw_number : number_seen w ≡ number_seen v + 1
    saw_number = ap (λ (x : SeatView). number_seen x) saw_is
        ∙ length-append v.log.seen.records (s.change ∷ [])

    pub saw_length : known_at LogLength w.log.words ≡ known_at LogLength v.log.words
    saw_length = ap (λ (x : SeatView). known_at LogLength x.log.words) saw_is
        ∙ length_else (suc (number_seen m)) 4 word _
        ∙ four_length v u l.first l.second l.third l.fourth

-- nothing more is seen
pub sees_none : (v : SeatView) → SeesMore v v
sees_none v = record {
  more = [];
  is = ap (λ (rs : List Record). (let z : SeatView = with_log v (record v.log {
    seen = record v.log.seen { records = rs };
  }) in z)) (sym (append-nil v.log.seen.records));
}

pub sees_on : (u v w : SeatView) → SeesMore u v → SeesMore v w → SeesMore u w
sees_on u v w a b = record {
  more = a.more ++ b.more;
  is = b.is
      ∙ ap (λ (x : SeatView). (let z : SeatView = with_log x (record x.log {
        words = w.log.words;
        seen = record x.log.seen { records = x.log.seen.records ++ b.more };
      }) in z)) a.is
      ∙ ap (λ (rs : List Record). (let z : SeatView = with_log u (record u.log {
        words = w.log.words;
        seen = record u.log.seen { records = rs };
      }) in z)) (append_assoc u.log.seen.records a.more b.more);
}

-- a word is learned
pub sees_word : (v w : SeatView) (x : WordId) (n : ℕ) → w ≡ log_knowing v x n → SeesMore v w
sees_word v w x n is = record {
  more = [];
  is = is
      ∙ ap (λ (y : List (WordId × ℕ) × List Record). (let z : SeatView = with_log v (record v.log {
        words = y.0;
        seen = record v.log.seen { records = y.1 };
      }) in z))
      (λ i. (sym (ap (λ (y : SeatView). y.log.words) is) i, sym (append-nil v.log.seen.records) i));
}

-- the turn came, once others were met, and then records were seen
pub takes_log_on : {made : ℕ} (v m u w : SeatView) → MeetsBusy made v m → u ≡ under_log_turn m true
    → SeesMore u w → TakesLog made v w
takes_log_on v m u w busy under_turn s = record {
  more = s.more;
  met = busy.met;
  others = busy.others;
  is = s.is
      ∙ ap (λ (x : SeatView). (let z : SeatView = with_log x (record x.log {
        words = w.log.words;
        seen = record x.log.seen { records = x.log.seen.records ++ s.more };
      }) in z)) (under_turn
      ∙ ap (λ (x : SeatView). (let z : SeatView = under_log_turn x true in z)) busy.is);
}

-- at once: whoever met nobody notes nobody
pub takes_at_once : (v u w : SeatView) → u ≡ under_log_turn v true → SeesMore u w
    → w.log.busy ≡ v.log.busy
takes_at_once v u w under_turn s =
    ap (λ (x : SeatView). x.log.busy) s.is ∙ ap (λ (x : SeatView). x.log.busy) under_turn

pub meets_none : {made : ℕ} (v : SeatView) → MeetsBusy made v v
meets_none v = record {
  met = [];
  others = record { each = λ n c. absurd (let k = c.1 in omega arith) };
  is = refl;
}

-- one more of the others is met
one_other : (made : ℕ) (own met : List ℕ) (other : ℕ) → AreOthers made own met → other < made
    → ¬ Contains own other → AreOthers made own (other ∷ met)
one_other made own met other others begun not_own = record { each = λ n c. go n c.0 c.1 c.2 }
  where
    go : (n k : ℕ) → k < length (other ∷ met) → get_or (other ∷ met) k n ≡ n
        → (n < made) × ¬ Contains own n
    go n zero lt e = subst (λ (m : ℕ). (m < made) × ¬ Contains own m) e (begun, not_own)
    go n (suc k) lt e = others.each n (k, omega arith, e)

pub meets_one : {made : ℕ} (u v w : SeatView) → v.numbers ≡ u.numbers → MeetsBusy made u v
    → IsBusy made v w → MeetsBusy made u w
meets_one {made} u v w same a b = record {
  met = b.other ∷ a.met;
  others = one_other made u.numbers a.met b.other a.others b.begun
      (subst (λ (ns : List ℕ). ¬ Contains ns b.other) same b.not_own);
  is = b.is ∙ ap (λ (x : SeatView). (let z : SeatView = met_busy x b.other in z)) a.is;
}

pub busy_from : {made : ℕ} (v w : SeatView) (found : ℕ) → eqb found 0 ≡ false
    → ((n : ℕ) → found ≡ suc n → (w ≡ met_busy v n) × (n < made) × ¬ Contains v.numbers n)
    → IsBusy made v w
busy_from v w zero e told = absurd (let no : ⊥ = cc in no)
busy_from v w (suc other) e told =
    let t = told other refl in
    record { other = other; begun = t.1; not_own = t.2; is = t.0 }

-- what is learned of the log chains
pub learns_log_on : (u v w : SeatView) → LearnsLog u v → LearnsLog v w → LearnsLog u w
learns_log_on u v w a b = record {
  grows = record { stays = λ x n is. b.grows.stays x n (a.grows.stays x n is) };
  is = b.is ∙ ap (λ (x : SeatView). (let z : SeatView = with_log x (record x.log {
    words = w.log.words;
  }) in z)) a.is;
}

pub learns_log_word : (v w : SeatView) (x : WordId) (n : ℕ) → w ≡ log_knowing v x n
    → ((m : ℕ) → known_at x v.log.words ≡ Some m → n ≡ m) → LearnsLog v w
learns_log_word v w x n is again =
    let words : w.log.words ≡ (x, n) ∷ v.log.words = ap (λ (y : SeatView). y.log.words) is in
    record {
      grows = subst (λ ws. WordsStay v.log.words ws) (sym words) (grows_one x n v.log.words again);
      is = is ∙ ap (λ ws. (let z : SeatView = with_log v (record v.log { words = ws }) in z))
          (sym words);
    }

-- whoever learns keeps the log's turn
pub log_turn_stays : (table : TableState) (s t : PassState) → HasLogTurn table s → SamePass s t
    → LearnsLog s.view t.view → HasLogTurn table t
log_turn_stays table s t h same l = record {
  of = belongs_on table s t h.of same;
  idle = ap (λ (x : SeatView). x.turn) l.is ∙ h.idle;
  sees = record {
    turn = ap (λ (x : SeatView). x.log.turn) l.is ∙ h.sees.turn;
    known = l.grows.stays LogLength (number_seen s.view) h.sees.known
        ∙ ap (λ (n : ℕ). Some n) (sym (ap (λ (x : SeatView). number_seen x) l.is));
  };
}

pub known_log_word : (v w : SeatView) (x : WordId) (n : ℕ) → w ≡ log_knowing v x n
    → known_at x w.log.words ≡ Some n
known_log_word v w x n is =
    ap (λ (y : SeatView). known_at x y.log.words) is ∙ known_now x n v.log.words

-- a word of a record that is known is the one that a log keeps
pub one_word : (v w : SeatView) (n i word : ℕ) → LogFacts w → w.log.turn ≡ true → LearnsLog v w
    → i < 5 → known_at (Version (suc n) i) w.log.words ≡ Some word → IsWordOf v n i word
one_word v w n i word tells turn l low known r is =
    let seen : w.log.seen.records ≡ v.log.seen.records =
    ap (λ (x : SeatView). x.log.seen.records) l.is in
    let there : slice_get w.log.seen.records n ≡ Some r =
    ap (λ (rs : List Record). slice_get rs n) seen ∙ is in
    tells.words n i word r turn there low known
    ∙ ap (λ (rs : List Record). slice_index (log_words (take (suc n) rs) r) i) seen

-- five words of it are those
pub five_words : (v w : SeatView) (n a b c d e : ℕ) → LogFacts w → w.log.turn ≡ true
    → LearnsLog v w → known_at (Version (suc n) 0) w.log.words ≡ Some a
    → known_at (Version (suc n) 1) w.log.words ≡ Some b
    → known_at (Version (suc n) 2) w.log.words ≡ Some c
    → known_at (Version (suc n) 3) w.log.words ≡ Some d
    → known_at (Version (suc n) 4) w.log.words ≡ Some e
    → AreWordsOf v n (a ∷ b ∷ c ∷ d ∷ e ∷ [])
five_words v w n a b c d e tells turn l ka kb kc kd ke r is =
    let wa = one_word v w n 0 a tells turn l (omega arith) ka r is in
    let wb = one_word v w n 1 b tells turn l (omega arith) kb r is in
    let wc = one_word v w n 2 c tells turn l (omega arith) kc r is in
    let wd = one_word v w n 3 d tells turn l (omega arith) kd r is in
    let we = one_word v w n 4 e tells turn l (omega arith) ke r is in
    λ j. wa j ∷ wb j ∷ wc j ∷ wd j ∷ we j ∷ []

-- five words were loaded one after another
pub five_read : (v v1 v2 v3 v4 v5 : SeatView) (n a b c d e : ℕ) → LearnsLog v v1
    → LearnsLog v1 v2 → LearnsLog v2 v3 → LearnsLog v3 v4 → LearnsLog v4 v5 → LogFacts v5
    → v5.log.turn ≡ true → known_at (Version (suc n) 0) v1.log.words ≡ Some a
    → known_at (Version (suc n) 1) v2.log.words ≡ Some b
    → known_at (Version (suc n) 2) v3.log.words ≡ Some c
    → known_at (Version (suc n) 3) v4.log.words ≡ Some d
    → known_at (Version (suc n) 4) v5.log.words ≡ Some e
    → AreWordsOf v n (a ∷ b ∷ c ∷ d ∷ e ∷ [])
five_read v v1 v2 v3 v4 v5 n a b c d e l1 l2 l3 l4 l5 tells turn ka kb kc kd ke =
    let last = l5 in let two = learns_log_on v3 v4 v5 l4 l5 in
    let three = learns_log_on v2 v3 v5 l3 two in let four = learns_log_on v1 v2 v5 l2 three in
    five_words v v5 n a b c d e tells turn (learns_log_on v v1 v5 l1 four)
    (four.grows.stays (Version (suc n) 0) a ka) (three.grows.stays (Version (suc n) 1) b kb)
    (two.grows.stays (Version (suc n) 2) c kc) (last.grows.stays (Version (suc n) 3) d kd) ke

-- a version's mark was sought: a word was learned, and perhaps a version was found
pub record Sought (v : SeatView) (u word : ℕ) (w : SeatView) : Type 0 where
  pub found : List Found
  pub is : w ≡ with_log v (record v.log {
    words = (Version u 6, word) ∷ v.log.words;
    found = found;
  })

pub sought_is : (v w : SeatView) (u word : ℕ)
    → (word ≡ 0 → (w ≡ with_found (log_knowing v (Version u 6) word) u)
    × IsUnmarked v.log.seen.marks u)
    → ((at : ℕ) → word ≡ suc at → (w ≡ log_knowing v (Version u 6) word) × (u < at)
    × (at ≤ number_seen v)) → Sought v u word w
sought_is v w u zero none some = record {
  found = record { version = u; at = number_seen v } ∷ v.log.found;
  is = (none refl).0;
}
sought_is v w u (suc at) none some = record { found = v.log.found; is = (some at refl).0 }

-- where words were learned, the log's turn is had still
pub log_turn_on : (table : TableState) (s t : PassState) (u i n : ℕ) → HasLogTurn table s
    → SamePass s t → t.view.turn ≡ s.view.turn → t.view.log.turn ≡ s.view.log.turn
    → number_seen t.view ≡ number_seen s.view
    → t.view.log.words ≡ (Version u i, n) ∷ s.view.log.words → HasLogTurn table t
log_turn_on table s t u i n h same idle turn seen words = record {
  of = belongs_on table s t h.of same;
  idle = idle ∙ h.idle;
  sees = record {
    turn = turn ∙ h.sees.turn;
    known = ap (λ ws. known_at LogLength ws) words ∙ length_else u i n s.view.log.words
        ∙ h.sees.known ∙ ap (λ (k : ℕ). Some k) (sym seen);
  };
}

pub words_grow : (v w : SeatView) (x : WordId) (n : ℕ) → w.log.words ≡ (x, n) ∷ v.log.words
    → ((m : ℕ) → known_at x v.log.words ≡ Some m → n ≡ m) → WordsStay v.log.words w.log.words
words_grow v w x n words again =
    subst (λ ws. WordsStay v.log.words ws) (sym words) (grows_one x n v.log.words again)

module _ (v w : SeatView) (u word : ℕ) (s : Sought v u word w)
    (again : (m : ℕ) → known_at (Version u 6) v.log.words ≡ Some m → word ≡ m) where
  pub sought_words : w.log.words ≡ (Version u 6, word) ∷ v.log.words
  sought_words = ap (λ (x : SeatView). x.log.words) s.is

  pub sought_known : known_at (Version u 6) w.log.words ≡ Some word
  sought_known = ap (λ ws. known_at (Version u 6) ws) sought_words
      ∙ known_now (Version u 6) word v.log.words

  -- no mark: the version was found
  pub found_open : word ≡ 0 → (w ≡ with_found (log_knowing v (Version u 6) word) u)
      → IsUnmarked v.log.seen.marks u → v.log.turn ≡ true → u ≤ number_seen v → FoundOpen v u w
  found_open none is unmarked turn there = record {
    grows = words_grow v w (Version u 6) word sought_words again;
    unmarked = unmarked;
    shown = record {
      turn = ap (λ (x : SeatView). x.log.turn) s.is ∙ turn;
      there = subst (λ (n : ℕ). u ≤ n) (sym (ap (λ (x : SeatView). number_seen x) s.is)) there;
      unmarked = sought_known ∙ ap (λ (n : ℕ). Some n) none;
    };
    is = is
        ∙ ap (λ ws. (let z : SeatView = with_log v (record v.log {
          words = ws;
          found = record { version = u; at = number_seen v } ∷ v.log.found;
        }) in z)) (sym sought_words);
  }

  pub mark_known : (at : ℕ) → word ≡ suc at → (w ≡ log_knowing v (Version u 6) word) → u < at
      → at ≤ number_seen v → IsMarkKnown v u at w
  mark_known at e is later within = record {
    learns = learns_log_word v w (Version u 6) word is again;
    later = (later, within);
    known = sought_known ∙ ap (λ (n : ℕ). Some n) e;
  }

-- a mark was seen
pub sees_mark_of : (v w : SeatView) (u at who : ℕ)
    → w ≡ with_seen_mark (log_knowing v (Version u 7) who) (mark_of_words u at who)
    → Contains w.log.seen.marks (mark_of_words u at who)
    → ((m : ℕ) → known_at (Version u 7) v.log.words ≡ Some m → who ≡ m)
    → SeesMark v (mark_of_words u at who) w
sees_mark_of v w u at who is comes again =
    let words : w.log.words ≡ (Version u 7, who) ∷ v.log.words =
    ap (λ (x : SeatView). x.log.words) is in
    record {
      comes = comes;
      stay = λ x c. subst (λ (ms : List Mark). Contains ms x)
          (sym (ap (λ (y : SeatView). y.log.seen.marks) is))
          (with_keeps (mark_of_words u at who) v.log.seen.marks x c);
      grows = words_grow v w (Version u 7) who words again;
      is = is
          ∙ ap (λ ws. (let z : SeatView = with_log v (record v.log {
            words = ws;
            seen = record v.log.seen {
              marks = marks_with
                  (mark_of_words u at who) v.log.seen.marks;
            };
          }) in z)) (sym words);
    }

-- a version's mark was known, and then seen
pub found_mark_on : (v m w : SeatView) (u at : ℕ) (mark : Mark) → IsMarkKnown v u at m
    → mark.version ≡ u → mark.at ≡ at → SeesMark m mark w → FoundMark v u mark w
found_mark_on v m w u at mark k version when s =
    let is = k.learns.is in record {
      version = version;
      later = subst (λ (n : ℕ). (u < n) × (n ≤ number_seen v)) (sym when) k.later;
      comes = s.comes;
      stay = λ x c. s.stay x (subst (λ (ms : List Mark). Contains ms x)
          (sym (ap (λ (y : SeatView). y.log.seen.marks) is)) c);
      grows = record { stays = λ x n known. s.grows.stays x n (k.learns.grows.stays x n known) };
      is = s.is
          ∙ ap (λ (x : SeatView). (let z : SeatView = with_log x (record x.log {
            words = w.log.words;
            seen = record x.log.seen { marks = marks_with mark x.log.seen.marks };
          }) in z)) is;
    }

-- the word of a shown root is small
pub root_small : (p : Layout) (w : SeatView) (u word : ℕ) → IsPlan p → w.plan ≡ p → RootFacts w
    → IsShownUnmarked w u → known_at (Version u 5) w.log.words ≡ Some word → word ≤ 2 ^ 24
root_small p w u zero plan same tells s known = omega arith
root_small p w u (suc at) plan same tells s known =
    let n : Name = record { level = top w.plan.side; bucket = at / 256; slot = at % 256 } in
    let is = (tells.named u n (record {
      unmarked = s;
      word = suc at;
      known = known;
      is = refl;
    })).1 in
    let bucket = is.bucket_in in
    let few = few_buckets w.plan (top w.plan.side)
    (subst (λ (q : Layout). IsPlan q) (sym same) plan) in
    let all =
    div-add-mod at 256 in let low : at % 256 < 256 = mod-lt at (omega arith) in omega arith

pub word_small : (word seen : ℕ) → ((at : ℕ) → word ≡ suc at → at ≤ seen) → seen ≤ 65535
    → word < 2 ^ 32
word_small zero seen some few = omega arith
word_small (suc at) seen some few = let le = some at refl in omega arith

-- what was shown is shown still
pub shown_stays : (v w : SeatView) (u : ℕ) → LearnsLog v w → IsShownUnmarked v u
    → IsShownUnmarked w u
shown_stays v w u l s = record {
  turn = ap (λ (x : SeatView). x.log.turn) l.is ∙ s.turn;
  there = subst (λ (n : ℕ). u ≤ n) (sym (ap (λ (x : SeatView). number_seen x) l.is)) s.there;
  unmarked = l.grows.stays (Version u 6) 0 s.unmarked;
}
