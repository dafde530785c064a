-- Words are stored that the log doesn't show yet.
use Rattle.std.proofs.Common.{◌≡◌, ◌≢◌, ℕ, suc, ◌<◌, Bool, true, Some, Option, List, set, refl, sym, ap, ◌∙◌, subst, inl, inr, arith, false}
use Rattle.std.specs.Prelude.{nat_lt}
use Rattle.std.specs.List.{slice_get}
use Rattle.std.proofs.lemmas.Bool.{cases_eq, lt-ltb}
use Rattle.vox_read.specs.Contents.{Content}
use Rattle.node_words.specs.declared.shapes.names.Name.{Name}
use Rattle.node_words.specs.Plans.{Layout}
use Rattle.core_laws.specs.places.KeyWords.{child_of_word}
use Rattle.core_laws.specs.places.WordIds.{WordId, Sessions, LogLength, Version, versions}
use Rattle.history_model.specs.Logs.{Log}
use Rattle.core_laws.specs.contents.Aligned.{top}
use Rattle.core_laws.specs.Events.{RootsStay, Rests}
use Rattle.table_rule.specs.Reading.{Wrote, root_if_held}
use Rattle.table_rule.specs.LogKnowing.{KnowsLog}
use Rattle.table_rule.specs.LogFacts.{number_seen, SeesAll}
use Rattle.table_rule.specs.LogWords.{log_in, records_in}
use Rattle.table_rule.specs.Rules.{KeepsRule, table_state, MayWrite}
use Rattle.table_rule.specs.TurnRules.{turn_of}
use Rattle.table_rule.specs.Views.{SeatView, known_at}
use Rattle.table_rule.proofs.LogPartA.{log_word_step, of_log_not_bucket_turn, not_of_log}
use Rattle.table_rule.proofs.LogPartC.{one_knows, knows_set}
use Rattle.table_rule.proofs.LogReading.{records_kept, marks_kept, written_stays}
use Rattle.table_rule.proofs.PartA.{beside_step, same_seat}
use Rattle.table_rule.proofs.StateSteps.{quiet_log, entries_same}
use Rattle.table_rule.specs.LogChanges.{log_knowing}

-- which version's word, and which of its words
pub version_in : WordId → ℕ
version_in (Version v i) = v
version_in _ = 0

pub word_no : WordId → ℕ
word_no (Version v i) = i
word_no _ = 0

pub same_version : (u v i k : ℕ) → Version u i ≡ Version v k → u ≡ v
unfolding version_in
same_version u v i k e = ap version_in e

pub same_word : (u v i k : ℕ) → Version u i ≡ Version v k → i ≡ k
unfolding word_no
same_word u v i k e = ap word_no e

-- past the length there is no root
pub no_root_past : (long u mark mark' : ℕ) (root root' : Option Name) → long < u
    → root_if_held (nat_lt long u) mark root ≡ root_if_held (nat_lt long u) mark' root'
no_root_past long u mark mark' root root' lt =
    ap (λ (b : Bool). root_if_held b mark root) (lt-ltb long u lt)
    ∙ sym (ap (λ (b : Bool). root_if_held b mark' root') (lt-ltb long u lt))

-- a word of a version is stored, and the log stays
module _ (p : Layout) (models : List Content) (old new : WordId → ℕ) (views : List SeatView)
    (seat : ℕ) (v : SeatView) (r : KeepsRule p models old views)
    (at : slice_get views seat ≡ Some v) (u i n : ℕ) (has : v.log.turn ≡ true)
    (wrote : Wrote old (Version u i) n new) where
  abbrev x : WordId
  x = Version u i

  abbrev w : SeatView
  w = log_knowing v x n

  store_long : new LogLength ≡ old LogLength
  store_long = wrote.others LogLength (λ e. (let no : ⊥ = cc in no))

  store_sessions : new Sessions ≡ old Sessions
  store_sessions = wrote.others Sessions (λ e. (let no : ⊥ = cc in no))

  stored : RootsStay (table_state p old views) (table_state p new (set views seat w))
      → ((m k : ℕ) → m < old LogLength → k < 5 → new (Version (suc m) k) ≡ old (Version (suc m) k))
      → ((m : ℕ) → m < versions → new (Version m 6) ≡ old (Version m 6))
      → ((m : ℕ) → m < versions → old (Version m 6) ≢ 0 → new (Version m 7) ≡ old (Version m 7))
      → KeepsRule p models new (set views seat w)
      × Rests p (table_state p old views) (table_state p new (set views seat w))
  stored roots records six seven =
      let k = one_knows (old Sessions) (log_in p old) views seat v r.log.knows at in
      let rs : records_in new (new LogLength) ≡ records_in old (old LogLength) =
      ap (records_in new) store_long ∙ records_kept old new (old LogLength) records in
      let ms = marks_kept old new versions six seven in
      let log : log_in p new ≡ log_in p old =
      λ j. record { side = p.side; coloured = false; records = rs j; marks = ms j } in
      quiet_log p models old new views seat v w r at
      (entries_same p models old new views seat v w r at x n wrote
      (λ m e. (let no : ⊥ = cc in no)) (λ m j e. (let no : ⊥ = cc in no)))
      roots log
      (record {
        turn =
            log_word_step p old views r.turns r.log.turn seat v at new w refl store_sessions x n has
            tt wrote refl refl;
        written = record {
          words = λ m j lt low.
              written_stays old new (old LogLength) records
              (λ a b less few. r.log.written.words a b less few) m j
              (subst (λ (z : ℕ). m < z) store_long lt) low;
        };
        knows =
            subst (λ (y : ℕ × Log). KnowsLog y.0 y.1 (set views seat w))
            (λ j. (sym store_sessions j, sym log j))
            (knows_set (old Sessions) (log_in p old) views seat w r.log.knows (record {
              seen = k.seen;
              taken = k.taken;
              own = k.own;
              own_seen = k.own_seen;
              found = k.found;
            }));
      })
      (beside_step p old views r.turns seat v at new w (same_seat v w refl refl refl) store_sessions
      refl refl (λ c. wrote.others (turn_of c) (of_log_not_bucket_turn x c tt))
      (λ c y of. wrote.others y (not_of_log c x y of tt)))
      refl refl refl refl refl (λ m h. inl h)

-- a word of the version behind the last is stored
pub readies_next : (p : Layout) (seat : ℕ) (v : SeatView) (i word : ℕ) → SeesAll v → i < 6
    → MayWrite p seat v (Version (suc (number_seen v)) i) (λ _. word) (Rests p)
    (λ k w. w ≡ log_knowing v (Version (suc (number_seen v)) i) word)
readies_next p seat v i word sees low models old views r at =
    let n : ℕ = number_seen v in
    let x : WordId = Version (suc n) i in
    let w : SeatView = log_knowing v x word in
    let all : old LogLength ≡ n =
    r.log.turn.known seat v at LogLength n sees.turn tt sees.known in
    let both : (new : WordId → ℕ) → Wrote old x word new
    → KeepsRule p models new (set views seat w)
    × Rests p (table_state p old views) (table_state p new (set views seat w)) =
    λ new wrote. stored p models old new views seat v r at (suc n) i word sees.turn wrote
    (λ u. next_roots old new u n i word wrote all low (top p.side))
    (λ m k lt few. wrote.others (Version (suc m) k)
    (λ e. (let same = same_version (suc m) (suc n) k i e in omega arith)))
    (λ m lt. wrote.others (Version m 6)
    (λ e. (let same = same_word m (suc n) 6 i e in omega arith)))
    (λ m lt ne. wrote.others (Version m 7)
    (λ e. (let same = same_word m (suc n) 7 i e in omega arith))) in
    record {
      view = w;
      rule = λ new wrote. (both new wrote).0;
      event = λ new wrote. (both new wrote).1;
      same = record { alive = refl; plan = refl; models = refl; numbers = refl };
      told = refl;
    }
  where
    next_roots : (old new : WordId → ℕ) (u n i word : ℕ) → Wrote old (Version (suc n) i) word new
        → old LogLength ≡ n → i < 6 → (level : ℕ)
        → root_if_held (nat_lt (new LogLength) u) (new (Version u 6))
        (child_of_word level (new (Version u 5)))
        ≡ root_if_held (nat_lt (old LogLength) u) (old (Version u 6))
        (child_of_word level (old (Version u 5)))
    next_roots old new u n i word wrote all low level =
        let long : new LogLength ≡ old LogLength =
        wrote.others LogLength (λ e. (let no : ⊥ = cc in no)) in
        elim (cases_eq u (suc n)) [
          | inl same ↦
              ap (λ (m : ℕ). root_if_held (nat_lt m u) (new (Version u 6))
              (child_of_word level (new (Version u 5)))) long
              ∙ no_root_past (old LogLength) u _ _ _ _ (omega arith)
          | inr other ↦
              (let six = wrote.others (Version u 6)
              (λ e. other (same_version u (suc n) 6 i e)) in
              let five = wrote.others (Version u 5)
              (λ e. other (same_version u (suc n) 5 i e)) in
              λ j. root_if_held (nat_lt (long j) u) (six j) (child_of_word level (five j)))
        ]

-- the last word of a version without a mark is stored
pub readies_mark : (p : Layout) (seat : ℕ) (v : SeatView) (u word : ℕ) → v.log.turn ≡ true
    → known_at (Version u 6) v.log.words ≡ Some 0
    → MayWrite p seat v (Version u 7) (λ _. word) (Rests p)
    (λ k w. w ≡ log_knowing v (Version u 7) word)
readies_mark p seat v u word has known models old views r at =
    let x : WordId = Version u 7 in
    let w : SeatView = log_knowing v x word in
    let none : old (Version u 6) ≡ 0 =
    r.log.turn.known seat v at (Version u 6) 0 has tt known in
    let both : (new : WordId → ℕ) → Wrote old x word new
    → KeepsRule p models new (set views seat w)
    × Rests p (table_state p old views) (table_state p new (set views seat w)) =
    λ new wrote. stored p models old new views seat v r at u 7 word has wrote
    (λ y. (let long : new LogLength ≡ old LogLength =
    wrote.others LogLength (λ e. (let no : ⊥ = cc in no)) in
    let six = wrote.others (Version y 6) (λ e. (let s = same_word y u 6 7 e in omega arith)) in
    let five = wrote.others (Version y 5) (λ e. (let s = same_word y u 5 7 e in omega arith)) in
    λ j. root_if_held (nat_lt (long j) y) (six j) (child_of_word (top p.side) (five j))))
    (λ m k lt few. wrote.others (Version (suc m) k)
    (λ e. (let s = same_word (suc m) u k 7 e in omega arith)))
    (λ m lt. wrote.others (Version m 6) (λ e. (let s = same_word m u 6 7 e in omega arith)))
    (λ m lt ne. wrote.others (Version m 7)
    (λ e. ne (ap (λ (y : ℕ). old (Version y 6)) (same_version m u 7 7 e) ∙ none))) in
    record {
      view = w;
      rule = λ new wrote. (both new wrote).0;
      event = λ new wrote. (both new wrote).1;
      same = record { alive = refl; plan = refl; models = refl; numbers = refl };
      told = refl;
    }
