-- Words of the log are loaded under its turn.
use Rattle.std.proofs.Common.{◌≡◌, ◌≢◌, ℕ, zero, suc, ◌<◌, ◌≤◌, true, Some, None, List, [], ◌∷◌, ◌++◌, length, set, refl, sym, ap, ◌∙◌, subst, inl, arith}
use Rattle.std.specs.List.{slice_get, Contains}
use Rattle.std.proofs.lemmas.List.Elements.{All-contains}
use Rattle.vox_read.specs.Contents.{Content}
use Rattle.node_words.specs.Plans.{Layout}
use Rattle.core_laws.specs.places.WordIds.{WordId, Sessions, LogLength, Version, versions}
use Rattle.history_model.specs.Logs.{Log}
use Rattle.history_model.specs.declared.histories.Mark.{Mark}
use Rattle.history_model.specs.declared.histories.Record.{Record}
use Rattle.core_laws.specs.contents.Versions.{IsUnmarked}
use Rattle.core_laws.specs.Events.{EntriesStay, Rests}
use Rattle.table_rule.specs.Reading.{Wrote}
use Rattle.table_rule.specs.LogKnowing.{WasFound}
use Rattle.table_rule.specs.LogFacts.{number_seen, SeesAll}
use Rattle.table_rule.specs.LogTurnRules.{IsOfLog}
use Rattle.table_rule.specs.LogViews.{LogView}
use Rattle.retain.specs.Listing.{Found}
use Rattle.table_rule.specs.LogWords.{log_in, records_in, record_of_words, word_in, mark_of_words, marks_in}
use Rattle.table_rule.specs.Rules.{KeepsRule, table_state, MayWrite}
use Rattle.table_rule.specs.Views.{SeatView, known_at}
use Rattle.table_rule.proofs.LogPartA.{log_word_step}
use Rattle.table_rule.proofs.LogPartC.{SeatKnows, one_knows, knows_set, begins_next, next_of, own_seen_more}
use Rattle.table_rule.proofs.LogReading.{mark_stands, mark_read, no_mark, get_record, length_records}
use Rattle.table_rule.proofs.LogTellingLaw.{seen_le, log_few, log_known}
use Rattle.table_rule.proofs.OwnLaws.{all_from, first_or_more}
use Rattle.table_rule.proofs.PartA.{beside_step, same_seat}
use Rattle.table_rule.proofs.StateSteps.{quiet_log, same_mem, no_change}
use Rattle.table_rule.specs.LogChanges.{log_knowing, with_seen_mark, with_found, SawNext}
use Rattle.table_rule.proofs.MarkLists.{begins_mark, own_mark_more, with_new}

-- the view with another view of the log
abbrev pub with_log : SeatView → LogView → SeatView
with_log v l = record v { log = l }

entries_rest : (p : Layout) (mem : WordId → ℕ) (views after : List SeatView)
    → EntriesStay p (table_state p mem views) (table_state p mem after)
entries_rest p mem views after = record { book = λ m is. refl; key = λ m live. refl }

-- a word is loaded: the rule where the seat then knows this of the log
pub loaded : (p : Layout) (models : List Content) (old : WordId → ℕ) (views : List SeatView)
    (seat : ℕ) (v : SeatView) (x : WordId) (l : LogView) → KeepsRule p models old views
    → slice_get views seat ≡ Some v → v.log.turn ≡ true → IsOfLog x → l.turn ≡ v.log.turn
    → l.words ≡ (x, old x) ∷ v.log.words → SeatKnows (log_in p old) v.numbers l
    → (new : WordId → ℕ) → Wrote old x (old x) new
    → KeepsRule p models new (set views seat (with_log v l))
    × Rests p (table_state p old views) (table_state p new (set views seat (with_log v l)))
loaded p models old views seat v x l r at has of turn words knows new wrote =
    let w : SeatView = with_log v l in
    let after : List SeatView = set views seat w in
    subst (λ m. KeepsRule p models m after
    × Rests p (table_state p old views) (table_state p m after)) (sym (same_mem old new x wrote))
    (quiet_log p models old old views seat v w r at
    (entries_rest p old views after) (λ u. refl) refl
    (record {
      turn =
          log_word_step p old views r.turns r.log.turn seat v at old w refl refl x (old x) has of
          (no_change old x) turn words;
      written = r.log.written;
      knows = knows_set (old Sessions) (log_in p old) views seat w r.log.knows knows;
    })
    (beside_step p old views r.turns seat v at old w (same_seat v w refl refl refl) refl refl refl
    (λ c. refl) (λ c y of. refl))
    refl refl refl refl refl (λ m h. inl h))

-- a word of the log is loaded under its turn
pub loads_log : (p : Layout) (seat : ℕ) (v : SeatView) (x : WordId) → v.log.turn ≡ true → IsOfLog x
    → MayWrite p seat v x (λ k. k) (Rests p)
    (λ k w. (w ≡ log_knowing v x k) × ((n : ℕ) → known_at x v.log.words ≡ Some n → k ≡ n))
loads_log p seat v x has of models old views r at =
    let l : LogView = record v.log { words = (x, old x) ∷ v.log.words } in
    let k = one_knows (old Sessions) (log_in p old) views seat v r.log.knows at in
    let both = loaded p models old views seat v x l r at has of refl refl
    (record {
      seen = k.seen;
      taken = k.taken;
      own = k.own;
      own_seen = k.own_seen;
      found = k.found;
    }) in
    record {
      view = with_log v l;
      rule = λ new wrote. (both new wrote).0;
      event = λ new wrote. (both new wrote).1;
      same = record { alive = refl; plan = refl; models = refl; numbers = refl };
      told = (refl, λ n known. r.log.turn.known seat v at x n has of known);
    }

-- the last word of the next record is loaded
pub sees_next : (p : Layout) (seat : ℕ) (v : SeatView) (long : ℕ) → v.log.turn ≡ true
    → known_at LogLength v.log.words ≡ Some long → number_seen v < long
    → ((i : ℕ) → i < 4 → known_at (Version (suc (number_seen v)) i) v.log.words ≢ None)
    → MayWrite p seat v (Version (suc (number_seen v)) 4) (λ k. k) (Rests p)
    (λ k w. SawNext v k w)
sees_next p seat v long has length_known more known models old views r at =
    let n : ℕ = number_seen v in
    let x : WordId = Version (suc n) 4 in
    let change : Record = record_of_words (word_in old (suc n)) in
    let l : LogView = record v.log {
      words = (x, old x) ∷ v.log.words;
      seen = record v.log.seen { records = v.log.seen.records ++ change ∷ [] };
    } in
    let k = one_knows (old Sessions) (log_in p old) views seat v r.log.knows at in
    let is : old LogLength ≡ long = r.log.turn.known seat v at LogLength long has tt length_known in
    let there : slice_get (records_in old (old LogLength)) n ≡ Some change =
    get_record old n (old LogLength) (omega arith) in
    let rest = next_of v.log.seen (log_in p old) change k.seen there in
    let both = loaded p models old views seat v x l r at has tt refl refl
    (record {
      seen = begins_next v.log.seen (log_in p old) change k.seen there;
      taken = k.taken;
      own = k.own;
      own_seen = λ none.
          own_seen_more v.log.seen (log_in p old) v.numbers v.log.records v.log.marks change rest.0
          rest.1 k.own (k.own_seen none);
      found = k.found;
    }) in
    record {
      view = with_log v l;
      rule = λ new wrote. (both new wrote).0;
      event = λ new wrote. (both new wrote).1;
      same = record { alive = refl; plan = refl; models = refl; numbers = refl };
      told = record { change = change; is = refl };
    }

-- a version is looked at under the log's turn: what is then known hangs on its word
abbrev sought : SeatView → ℕ → ℕ → LogView
sought v u zero = (with_found (log_knowing v (Version u 6) 0) u).log
sought v u (suc at) = (log_knowing v (Version u 6) (suc at)).log

sought_words : (v : SeatView) (u k : ℕ) → (sought v u k).words ≡ (Version u 6, k) ∷ v.log.words
sought_words v u zero = refl
sought_words v u (suc at) = refl

sought_turn : (v : SeatView) (u k : ℕ) → (sought v u k).turn ≡ v.log.turn
sought_turn v u zero = refl
sought_turn v u (suc at) = refl

sought_knows : (log : Log) (v : SeatView) (u k : ℕ) → SeatKnows log v.numbers v.log
    → number_seen v ≤ length log.records → (k ≡ 0 → IsUnmarked log.marks u)
    → SeatKnows log v.numbers (sought v u k)
sought_knows log v u zero k le none = record {
  seen = k.seen;
  taken = k.taken;
  own = k.own;
  own_seen = k.own_seen;
  found = λ f c. first_or_more (record { version = u; at = number_seen v }) v.log.found f c
      (λ e. subst (λ (g : Found). WasFound log g) e
      (record { at = le; held = λ i d lt same. absurd (none refl i d lt same) }))
      (λ more. k.found f more);
}
sought_knows log v u (suc at) k le none = record {
  seen = k.seen;
  taken = k.taken;
  own = k.own;
  own_seen = k.own_seen;
  found = k.found;
}

sought_none : (v : SeatView) (u k : ℕ) → k ≡ 0
    → with_log v (sought v u k) ≡ with_found (log_knowing v (Version u 6) k) u
sought_none v u zero e = refl
sought_none v u (suc at) e = absurd (omega arith)

sought_some : (v : SeatView) (u k at : ℕ) → k ≡ suc at
    → with_log v (sought v u k) ≡ log_knowing v (Version u 6) k
sought_some v u zero at e = absurd (omega arith)
sought_some v u (suc k) at e = refl

-- the mark of a version stands in the log
pub marked_there : (p : Layout) (models : List Content) (mem : WordId → ℕ) (views : List SeatView)
    (u at : ℕ) → KeepsRule p models mem views → u < versions → mem (Version u 6) ≡ suc at
    → Contains (marks_in mem versions) (mark_of_words u at (mem (Version u 7)))
    × ((u < at) × (at ≤ mem LogLength))
marked_there p models mem views u at r lt is =
    let there = mark_stands mem versions u at lt is in
    let of =
    All-contains (λ m. (m.version < m.at) × (m.at ≤ length (records_in mem (mem LogLength))))
    (marks_in mem versions)
    (mark_of_words u at (mem (Version u 7))) r.sound.versions.legal.marked there in
    let long = length_records mem (mem LogLength) in
    let a = of.0 in let b = of.1 in (there, (a, omega arith))

pub seeks_mark : (p : Layout) (seat : ℕ) (v : SeatView) (u : ℕ) → SeesAll v → u ≤ number_seen v
    → MayWrite p seat v (Version u 6) (λ n. n) (Rests p)
    (λ k w. (k ≡ 0 → (w ≡ with_found (log_knowing v (Version u 6) k) u)
    × IsUnmarked v.log.seen.marks u)
    × ((at : ℕ) → k ≡ suc at → (w ≡ log_knowing v (Version u 6) k) × (u < at)
    × (at ≤ number_seen v))
    × ((n : ℕ) → known_at (Version u 6) v.log.words ≡ Some n → k ≡ n))
seeks_mark p seat v u sees low models old views r at =
    let x : WordId = Version u 6 in
    let l : LogView = sought v u (old x) in
    let k = one_knows (old Sessions) (log_in p old) views seat v r.log.knows at in
    let le = seen_le p models old views seat v r at in
    let few = log_few p models old views seat v r at in
    let long = length_records old (old LogLength) in
    let all : old LogLength ≡ number_seen v =
    r.log.turn.known seat v at LogLength (number_seen v) sees.turn tt sees.known in
    let both = loaded p models old views seat v x l r at sees.turn tt (sought_turn v u (old x))
    (sought_words v u (old x))
    (sought_knows (log_in p old) v u (old x) k (omega arith) (no_mark old versions u)) in
    record {
      view = with_log v l;
      rule = λ new wrote. (both new wrote).0;
      event = λ new wrote. (both new wrote).1;
      same = record { alive = refl; plan = refl; models = refl; numbers = refl };
      told = (
        λ e. (
          sought_none v u (old x) e,
          all_from (λ m. m.version ≢ u) v.log.seen.marks
              (λ m c. All-contains (λ y. y.version ≢ u) (marks_in old versions) m
              (no_mark old versions u e) (k.seen.marks m c)),
        ),
        λ when e.
            (let m = marked_there p models old views u when r (omega arith) e in
            let h = m.1.1 in
            (sought_some v u (old x) when e, m.1.0, omega arith)),
        λ n known. r.log.turn.known seat v at x n sees.turn tt known,
      );
    }

-- the last word of a version that has a mark is loaded
pub sees_mark : (p : Layout) (seat : ℕ) (v : SeatView) (u at : ℕ) → v.log.turn ≡ true
    → u ≤ number_seen v → known_at (Version u 6) v.log.words ≡ Some (suc at)
    → MayWrite p seat v (Version u 7) (λ n. n) (Rests p)
    (λ k w. (w ≡ with_seen_mark (log_knowing v (Version u 7) k) (mark_of_words u at k))
    × Contains w.log.seen.marks (mark_of_words u at k)
    × ((n : ℕ) → known_at (Version u 7) v.log.words ≡ Some n → k ≡ n))
sees_mark p seat v u when has low known models old views r at =
    let x : WordId = Version u 7 in
    let m : Mark = mark_of_words u when (old x) in
    let l : LogView = (with_seen_mark (log_knowing v x (old x)) m).log in
    let k = one_knows (old Sessions) (log_in p old) views seat v r.log.knows at in
    let le = seen_le p models old views seat v r at in
    let few = log_few p models old views seat v r at in
    let is = log_known p models old views seat v r at u 6 (suc when) has known in
    let there = (marked_there p models old views u when r (omega arith) is).0 in
    let both = loaded p models old views seat v x l r at has tt refl refl
    (record {
      seen = begins_mark v.log.seen (log_in p old) m k.seen there;
      taken = k.taken;
      own = k.own;
      own_seen = λ none.
          own_mark_more v.log.seen (log_in p old) v.numbers v.log.records v.log.marks m there k.own
          (k.own_seen none);
      found = k.found;
    }) in
    record {
      view = with_log v l;
      rule = λ new wrote. (both new wrote).0;
      event = λ new wrote. (both new wrote).1;
      same = record { alive = refl; plan = refl; models = refl; numbers = refl };
      told = (
        refl,
        with_new m v.log.seen.marks
            (λ y c e.
            (let read = mark_read old versions y (k.seen.marks y c) in
            let word = read.word in
            let same : old (Version y.version 6) ≡ suc when =
            ap (λ (n : ℕ). old (Version n 6)) e ∙ is in
            read.is ∙ (let h : y.at ≡ when = omega arith in
            λ i. mark_of_words (e i) (h i) (old (Version (e i) 7))))),
        λ n again. r.log.turn.known seat v at x n has tt again,
      );
    }
