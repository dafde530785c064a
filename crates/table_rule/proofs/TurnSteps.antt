-- A bucket's turn is taken, and given back.
use Rattle.std.proofs.Common.{◌≡◌, ◌≢◌, ℕ, ◌+◌, eqb, eq-eqb, ne_eqb, Some, None, List, set, refl, sym, subst, inl, inr}
use Rattle.std.specs.List.{slice_get, Contains}
use Rattle.std.proofs.lemmas.Bool.{cases_eq}
use prog.Atomic.{either}
use Rattle.vox_read.specs.Contents.{Content}
use Rattle.node_words.specs.Plans.{Layout}
use Rattle.core_laws.specs.places.WordIds.{WordId, LogTurn, LogLength, Version, Sessions, IsWordId}
use Rattle.core_laws.specs.Events.{EntriesStay, Rests}
use Rattle.table_rule.specs.Reading.{Wrote}
use Rattle.table_rule.specs.Views.{SeatView, BucketAt}
use Rattle.table_rule.specs.TurnRules.{turn_of, KeepsTurns}
use Rattle.table_rule.specs.Rules.{KeepsRule, table_state, SameSession, MayWrite}
use Rattle.table_rule.proofs.Lookups.{set_again}
use Rattle.table_rule.proofs.PartA.{take_step, leave_step, same_seat}
use Rattle.table_rule.proofs.StateSteps.{quiet, entries_same, same_mem}
use Rattle.table_rule.proofs.LogReading.{LogStays}
use Rattle.table_rule.proofs.LogKept.{SameLog, same_log}
use Rattle.table_rule.specs.Changes.{under_turn}

pub same_session : (v : SeatView) → SameSession v v
same_session v = record { alive = refl; plan = refl; models = refl; numbers = refl }

-- a word that stays is no step of the table's
pub nothing_written : (p : Layout) (models : List Content) (old new : WordId → ℕ)
    (views : List SeatView) (seat : ℕ) (v : SeatView) (x : WordId) → KeepsRule p models old views
    → slice_get views seat ≡ Some v → Wrote old x (old x) new
    → KeepsRule p models new (set views seat v)
    × Rests p (table_state p old views) (table_state p new (set views seat v))
nothing_written p models old new views seat v x r at wrote =
    subst (λ m. KeepsRule p models m (set views seat v)
    × Rests p (table_state p old views) (table_state p m (set views seat v)))
    (sym (same_mem old new x wrote))
    (subst (λ after. KeepsRule p models old after
    × Rests p (table_state p old views)
    (table_state p old after)) (sym (set_again views seat v at)) (
      r,
      record {
        entries = record { book = λ m is. refl; key = λ m live. refl };
        roots = λ u. refl;
        held = refl;
      },
    ))

module _ (p : Layout) (models : List Content) (old new : WordId → ℕ) (views : List SeatView)
    (seat : ℕ) (v w : SeatView) (r : KeepsRule p models old views)
    (at : slice_get views seat ≡ Some v) (b : BucketAt) (n : ℕ)
    (wrote : Wrote old (turn_of b) n new) where
  entries : EntriesStay p (table_state p old views) (table_state p new (set views seat w))
  entries =
      entries_same p models old new views seat v w r at (turn_of b) n wrote
      (λ m e. (let no : ⊥ = cc in no)) (λ m i e. (let no : ⊥ = cc in no))

  log : LogStays old new
  log = record {
    turn = wrote.others LogTurn (λ e. (let no : ⊥ = cc in no));
    length = wrote.others LogLength (λ e. (let no : ⊥ = cc in no));
    version = λ u i. wrote.others (Version u i) (λ e. (let no : ⊥ = cc in no));
  }

  pub sessions : new Sessions ≡ old Sessions
  sessions = wrote.others Sessions (λ e. (let no : ⊥ = cc in no))

  -- the word of a turn changes, and with it what the view says of turns
  pub turn_written : KeepsTurns p new (set views seat w) → w.plan ≡ v.plan → w.models ≡ v.models
      → w.alive ≡ v.alive → w.held ≡ v.held → w.made ≡ v.made → w.met ≡ v.met → SameLog v w
      → KeepsRule p models new (set views seat w)
      × Rests p (table_state p old views) (table_state p new (set views seat w))
  turn_written turns plan models' alive held made met same =
      quiet p models old new views seat v w r at entries log sessions same turns plan models' alive
      held made
      (λ m h. inl (subst (λ l. Contains l m) met h))

module _ (p : Layout) (seat : ℕ) (v : SeatView) (b : BucketAt) (models : List Content)
    (old : WordId → ℕ) (views : List SeatView) (r : KeepsRule p models old views)
    (at : slice_get views seat ≡ Some v) (new : WordId → ℕ) where
  taken : (k : ℕ) → v.turn ≡ None → IsWordId p (turn_of b) → Contains v.numbers k
      → old (turn_of b) ≡ 0 → Wrote old (turn_of b) (either (eqb (old (turn_of b)) 0) (1 + k)
      (old (turn_of b))) new
      → KeepsRule p models new (set views seat (under_turn v (Some b)))
      × Rests p (table_state p old views) (table_state p new (set views seat (under_turn v (Some b))))
  taken k idle low mine free written =
      let w : SeatView = under_turn v (Some b) in
      let wrote : Wrote old (turn_of b) (1 + k) new =
      subst (λ t. Wrote old (turn_of b) (either t (1 + k) (old (turn_of b))) new)
      (eq-eqb (old (turn_of b)) 0 free) written in
      turn_written p models old new views seat v w r at b (1 + k) wrote
      (take_step p old views r.turns seat v at new w (same_seat v w refl refl refl)
      (sessions p models old new views seat v w r at b (1 + k) wrote)
      b k low idle mine free wrote refl refl) refl refl refl refl refl refl
      (same_log v w refl refl)

  missed : (k : ℕ) → old (turn_of b) ≢ 0
      → Wrote old (turn_of b) (either (eqb (old (turn_of b)) 0) (1 + k) (old (turn_of b))) new
      → KeepsRule p models new (set views seat v)
      × Rests p (table_state p old views) (table_state p new (set views seat v))
  missed k taken written =
      nothing_written p models old new views seat v (turn_of b) r at
      (subst (λ t. Wrote old (turn_of b) (either t (1 + k) (old (turn_of b))) new)
      (ne_eqb (old (turn_of b)) 0 taken) written)

  left : v.turn ≡ Some b → Wrote old (turn_of b) 0 new
      → KeepsRule p models new (set views seat (under_turn v None))
      × Rests p (table_state p old views) (table_state p new (set views seat (under_turn v None)))
  left has wrote =
      let w : SeatView = under_turn v None in
      turn_written p models old new views seat v w r at b 0 wrote
      (leave_step p old views r.turns seat v at new w (same_seat v w refl refl refl)
      (sessions p models old new views seat v w r at b 0 wrote) b has wrote refl)
      refl refl refl refl refl refl (same_log v w refl refl)

pub takes : (p : Layout) (seat : ℕ) (v : SeatView) (b : BucketAt) (k : ℕ) → v.turn ≡ None
    → IsWordId p (turn_of b) → Contains v.numbers k
    → MayWrite p seat v (turn_of b) (λ n. either (eqb n 0) (1 + k) n) (Rests p)
    (λ n w. (n ≡ 0 → w ≡ under_turn v (Some b)) × (n ≢ 0 → w ≡ v))
takes p seat v b k idle low mine models old views r at =
    elim (cases_eq (old (turn_of b)) 0) [
      | inl free ↦ record {
        view = under_turn v (Some b);
        rule = λ new e. (taken p seat v b models old views r at new k idle low mine free e).0;
        event = λ new e. (taken p seat v b models old views r at new k idle low mine free e).1;
        same = record { alive = refl; plan = refl; models = refl; numbers = refl };
        told = ((λ _. refl), λ ne. absurd (ne free));
      }
      | inr other ↦ record {
        view = v;
        rule = λ new e. (missed p seat v b models old views r at new k other e).0;
        event = λ new e. (missed p seat v b models old views r at new k other e).1;
        same = same_session v;
        told = ((λ e. absurd (other e)), λ _. refl);
      }
    ]

pub leaves : (p : Layout) (seat : ℕ) (v : SeatView) (b : BucketAt) → v.turn ≡ Some b
    → MayWrite p seat v (turn_of b) (λ _. 0) (Rests p) (λ _ w. w ≡ under_turn v None)
leaves p seat v b has models old views r at = record {
  view = under_turn v None;
  rule = λ new e. (left p seat v b models old views r at new has e).0;
  event = λ new e. (left p seat v b models old views r at new has e).1;
  same = record { alive = refl; plan = refl; models = refl; numbers = refl };
  told = refl;
}
