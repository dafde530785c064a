-- Where an undo or a redo goes.
use Rattle.std.proofs.Common.{◌≡◌, ℕ, ◌+◌, ◌<◌, ◌≤◌, false, Some, List, [], ◌∷◌, length, sym, ◌∙◌, subst, arith}
use Rattle.std.specs.Prelude.{All}
use Rattle.std.proofs.lemmas.Option.{none-some, same_Some}
use Rattle.history_model.specs.declared.acts.Act.{Act}
use Rattle.history_model.specs.declared.acts.Act.TheVariants.{Fill, Erase, Ball, Carve, Copy, Stamp, Tint, Undo, Redo}
use Rattle.history_model.specs.declared.histories.Mark.{Mark}
use Rattle.history_model.specs.Logs.{Log, MayFollow, HasTarget}
use Rattle.history_model.specs.PositionLaws.{names_below}
use Rattle.history_model.specs.Positions.{position_after, first_of, undone, redone}
use Rattle.history_model.specs.Worlds.{is_edit}
use Rattle.core_laws.specs.contents.Versions.{IsUnmarked}
use Rattle.core_laws.specs.Making.{version_gone_to}
use Rattle.conformance.specs.Answers.{target_at}
use Rattle.conformance.proofs.LineKinds.{undo_target, redo_target}

goes_undo : (past : List ℕ) (now : ℕ) (future : List ℕ) (v : ℕ) → first_of past ≡ Some v
    → (undone past now future).now ≡ v
goes_undo [] now future v e = absurd (none-some v e)
goes_undo (to ∷ past) now future v e = same_Some to v e

goes_redo : (past : List ℕ) (now : ℕ) (future : List ℕ) (v : ℕ) → first_of future ≡ Some v
    → (redone past now future).now ≡ v
goes_redo past now [] v e = absurd (none-some v e)
goes_redo past now (to ∷ future) v e = same_Some to v e

has_target : (marks : List Mark) (n : ℕ) (past : List ℕ) (v : ℕ) → first_of past ≡ Some v
    → IsUnmarked marks v → HasTarget marks n past
has_target marks n [] v e unmarked = absurd (none-some v e)
has_target marks n (to ∷ more) v e unmarked =
    λ k m lt same. absurd (unmarked k m lt (same ∙ same_Some to v e))

first_below : (past : List ℕ) (v n : ℕ) → first_of past ≡ Some v → All (λ w. w < n) past → v < n
first_below [] v n e below = absurd (none-some v e)
first_below (to ∷ past) v n e below =
    subst (λ (w : ℕ). w < n) (same_Some to v e) (below 0 0 (omega arith))

-- the version is there, the act goes to it, and the act may come next where it has no mark
pub record GoesTo (log : Log) (act : Act) (to : ℕ) : Type 0 where
  pub there : to ≤ length log.records
  pub goes : version_gone_to log.records act ≡ to
  pub may : IsUnmarked log.marks to
      → MayFollow log.marks (length log.records + 1) act (position_after log.records)

pub goes_to : (log : Log) (act : Act) (to : ℕ) → is_edit act ≡ false
    → target_at log.records (length log.records) act ≡ Some to → GoesTo log act to
goes_to log Undo to other e =
    let at = position_after log.records in
    let first : first_of at.past ≡ Some to = sym (undo_target log.records) ∙ e in
    let lt = first_below at.past to (length log.records + 1) first (names_below log.records).past in
    record {
      there = omega arith;
      goes = goes_undo at.past at.now at.future to first;
      may = has_target log.marks (length log.records + 1) at.past to first;
    }
goes_to log Redo to other e =
    let at = position_after log.records in
    let first : first_of at.future ≡ Some to = sym (redo_target log.records) ∙ e in
    let lt =
    first_below at.future to (length log.records + 1) first (names_below log.records).future
    in
    record {
      there = omega arith;
      goes = goes_redo at.past at.now at.future to first;
      may = has_target log.marks (length log.records + 1) at.future to first;
    }
goes_to log (Fill b) to other e = absurd (let no : ⊥ = cc in no)
goes_to log (Erase b) to other e = absurd (let no : ⊥ = cc in no)
goes_to log (Ball b) to other e = absurd (let no : ⊥ = cc in no)
goes_to log (Carve b) to other e = absurd (let no : ⊥ = cc in no)
goes_to log (Copy b c) to other e = absurd (let no : ⊥ = cc in no)
goes_to log (Stamp b c) to other e = absurd (let no : ⊥ = cc in no)
goes_to log (Tint t) to other e = absurd (let no : ⊥ = cc in no)
