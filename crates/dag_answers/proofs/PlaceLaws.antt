-- What is made of numbers lies in the world.
use Rattle.std.proofs.Common.{◌≡◌, ℕ, ◌↔◌, Option, Some, None, refl, sym, subst}
use Rattle.std.specs.Prelude.{IsSome, IfSome, IfOk}
use Rattle.std.specs.Option.{ok_or}
use Rattle.vw_cell.specs.declared.cells.Cell.{Cell}
use Rattle.vw_cell.specs.declared.boxes.Boxed.{Boxed}
use Rattle.vw_cell.specs.Places.{FitsAt}
use Rattle.history_model.specs.Ways.{Heading, IsHeading}
use Rattle.script.specs.declared.faults.ScriptKind.{ScriptKind}

pub box_fits : (at size : Cell) (side : ℕ) (made : Option Boxed) (kind : ScriptKind)
    → (IsSome made ↔ FitsAt at size side) → IfSome made (λ b. (b.at ≡ at) × (b.size ≡ size))
    → IfOk (ok_or made kind) (λ b. FitsAt b.at b.size side)
box_fits at size side None kind exactly value = tt
box_fits at size side (Some b) kind exactly value =
    subst (λ (a : Cell). FitsAt a b.size side) (sym value.0)
    (subst (λ (s : Cell). FitsAt at s side) (sym value.1) (exactly.0 refl))

pub way_fits : (h : Heading) (made : Option Heading) (kind : ScriptKind)
    → (IsSome made ↔ IsHeading h) → IfSome made (λ way. way ≡ h)
    → IfOk (ok_or made kind) IsHeading
way_fits h None kind exactly value = tt
way_fits h (Some way) kind exactly value = subst IsHeading (sym value) (exactly.0 refl)
