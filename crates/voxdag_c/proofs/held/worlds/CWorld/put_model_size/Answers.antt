use Rattle.std.proofs.Common.{ℕ, Some, refl, sym, ◌∙◌, ap}
use Rattle.std.specs.List.{slice_get}
use Rattle.vw_cell.specs.declared.cells.Cell.{Cell}
use Rattle.store_run.specs.Worlds.{size_of}
use Rattle.voxdag_c.specs.held.Calls.{PutsSize}
use Rattle.voxdag_c.proofs.OfHeld.Fitting.{no_size}
use Rattle.voxdag_c.proofs.held.worlds.CWorld.put_model_size.Goals as goal

pub returns-in-Some : goal.returns-in-Some
returns-in-Some c =
    PutsSize.told
    (ap (λ (k : ℕ). size_of (slice_get c.args.self.now.open.models k)) (sym c.from.ensures)
    ∙ sym c.in-Some.ensures ∙ ap (λ (s : Cell). Some s) (sym c.of.ensures))

pub returns-in-None : goal.returns-in-None
returns-in-None c =
    PutsSize.no_model
    (no_size c.args.self.now.open.models c.args.number
    (c.in-None.ensures
    ∙ ap (λ (k : ℕ). size_of (slice_get c.args.self.now.open.models k)) c.from.ensures)) refl
