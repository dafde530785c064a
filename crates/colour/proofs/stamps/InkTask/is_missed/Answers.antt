use Rattle.std.proofs.Common.{sym, ◌∙◌, ap, subst}
use Rattle.std.specs.Prelude.{not}
use Rattle.std.proofs.lemmas.Bool.{false≢true}
use Rattle.vw_cell.specs.declared.cells.Cell.{Cell}
use Rattle.vw_cell.specs.Places.{Meets}
use Rattle.colour.proofs.StampBlocks.{ink_missed}
use Rattle.colour.proofs.stamps.InkTask.is_missed.Goals as goal

pub returns : goal.returns
returns c e =
    ink_missed 0 c.args.self.now.stencil.now c.args.self.now.place.now
    (record { level = c.args.level; at = c.args.self.now.at }) (λ h.
    let met = c.meets.ensures.1
    (subst (λ (s : Cell). Meets (record { at = c.args.self.now.place.now; size = s })
    (record { level = c.args.level; at = c.args.self.now.at })) (sym c.size.ensures.value) h) in
    false≢true (sym (ap not met) ∙ e))
