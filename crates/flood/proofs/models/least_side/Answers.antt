use Rattle.std.proofs.Common.{ℕ, ap, ◌∙◌}
use Rattle.std.specs.Prelude.{max}
use Rattle.flood.proofs.ModelLaws.{least_holding}
use Rattle.flood.proofs.models.least_side.Goals as goal

pub returns : goal.returns
returns c =
    least_holding c.args.size c.max-most.result c.least_cells.result c.in-Some.side
    c.in-Some.ensures.value c.least_cells.ensures.least c.least_cells.ensures.small
    c.least_cells.ensures.holds c.least_cells.ensures.tight
    (c.max-most.ensures ∙ ap (λ (most : ℕ). max most c.args.size.z) c.max.ensures)
