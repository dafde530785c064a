use Rattle.std.proofs.Common.{rules, ◌≡◌, ◌∙◌, subst}
use Rattle.vw_cell.specs.declared.cells.Cell.{Cell}
use Rattle.vox_read.specs.Contents.{Content}
use Rattle.flood.specs.Models.{IsLeastHolding}
use Rattle.flood.proofs.ModelLaws.{flood_refused, item_there}
use Rattle.flood.proofs.models.model_region.Goals as goal

pub returns-in-Err-clause-refused : goal.returns-in-Err-clause-refused
returns-in-Err-clause-refused c =
    let seen : c.models.inside.list.items ≡ c.args.models.now = search rules in
    let size : c.model.inside.size ≡ c.in-Some.model.now.size = search rules in
    flood_refused c.args.models.now c.args.number c.args.from c.in-Some.model.now c.in-Err.refused
    c.least_side-side.result
    (item_there Content c.args.models.now c.deref.result.now c.args.number c.in-Some.model.now
    (c.deref.ensures.value ∙ seen) c.in-Some.ensures.lookup.3.0 c.in-Some.ensures.lookup.1)
    (search rules)
    (subst (λ (s : Cell). IsLeastHolding s c.least_side-side.result) size c.least_side-side.ensures)
    (search rules)
