use Rattle.std.proofs.lemmas.Bool.{eqb-true}
use Rattle.measure.proofs.WideningLaws.{leaf_found}
use Rattle.measure.proofs.extents.has_leaf.Goals as goal

pub returns-in-Some : goal.returns-in-Some
returns-in-Some c all =
    leaf_found c.args.bits c.box_bits-within.result _ c.args.place c.args.found c.requires.level
    c.in-Some.is c.box_bits-within.ensures.bits (eqb-true _ _ all)
