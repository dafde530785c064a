use Rattle.std.proofs.Common.{refl, rules}
use Rattle.measure.proofs.SubjectLaws.{some_set}
use Rattle.measure.proofs.WideningLaws.{root_lies}
use Rattle.extract.proofs.FillLaws.{layer_filled, all_zero}
use Rattle.extract.proofs.leaves.gather.Goals as goal

pub fill-requires : goal.fill-requires
fill-requires g c = (
  (search rules),
  (
    c.requires.level,
    (
      some_set _ c.args.level c.args.block c.requires.block,
      (
        root_lies c.args.level c.requires.level,
        (
          (search rules),
          (c.requires.b, ((search rules), ((search rules), c.new-wholes.ensures _))),
        ),
      ),
    ),
  ),
)

pub returns-clause-layer : goal.returns-clause-layer
returns-clause-layer g c =
    layer_filled _ c.args.level _ c.args.z c.args.block c.args.b _ _ c.requires.b c.requires.ends c.requires.z refl (λ m. all_zero m) c.fill.ensures.fills
