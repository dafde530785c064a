use Rattle.std.proofs.Common.{◌-◌, arith, rules}
use Rattle.extract.proofs.LeafLaws.{small_box}
use Rattle.colour.proofs.LayerLaws.{was_read}
use Rattle.colour.proofs.layers.turn_to.Goals as goal

pub returns-then-layer-wanted-clause-rows : goal.returns-then-layer-wanted-clause-rows
returns-then-layer-wanted-clause-rows g c t block =
    was_read _ c.args.z _ c.args.b c.args.side t (search rules)
    (small_box (c.args.side - 2) c.args.b (omega arith) c.requires.inside c.requires.small.0
    c.requires.small.1 c.requires.small.2) c.requires.z (c.requires.rows t block)
