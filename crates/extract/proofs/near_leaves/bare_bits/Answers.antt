use Rattle.std.proofs.Common.{ap, refl}
use Rattle.node_words.specs.Held.{bits_of_leaf}
use Rattle.extract.proofs.NearLaws.{bare_leaf}
use Rattle.extract.proofs.near_leaves.bare_bits.Goals as goal

pub returns : goal.returns
returns c s u here there =
    bare_leaf c.args.direction c.args.octant _ c.bits_across-next.result c.next_bits.result _
    c.args.block.now c.args.beside.now s u c.requires c.next_bits.ensures.bound refl
    (ap (bits_of_leaf c.args.block.now) c.from.ensures) c.bits_across-next.ensures
    c.next_bits.ensures.next here there
