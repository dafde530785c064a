use Rattle.std.proofs.Common.{sym, refl}
use Rattle.node_words.proofs.OfDescent.LookLaws.{is_nothing}
use Rattle.node_words.proofs.OfDescent.LandLaws.{lands_unset, leaf_cell_is, is_something}
use Rattle.measure.proofs.counts.is_set_in.Goals as goal

pub returns-then-is_none-clause-value : goal.returns-then-is_none-clause-value
returns-then-is_none-clause-value g c t o =
    let d = c.descend-at.ensures in
    sym (lands_unset _ c.args.level c.args.c c.descend-at.result t
    (is_nothing c.descend-at.result.block c.if-is_none.ensures) (d.lands t o) d.within d.inner)

pub returns-clause-value : goal.returns-clause-value
returns-clause-value g c t o =
    let d = c.descend-at.ensures in
    sym (leaf_cell_is (g.B.Blocks.seen c.args.store.now)
    (g.B.Blocks.seen c.descend-at.new.store) c.args.level c.args.c c.descend-at.result t c.leaf_bits-bits.result c.leaf_has.result c.leaf_has.result
    d.seen (d.last
    (is_something c.descend-at.result.block c.if-is_none.ensures)) d.within d.inner c.leaf_bits-bits.ensures.bits c.leaf_has.ensures refl (d.lands t o))
