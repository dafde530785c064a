use Rattle.std.proofs.Common.{true, false}
use Rattle.node_words.specs.descent.Roots.{cells_of}
use Rattle.node_words.specs.shapes.Tree.{shape_of}
use Rattle.node_words.proofs.OfDescent.LookLaws.{is_nothing}
use Rattle.node_words.proofs.OfDescent.LandLaws.{clear_land, clear_alone, leaf_cell_is, is_something}
use Rattle.node_words.proofs.descent.looks.look.Goals as goal

pub returns-then-is_none-clause-looks : goal.returns-then-is_none-clause-looks
returns-then-is_none-clause-looks g c t o =
    let d = c.descend-at.ensures in
    clear_land _ c.args.level c.args.c c.descend-at.result c.land.result t
    (is_nothing c.descend-at.result.block c.if-is_none.ensures) c.land.ensures d.within d.inner
    (d.lands t o)

pub returns-then-leaf_has-clause-looks : goal.returns-then-leaf_has-clause-looks
returns-then-leaf_has-clause-looks g c t o =
    let d = c.descend-at.ensures in
    leaf_cell_is (g.B.Blocks.seen c.args.store.now)
    (g.B.Blocks.seen c.descend-at.new.store) c.args.level c.args.c c.descend-at.result t c.leaf_bits-bits.result c.leaf_has.result true
    d.seen (d.last
    (is_something c.descend-at.result.block c.if-is_none.ensures)) d.within d.inner c.leaf_bits-bits.ensures.bits c.leaf_has.ensures c.if-leaf_has.true (d.lands t o)

pub returns-else-leaf_has-clause-looks : goal.returns-else-leaf_has-clause-looks
returns-else-leaf_has-clause-looks g c t o =
    let d = c.descend-at.ensures in
    clear_alone _
    (cells_of c.args.level
    (shape_of t)) c.args.c c.single.result c.single.ensures c.requires.cell
    (leaf_cell_is (g.B.Blocks.seen c.args.store.now)
    (g.B.Blocks.seen c.descend-at.new.store) c.args.level c.args.c c.descend-at.result t c.leaf_bits-bits.result c.leaf_has.result false
    d.seen (d.last
    (is_something c.descend-at.result.block c.if-is_none.ensures)) d.within d.inner c.leaf_bits-bits.ensures.bits c.leaf_has.ensures c.if-leaf_has.false (d.lands t o))
