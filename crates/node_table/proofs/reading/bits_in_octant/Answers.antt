use Rattle.std.proofs.Common.{sym, subst}
use Rattle.node_words.specs.shapes.Tree.{child_of}
use Rattle.node_words.specs.descent.Roots.{HasBlock, IsBlockOf}
use Rattle.table_rule.specs.Views.{SeatView}
use Rattle.node_table.proofs.ReadLaws.{has_leaf, leaf_block}
use Rattle.node_table.proofs.reading.bits_in_octant.Goals as goal

pub bits_below-requires-clause-child : goal.bits_below-requires-clause-child
bits_below-requires-clause-child c =
    let r = c.requires.reached in
    let below = c.child_half-child in
    subst (λ (v : SeatView). HasBlock v.held 0 below.result) (sym below.ensures.view)
    (has_leaf c.args.seat.now.view c.tell.ensures r.tree c.args.n r.reached r.root c.requires.level
    c.args.octant below.result (below.ensures.child r.tree r.reached r.root))

pub returns-clause-bits : goal.returns-clause-bits
returns-clause-bits c = λ t r root.
    (let below = c.child_half-child in
    c.bits_below.ensures.bits (child_of t c.args.octant)
    (subst (λ (v : SeatView). IsBlockOf v.held 0 below.result (child_of t c.args.octant))
    (sym below.ensures.view)
    (leaf_block c.args.seat.now.view c.tell.ensures t c.args.n r root c.requires.level
    c.args.octant below.result (below.ensures.child t r root))))
