use Rattle.std.proofs.Common.{◌≡◌}
use Rattle.node_words.proofs.WalkLaws.{IsOnWay}
use Rattle.node_words.proofs.under.has_cell.Given as goal

abbrev pub invariant-loop-block : goal.invariant-loop-block
invariant-loop-block g l =
    IsOnWay (g.B.Blocks.seen l.fn.store).held l.share l.fn.block l.c l.node.name l.block
    × (g.B.Blocks.seen l.node.store.now ≡ g.B.Blocks.seen l.fn.store)
    × g.B.Blocks.rests l.fn.store l.node.store.now
    × (l.node.store.ghost_name ≡ l.initial.node.store.ghost_name)

abbrev pub decreases-loop-block : goal.decreases-loop-block
decreases-loop-block g l = l.block.level
