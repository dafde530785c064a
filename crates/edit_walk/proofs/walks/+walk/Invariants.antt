use Rattle.std.proofs.Common.{◌≡◌, ◌+◌, ◌*◌, ◌≤◌, max, List, length}
use Rattle.vw_cell.specs.Sums.{sum_below}
use Rattle.node_words.specs.shapes.Tree.{Tree}
use Rattle.node_words.specs.Gathering.{Grows}
use Rattle.node_words.specs.contents.CellShapes.{Cells, shape_with}
use Rattle.edit_walk.specs.blocks.Blocks.{height}
use Rattle.edit_walk.specs.Walks.{walk_at, Begins, Partway}
use Rattle.edit_walk.proofs.walks.+walk.Given as goal

abbrev pub decreases-build : goal.decreases-build
decreases-build g l = 5 * l.level + 4

abbrev pub decreases-fresh : goal.decreases-fresh
decreases-fresh g l = 5 * l.level + 3

abbrev pub decreases-made : goal.decreases-made
decreases-made g l = 5 * l.level + 2

abbrev pub decreases-gather : goal.decreases-gather
decreases-gather g l = 5 * l.level + 1

abbrev pub invariant-gather-loop-k : goal.invariant-gather-loop-k
invariant-gather-loop-k g l =
    let seen = g.N.Blocks.seen in
    record {
      partway : (base rest : List Tree) (cells : Cells)
          → Begins g.T.Task.makes base rest l.level l.task cells
          (walk_at (seen l.fn.store) l.fn.full (g.M.Memo.has l.fn.memo))
          → Partway g.T.Task.makes base rest l.level l.task cells l.children l.standing l.k
          (walk_at (seen l.store) l.full (g.M.Memo.has l.memo));
      grows : (base rest : List Tree) (cells : Cells)
          → Begins g.T.Task.makes base rest l.level l.task cells
          (walk_at (seen l.fn.store) l.fn.full (g.M.Memo.has l.fn.memo))
          → Grows (shape_with l.level cells) (seen l.fn.store) (seen l.store);
      turns : l.steps + 16 * height l.fn.full.share ≤ l.fn.steps + 16 * height l.full.share + l.k + 25 * sum_below l.k (g.T.Task.mixed_in l.level l.task);
      height_is : height l.full.share ≤ max (height l.fn.full.share) l.level;
      long : length l.children ≡ 8;
      wide : length l.standing ≡ 8;
      rests : g.N.Blocks.rests l.fn.store l.store;
    }
