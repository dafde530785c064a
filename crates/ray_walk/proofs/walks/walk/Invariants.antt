use Rattle.std.proofs.Common.{◌≡◌, ◌^◌, ◌-◌, ◌<◌}
use Rattle.vw_cell.specs.Places.{block_side, IsInWorld}
use Rattle.node_words.specs.shapes.Tree.{Tree, shape_of}
use Rattle.node_words.specs.descent.Roots.{IsBlockOf, cells_of}
use Rattle.ray_walk.specs.Courses.{IsCourseIn, CourseClearBefore}
use Rattle.ray_walk.proofs.walks.walk.Given as goal

abbrev pub invariant-loop-clear : goal.invariant-loop-clear
invariant-loop-clear g l =
    let seen = g.B.Blocks.seen in
    record {
      at : IsCourseIn l.course l.instant l.cell;
      in_world : IsInWorld (block_side l.fn.level) l.cell;
      before : (t : Tree) → IsBlockOf (seen l.fn.store).held l.fn.level l.fn.block t
          → CourseClearBefore l.course (block_side l.fn.level)
          (cells_of l.fn.level (shape_of t)) l.instant;
      near : l.instant < 2 ^ 45;
      same : seen l.store ≡ seen l.fn.store;
      rests : g.B.Blocks.rests l.fn.store l.store;
    }

abbrev pub decreases-loop-clear : goal.decreases-loop-clear
decreases-loop-clear g l = 2 ^ 45 - l.instant
