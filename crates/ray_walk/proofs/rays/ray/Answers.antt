use Rattle.std.proofs.Common.{sym, subst}
use Rattle.vw_cell.specs.Places.{block_side}
use Rattle.node_words.proofs.OfDescent.BlockLaws.{root_block}
use Rattle.node_words.proofs.OfDescent.LookLaws.{in_root}
use Rattle.ray_walk.specs.declared.courses.Course.{Course}
use Rattle.ray_walk.specs.Courses.{IsCourseIn, BeginsBelow}
use Rattle.ray_walk.proofs.RayLaws.{course_starts, course_begins, in_greatest, first_of}
use Rattle.ray_walk.proofs.rays.ray.Goals as goal

pub course-course-requires : goal.course-course-requires
course-course-requires g c =
    record { from = in_greatest c.args.side c.args.from c.root_level-level.ensures.bounds.1 c.requires.from }

pub walk-requires-clause-block : goal.walk-requires-clause-block
walk-requires-clause-block g c =
    rw (c.root_level-level.ensures.value, c.name_of.ensures)
    (root_block _ c.args.side _ c.requires.root)

pub walk-requires-clause-begins : goal.walk-requires-clause-begins
walk-requires-clause-begins g c =
    let inside =
    in_root c.root_level-level.result c.args.side c.args.from c.root_level-level.ensures.value c.root_level-level.ensures.bounds.0 c.requires.from in
    subst (λ (r : Course). BeginsBelow r (block_side c.root_level-level.result))
    (sym c.course-course.ensures.course)
    (course_begins c.args.from c.args.way (block_side c.root_level-level.result) inside)

pub walk-requires-clause-from : goal.walk-requires-clause-from
walk-requires-clause-from g c =
    subst (λ (r : Course). IsCourseIn r 0 c.args.from) (sym c.course-course.ensures.course)
    (course_starts c.args.from c.args.way)

pub walk-requires-clause-cell : goal.walk-requires-clause-cell
walk-requires-clause-cell g c =
    in_root _ c.args.side c.args.from c.root_level-level.ensures.value c.root_level-level.ensures.bounds.0 c.requires.from

pub returns-clause-first : goal.returns-clause-first
returns-clause-first g c =
    first_of _ c.root_level-level.result c.args.side _ c.name_of.result c.args.from c.args.way c.course-course.result c.walk.result c.root_level-level.ensures.value c.root_level-level.ensures.bounds.0 c.name_of.ensures c.course-course.ensures.course c.walk.ensures.meets
