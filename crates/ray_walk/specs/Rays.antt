-- The course of a ray, in whole numbers without signs.
use Rattle.std.specs.Prelude.{ℕ, ◌+◌, ◌*◌, ℤ}
use Rattle.vw_cell.specs.declared.cells.Cell.{Cell}
use Rattle.history_model.specs.Ways.{Heading, ahead, behind}
use Rattle.history_model.specs.Rays.{scale}
use Rattle.ray_walk.specs.declared.courses.Track.{Track}
use Rattle.ray_walk.specs.declared.courses.Course.{Course}

-- on one axis: from the centre of cell o by steps of d, in units of 1 / (2 * l)
abbrev pub track_of : ℕ → ℕ → ℤ → Track
track_of l o d =
    record { unit = 2 * l; start = l * (2 * o + 1); ahead = ahead d; behind = behind d }

abbrev pub course_of : Cell → Heading → Course
course_of from h =
    record {
      x = track_of (scale h) from.x h.dx;
      y = track_of (scale h) from.y h.dy;
      z = track_of
          (scale h) from.z h.dz;
    }
