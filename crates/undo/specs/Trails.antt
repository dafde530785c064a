-- The versions that undos and redos go to, kept as two stacks.
use Rattle.std.specs.Prelude.{◌<◌, reverse, vec_len, vec_capacity}
use Rattle.history_model.specs.Positions.{Position}
use Rattle.undo.specs.declared.trails.Trail.{Trail}

-- the next versions stand last in both stacks
abbrev pub trail_position : Trail → Position
trail_position t =
    record { past = reverse t.past.items; now = t.here; future = reverse t.future.items }

-- one more version has room in both
pub record HasSlack (t : Trail) : Type 0 where
  pub past : vec_len t.past < vec_capacity t.past
  pub future : vec_len t.future < vec_capacity t.future
