use Rattle.std.proofs.Common.{◌^◌}
use Rattle.history_model.specs.Making.{TellsWorld, RowIsMade}
use Rattle.history_model.specs.Worlds.{World}
use Rattle.history_model.proofs.making.is_row_made.Given as goal

abbrev pub invariant-loop-x : goal.invariant-loop-x
invariant-loop-x g l =
    (v w : World) → TellsWorld (goal.F-post g l.before) v → TellsWorld (goal.G-post g l.after) w
    → RowIsMade (2 ^ l.side) l.models l.act v w l.y l.z l.x
