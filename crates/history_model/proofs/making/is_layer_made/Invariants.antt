use Rattle.std.proofs.Common.{◌^◌}
use Rattle.history_model.specs.Making.{TellsWorld, LayerIsMade}
use Rattle.history_model.specs.Worlds.{World}
use Rattle.history_model.proofs.making.is_layer_made.Given as goal

abbrev pub invariant-loop-y : goal.invariant-loop-y
invariant-loop-y g l =
    (v w : World) → TellsWorld (goal.F-post g l.before) v → TellsWorld (goal.G-post g l.after) w
    → LayerIsMade (2 ^ l.side) l.models l.act v w l.z l.y
