use Rattle.std.proofs.Common.{◌^◌}
use Rattle.history_model.specs.Making.{TellsWorld, LayersAreMade}
use Rattle.history_model.specs.Worlds.{World}
use Rattle.history_model.proofs.making.may_make.Given as goal

abbrev pub invariant-loop-z : goal.invariant-loop-z
invariant-loop-z g l =
    (v w : World) → TellsWorld (goal.F-post g l.before) v → TellsWorld (goal.G-post g l.after) w
    → LayersAreMade (2 ^ l.side) l.models l.act v w l.z
