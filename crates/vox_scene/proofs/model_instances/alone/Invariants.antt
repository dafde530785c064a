use Rattle.std.proofs.Common.{◌≡◌, map, take}
use Rattle.vox_scene.specs.Placing.{instance_at, alone}
use Rattle.vox_scene.proofs.model_instances.alone.Given as goal

abbrev pub invariant-loop-model : goal.invariant-loop-model
invariant-loop-model l =
    map (instance_at l.models) l.instanced.items ≡ map alone (take l.model l.models)
