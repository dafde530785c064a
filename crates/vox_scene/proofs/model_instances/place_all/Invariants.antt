use Rattle.std.proofs.Common.{◌≡◌, map, take}
use Rattle.vox_scene.specs.Placing.{instance_at, instance_of}
use Rattle.vox_scene.proofs.model_instances.place_all.Given as goal

abbrev pub invariant-loop-one : goal.invariant-loop-one
invariant-loop-one l =
    map (instance_at l.models) l.instanced.items ≡ map (instance_of l.models) (take l.one-index l.placed)
