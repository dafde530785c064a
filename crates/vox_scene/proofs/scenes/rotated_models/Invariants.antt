use Rattle.std.proofs.Common.{map, take}
use Rattle.vox_scene.specs.Placing.{instance_at, AreRotated}
use Rattle.vox_scene.proofs.scenes.rotated_models.Given as goal

abbrev pub invariant-loop-one : goal.invariant-loop-one
invariant-loop-one l =
    AreRotated (map (instance_at l.models) (take l.one-index l.instanced)) l.list.items
