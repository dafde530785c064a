use Rattle.std.proofs.Common.{◌≡◌, ◌≤◌, List, map, take, true, false}
use Rattle.vox_read.specs.Contents.{Content}
use Rattle.vox_scene.specs.Placing.{instance_at, IsLeast}
use Rattle.vox_scene.specs.Rotations.{entry_on}
use Rattle.vox_scene.proofs.model_instances.least_entry.Given as goal

abbrev pub invariant-loop-one : goal.invariant-loop-one
invariant-loop-one l = record {
  least : ((models : List Content) → IsLeast (λ s. entry_on l.axis s.corner)
      (map (instance_at models) (take l.one-index l.instanced)) l.least);
  none : l.any ≡ false → l.one-index ≡ 0;
  some : l.any ≡ true → 1 ≤ l.one-index;
}
