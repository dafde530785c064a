use Rattle.std.proofs.Common.{subst, sym, List, length, map, take, ◌+◌}
use Rattle.vox_read.specs.Contents.{Content}
use Rattle.vox_scene.specs.Placing.{instance_at, IsRotated, AreRotated}
use Rattle.vox_scene.specs.Sound.{IsSound}
use Rattle.vox_scene.proofs.Alike.{known_first}
use Rattle.vox_scene.proofs.Zips.{each_of, zip_step}
use Rattle.vox_scene.proofs.scenes.rotated_models.Goals as goal

pub rotated_model-requires-clause-sound : goal.rotated_model-requires-clause-sound
rotated_model-requires-clause-sound c =
    each_of IsSound (instance_at c.args.models.now) c.args.instanced.now
    c.loop-one.one-index c.one-item.result c.loop-one-test.true c.one-item.is c.requires.sound

pub rotated_model-requires-clause-known : goal.rotated_model-requires-clause-known
rotated_model-requires-clause-known c =
    subst (λ (l : List Content). AreRotated
    (map (instance_at c.args.models.now) (take (length l) c.args.instanced.now)) l)
    (sym c.as_slice.ensures.value)
    (known_first (instance_at c.args.models.now) c.args.instanced.now c.loop-one.one-index
    c.loop-one.list.items c.loop-one-test.true c.loop-one.invariant)

pub loop-one-preserved : goal.loop-one-preserved
loop-one-preserved c =
    subst (λ (l : List Content). AreRotated
    (map (instance_at c.args.models.now) (take (c.loop-one.one-index + 1) c.args.instanced.now)) l)
    (sym c.in_ok-push.ensures.items)
    (zip_step (λ s m. IsRotated s.model s.axis_map m) (instance_at c.args.models.now) c.args.instanced.now
    c.loop-one.one-index c.one-item.result c.loop-one.list.items _
    c.loop-one-test.true c.one-item.is c.loop-one.invariant c.in_ok-model.ensures)
