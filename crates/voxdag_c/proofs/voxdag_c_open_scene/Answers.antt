use Rattle.std.proofs.Common.{refl}
use Rattle.voxdag_c.proofs.OfHeld.Scenes.{opens_scene_again, opens_scene, opens_no_scene}
use Rattle.voxdag_c.proofs.voxdag_c_open_scene.Goals as goal

pub returns-in-Some : goal.returns-in-Some
returns-in-Some c =
    opens_scene_again c.args.tint c.args.side c.args.cap c.args.keep c.args.file.now
    c.args.told.now c.args.told.now
    _ _ c.in-Some.world.value c.in-Some.ensures.taken c.put.ensures refl

pub returns-in-Ok : goal.returns-in-Ok
returns-in-Ok c =
    opens_scene c.args.tint c.args.side c.args.cap c.args.keep c.args.file.now c.args.told.now
    c.from_scene.new.told
    _ _ c.in-Ok.world.value c.in-None.ensures.taken c.put-in-Ok.ensures
    c.in-Ok.ensures.opened c.in-Ok.ensures.told

pub returns-in-Err : goal.returns-in-Err
returns-in-Err c =
    opens_no_scene c.args.tint c.args.side c.args.cap c.args.keep c.args.file.now c.args.told.now
    c.from_scene.new.told
    _ _ c.in-Err.status c.in-None.ensures.taken c.take.ensures.gone c.in-Err.ensures.refused
