use Rattle.std.proofs.Common.{refl}
use Rattle.voxdag_c.specs.held.Scenes.{RefusesSceneIn}
use Rattle.voxdag_c.proofs.OfHeld.Scenes.{few_places, scene_refused}
use Rattle.voxdag_c.proofs.held.scenes.scene_of_file.Goals as goal

pub returns-in-Err-clause-refused : goal.returns-in-Err-clause-refused
returns-in-Err-clause-refused c = RefusesSceneIn.no_models _ c.in-Err.ensures.refused refl

pub returns-in-Ok-clause-few : goal.returns-in-Ok-clause-few
returns-in-Ok-clause-few c =
    few_places c.args.file.now c.in-Ok.scene c.in-Ok.ensures.read c.in-Ok.ensures.models

pub returns-in-Err-read_scene-clause-refused : goal.returns-in-Err-read_scene-clause-refused
returns-in-Err-read_scene-clause-refused c =
    scene_refused c.args.file.now c.in_default.ensures.has.0 c.in_default.ensures.has.1
    c.args.told.now c.put_scene_fault.new.told c.in-Err-read_scene.fault c.put_scene_fault.result
    c.in-Err-read_scene.ensures.refused c.put_scene_fault.ensures
