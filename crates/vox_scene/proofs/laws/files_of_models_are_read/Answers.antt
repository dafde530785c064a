use Rattle.vox_scene.proofs.ReadBack.{models_are_read}
use Rattle.vox_scene.proofs.laws.files_of_models_are_read.Goals as goal

pub returns : goal.returns
returns c = models_are_read
