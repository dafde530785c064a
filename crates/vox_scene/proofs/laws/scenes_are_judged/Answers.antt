use Rattle.vox_scene.proofs.Judging.{judged, judged_once}
use Rattle.vox_scene.proofs.laws.scenes_are_judged.Goals as goal

pub returns-clause-some : goal.returns-clause-some
returns-clause-some c = judged

pub returns-clause-once : goal.returns-clause-once
returns-clause-once c = judged_once
