use Rattle.text_laws.proofs.OfScenes.Built.{built}
use Rattle.text_laws.proofs.scenes.scenes_are_built.Goals as goal

pub returns : goal.returns
returns c = built
