use Rattle.text_laws.proofs.OfScenes.ReadStamps.{stamps_read}
use Rattle.text_laws.proofs.scenes.stamps_are_read.Goals as goal

pub returns : goal.returns
returns c = stamps_read
