use Rattle.edit_stamp.proofs.StampLaws.{stamps_model}
use Rattle.edit_stamp.proofs.laws.stencils_stamp_their_models.Goals as goal

pub returns : goal.returns
returns c = stamps_model
