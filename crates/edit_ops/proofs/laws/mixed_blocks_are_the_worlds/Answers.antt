use Rattle.edit_ops.proofs.PartlyLaws.{parts_world}
use Rattle.edit_ops.proofs.laws.mixed_blocks_are_the_worlds.Goals as goal

pub returns : goal.returns
returns c = parts_world
