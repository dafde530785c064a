use Rattle.world_core.proofs.SlotLaws.{put_here, put_there, stays_laid_out}
use Rattle.world_core.proofs.slots.slots_hold.Goals as goal

pub returns : goal.returns
returns c = record { here = put_here; others = put_there; laid_out = stays_laid_out }
