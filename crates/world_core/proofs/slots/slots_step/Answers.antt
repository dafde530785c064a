use Rattle.world_core.proofs.SlotLaws.{raises_slot, adds_slot, lowers_slot, frees_slot}
use Rattle.world_core.proofs.slots.slots_step.Goals as goal

pub returns : goal.returns
returns c = record { raise = raises_slot; add = adds_slot; lower = lowers_slot; free = frees_slot }
