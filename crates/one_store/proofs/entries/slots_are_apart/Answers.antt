use Rattle.one_store.proofs.OfEntries.SlotLaws.{place_in, place_one}
use Rattle.one_store.proofs.entries.slots_are_apart.Goals as goal

pub returns-clause-inside : goal.returns-clause-inside
returns-clause-inside c = place_in

pub returns-clause-apart : goal.returns-clause-apart
returns-clause-apart c = place_one
