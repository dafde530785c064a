use Rattle.core_laws.proofs.LiveNumbers.{live_numbers}
use Rattle.core_laws.proofs.Roots.{sound_roots}
use Rattle.core_laws.proofs.numbers.live_entries_are_different_blocks.Goals as goal

pub returns : goal.returns
returns c = record { number = live_numbers; roots = sound_roots }
