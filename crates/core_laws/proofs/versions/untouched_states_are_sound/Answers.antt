use Rattle.core_laws.proofs.RootCells.{empty_sound}
use Rattle.core_laws.proofs.versions.untouched_states_are_sound.Goals as goal

pub returns : goal.returns
returns c = empty_sound
