use Rattle.std.proofs.Common.{length}
use Rattle.script_files.proofs.scripts.+add_saves.Given as goal

abbrev pub decreases-add_saves : goal.decreases-add_saves
decreases-add_saves l = length l.scripts.now
