use Rattle.std.proofs.Common.{length}
use Rattle.script_files.proofs.outputs.+add_transcripts.Given as goal

abbrev pub decreases-add_transcripts : goal.decreases-add_transcripts
decreases-add_transcripts l = length l.names.now
