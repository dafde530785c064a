-- The transcripts before this one are read.
use Rattle.std.proofs.Common.{take}
use Rattle.commands.specs.Audits.{AreTranscriptsOf}
use Rattle.commands.proofs.audits.read_transcripts.Given as goal

abbrev pub invariant-loop-text : goal.invariant-loop-text
invariant-loop-text l = AreTranscriptsOf (take l.text-index l.texts) l.said.items
