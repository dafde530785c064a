-- The texts of the transcripts before this one.
use Rattle.std.proofs.Common.{◌≡◌, take, map}
use Rattle.transcript.specs.Lines.{transcript_of}
use Rattle.script_files.proofs.texts.transcript_texts.Given as goal

abbrev pub invariant-loop-transcript : goal.invariant-loop-transcript
invariant-loop-transcript l =
    l.texts.items ≡ map transcript_of (take l.transcript-index l.transcripts)
