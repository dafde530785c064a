use Rattle.std.proofs.Common.{◌≡◌, take}
use Rattle.std.specs.Prelude.{string_bytes}
use Rattle.transcript.specs.Lines.{transcript_of}
use Rattle.transcript.proofs.texts.transcript_text.Given as goal

abbrev pub invariant-loop-line : goal.invariant-loop-line
invariant-loop-line l = string_bytes l.text ≡ transcript_of (take l.line-index l.lines)
