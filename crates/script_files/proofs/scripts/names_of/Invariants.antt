-- The names of the transcripts before this one.
use Rattle.std.proofs.Common.{◌≡◌, take, map}
use Rattle.std.specs.Prelude.{string_bytes}
use Rattle.script_files.proofs.scripts.names_of.Given as goal

abbrev pub invariant-loop-transcript : goal.invariant-loop-transcript
invariant-loop-transcript l =
    map (λ name. name.now) l.names.items ≡ map string_bytes (take l.transcript-index l.transcripts)
