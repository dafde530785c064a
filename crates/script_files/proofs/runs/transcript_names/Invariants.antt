-- The names of the transcripts of the scripts before this one.
use Rattle.std.proofs.Common.{◌≡◌, take, map}
use Rattle.std.specs.Prelude.{string_bytes}
use Rattle.commands.specs.Inputs.{transcript_name}
use Rattle.script_files.proofs.runs.transcript_names.Given as goal

abbrev pub invariant-loop-script : goal.invariant-loop-script
invariant-loop-script l =
    map string_bytes l.names.items
    ≡ map transcript_name (map (λ name. name.now) (take l.script-index l.scripts))
