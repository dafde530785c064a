-- The inputs before these, and those of the names before this one.
use Rattle.std.proofs.Common.{◌≡◌, ◌++◌, take, map}
use Rattle.std.specs.Prelude.{string_bytes}
use Rattle.commands.specs.Inputs.{script_input}
use Rattle.commands.proofs.audits.add_inputs.Given as goal

abbrev pub invariant-loop-name : goal.invariant-loop-name
invariant-loop-name l =
    l.inputs.items
    ≡ l.fn.inputs.items ++ map script_input (map string_bytes (take l.name-index l.names))
