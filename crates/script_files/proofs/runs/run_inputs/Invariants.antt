-- The file, and the scripts before this one.
use Rattle.std.proofs.Common.{◌≡◌, ◌∷◌, take, map}
use Rattle.commands.specs.Inputs.{vox_limit, script_input}
use Rattle.script_files.proofs.runs.run_inputs.Given as goal

abbrev pub invariant-loop-script : goal.invariant-loop-script
invariant-loop-script l =
    l.inputs.items
    ≡ record { name = l.order.file; limit = vox_limit } ∷ map script_input
    (map (λ name. name.now) (take l.script-index l.scripts))
