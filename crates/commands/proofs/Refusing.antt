-- What a fault says of its text, it says as a refusal of the command.
use Rattle.std.proofs.Common.{◌≡◌, ℕ, List, Result, refl, ap}
use Rattle.vox_chunk.specs.declared.faults.VoxFault.{VoxFault}
use Rattle.vox_chunk.specs.declared.faults.VoxFault.TheVariants as faults
use Rattle.vox_read.specs.Files as files
use Rattle.script.specs.declared.commands.ScriptLine.{ScriptLine}
use Rattle.script.specs.declared.faults.ScriptFault.{ScriptFault}
use Rattle.script.specs.declared.faults.ScriptKind.{ScriptKind}
use Rattle.script.specs.declared.faults.ScriptKind.TheVariants.{Word, Memory}
use Rattle.script.specs.Scripts as scripts
use Rattle.commands.specs.Counts.{RefusesVox}
use Rattle.commands.specs.Refusals.{of_vox, of_kind, of_fault, RefusesScripts}
use Rattle.commands.specs.Scripts.{in_script}

pub vox_refused : (fault : VoxFault) (bytes : List ℕ) → files.RefusesFile fault bytes
    → RefusesVox bytes (of_vox fault)
vox_refused faults.Memory bytes refuses = tt
vox_refused faults.NotVox bytes refuses = refuses
vox_refused _ bytes refuses = refuses

-- one script's fault
refused_at : (kind : ScriptKind) (number : ℕ) (fault : ScriptFault)
    (read : Result (List ScriptLine) ScriptFault) → fault.kind ≡ kind
    → scripts.RefusesAs kind fault read
    → RefusesScripts (of_kind kind (record { script = number; fault = fault }))
    (in_script number read)
refused_at Memory number fault read is refuses = tt
refused_at Word number fault read is refuses = (rw is tt, ap (in_script number) refuses)
refused_at _ number fault read is refuses = (rw is tt, ap (in_script number) refuses)

pub script_refused : (number : ℕ) (fault : ScriptFault)
    (read : Result (List ScriptLine) ScriptFault) → scripts.RefusesWords fault read
    → RefusesScripts (of_fault (record { script = number; fault = fault })) (in_script number read)
script_refused number fault read refuses = refused_at fault.kind number fault read refl refuses
