-- All commands: what each means, and what holds of it.
use Rattle.std.specs.Prelude.{Some, None}
use Rattle.requests.specs.declared.orders.Request.{Request}
use Rattle.requests.specs.declared.orders.Request.TheVariants.{Count, Run, Demo, Flood, Scene, Dag, Look, Audit}
use Rattle.script_files.specs.declared.tallies.Completed.{Completed}
use Rattle.script_files.specs.declared.tallies.Done.{Done}
use Rattle.script_files.specs.declared.tallies.Done.TheVariants.{Written, Counted, Ran, Shown, Placed, Looked, Answered}
use Rattle.script_files.specs.declared.tallies.LoadWritten.{LoadWritten}
use Rattle.script_files.specs.declared.tallies.RunWritten.{RunWritten}
use Rattle.commands.specs.Audits.{audit_means}
use Rattle.commands.specs.Counts.{count_means, count_judged}
use Rattle.commands.specs.Dags.{dag_means}
use Rattle.script_files.specs.Demos.{demo_means}
use Rattle.commands.specs.Floods.{flood_means}
use Rattle.commands.specs.Looks.{look_means}
use Rattle.commands.specs.Judged.{judged_as}
use Rattle.commands.specs.Judging.{IsJudged}
use Rattle.commands.specs.Meanings.{Meaning, told_as}
use Rattle.script_files.specs.Runs.{run_means}
use Rattle.commands.specs.Scenes.{scene_means}
use Rattle.script_files.specs.Judged.{run_judged, demo_judged}
use Rattle.commands.proofs.Auditing.{audit_judged}
use Rattle.commands.proofs.Dagging.{dag_judged}
use Rattle.commands.proofs.Flooding.{flood_judged}
use Rattle.commands.proofs.Looking.{look_judged}
use Rattle.commands.proofs.Placing.{scene_judged}

-- what is told where no scripts ran
abbrev pub alone : Done → Completed
alone done = record { done = done; ended = None }

-- what is told of a run, and of a load's
abbrev pub run_told : RunWritten → Completed
run_told written = record { done = Ran written.tally; ended = Some written.ended }

abbrev pub load_told : LoadWritten → Completed
load_told written = record { done = Shown written.tally; ended = Some written.ended }

-- a command as one of all: what it means, and that this is judged
pub record Command : Type 1 where
  pub means : Meaning Completed
  pub judged : IsJudged means

abbrev pub command : {T : Type 0} → (T → Completed) → (m : Meaning T) → IsJudged m → Command
command make m laws = record { means = told_as make m; judged = judged_as make m laws }

abbrev pub command_of : Request → Command
command_of (Count file) =
    command (λ number. alone (Counted number)) (count_means file) (count_judged file)
command_of (Run asked) = command run_told (run_means asked) (run_judged asked)
command_of (Demo n) = command load_told (demo_means n) (demo_judged n)
command_of (Flood asked) =
    command (λ number. alone (Counted number)) (flood_means asked) (flood_judged asked)
command_of (Scene asked) =
    command (λ told. alone (Placed told)) (scene_means asked) (scene_judged asked)
command_of (Dag asked) = command (λ none. alone Written) (dag_means asked) (dag_judged asked)
command_of (Look asked) =
    command (λ answer. alone (Looked answer)) (look_means asked) (look_judged asked)
command_of (Audit asked) =
    command (λ answer. alone (Answered answer)) (audit_means asked) (audit_judged asked)

abbrev pub meaning_of : Request → Meaning Completed
meaning_of a = (command_of a).means

-- what holds of every command
pub judged_of : (a : Request) → IsJudged (meaning_of a)
judged_of a = (command_of a).judged
