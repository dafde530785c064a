-- What a line that is answered makes of the versions.
use Rattle.std.specs.Prelude.{◌≡◌, ℕ, List, ◌++◌}
use Rattle.history_model.specs.declared.acts.Act.{Act}
use Rattle.history_model.specs.declared.acts.Act.TheVariants.{Redo}
use Rattle.history_model.specs.declared.histories.Record.{Record}
use Rattle.script.specs.declared.commands.ScriptLine.{ScriptLine}
use Rattle.transcript.specs.declared.answers.Answer.{Answer}
use Rattle.transcript.specs.declared.answers.Answer.TheVariants as answers
use Rattle.conformance.specs.Kinds.{answer_at}
use Rattle.conformance.specs.scripts.Sessions.{ExtendsBefore}
use Rattle.store_run.specs.declared.stored_versions.Versions.{Versions}
use Rattle.store_run.specs.Kept.{plan_of, log_of, moment_of, noted_of}

-- whatever has run so far goes on with this answer to the line, which is of the newest moment then,
-- but for the version that its record pushes out
pub record ExtendsBy (old : Versions) (session : ℕ) (l : ScriptLine) (answer : Answer)
    (new : Versions) : Type 0 where
  pub models : new.models.models ≡ old.models.models
  pub plan : plan_of new ≡ plan_of old
  pub more : List Record
  pub records : new.records.items ≡ old.records.items ++ more
  pub goes_on : ExtendsBefore (plan_of old) old.models.models session l (log_of old) (log_of new)
      (noted_of old) (noted_of new) (answer_at l (moment_of new) answer)

-- the answer to an undo or a redo that has no version to go to
abbrev pub nothing_to_go_to : Act → Answer
nothing_to_go_to Redo = answers.NothingToRedo
nothing_to_go_to other = answers.NothingToUndo
