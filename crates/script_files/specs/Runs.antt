-- What the command `run` tells and writes, or is refused for.
use Rattle.std.specs.Prelude.{◌≡◌, ℕ, false, List, length, IsTrue, if◌then◌else◌, Result, Ok, Err, ⊤}
use Rattle.vw_io.specs.Outputs.{Named}
use Rattle.vw_io.specs.Names.{collide}
use Rattle.vox_read.specs.Contents.{Content}
use Rattle.vox_read.specs.Files.{ReadsModels}
use Rattle.history_model.specs.Logs.{Log}
use Rattle.transcript.specs.declared.answers.LineAnswer.{LineAnswer}
use Rattle.script.specs.declared.commands.ScriptLine.{ScriptLine}
use Rattle.script.specs.Fitting.{IsOfText}
use Rattle.conformance.specs.Runs.{AllRanKeeping}
use Rattle.world_run.specs.Closed.{Closed}
use Rattle.world_run.specs.Ends.{IsEndOf}
use Rattle.report.specs.Numbers.{IsTotal}
use Rattle.script_files.specs.declared.tallies.RunWritten.{RunWritten}
use Rattle.script_files.specs.declared.tallies.Tally.{Tally}
use Rattle.commands.specs.declared.refusals.NumberedFault.{NumberedFault}
use Rattle.commands.specs.declared.refusals.TextRefused.{TextRefused}
use Rattle.commands.specs.declared.refusals.TextRefused.TheVariants.{Vox, Script, Collides, Memory}
use Rattle.commands.specs.Meanings.{Meaning, file_in, scripts_in}
use Rattle.requests.specs.Orders.{Asked}
use Rattle.script_files.specs.Requests.{run_inputs, output_names, given_by, texts_written}
use Rattle.script_files.specs.Reports.{ReportIs, BeginsTexts}
use Rattle.commands.specs.Scripts.{lines_asked}
use Rattle.commands.specs.Verdicts.{Verdict, Fine, HasScriptFault, NamesCollide, JudgesModels}

-- the names of what a run of these scripts may write are those of no input, and differ
abbrev pub AreApart : Asked → List (List ScriptLine) → Type 0
AreApart asked lines = collide (output_names asked lines) (run_inputs asked) ≡ false

-- the file gives models, no script has a fault, no names collide, and these are the history
-- and the transcripts of the run of all scripts, in which as many last versions alone are held as
-- is asked for. The history is coloured where tints are asked for
pub record IsAccepted (asked : Asked) (texts : List (List ℕ)) (log : Log)
    (transcripts : List (List LineAnswer)) : Type 0 where
  pub models : List Content
  pub gives : ReadsModels (file_in texts) (Ok models)
  pub lines : List (List ScriptLine)
  pub read : lines_asked asked models (scripts_in texts) ≡ Ok lines
  pub apart : AreApart asked lines
  pub run : AllRanKeeping asked.keep asked.plan models lines transcripts log
  pub coloured : log.coloured ≡ asked.tint

-- the numbers of a run: its scripts, the records and marks of its history, and, over all levels,
-- the different contents of the blocks of the versions that are kept
pub record TalliesRun (asked : Asked) (models : List Content) (log : Log)
    (tally : Tally) : Type 0 where
  pub scripts : tally.scripts ≡ length asked.scripts
  pub records : tally.records ≡ length log.records
  pub marks : tally.marks ≡ length log.marks
  pub nodes : IsTotal models log tally.nodes

-- the outputs are the transcripts, the files of the accepted saves, the journal and the report, and
-- the world was closed with the run's history
pub record ScriptsRan (asked : Asked) (texts : List (List ℕ)) (tally : Tally) (closed : Closed)
    (outputs : List Named) : Type 0 where
  pub log : Log
  pub transcripts : List (List LineAnswer)
  pub accepted : IsAccepted asked texts log transcripts
  pub ends : IsEndOf asked.tint accepted.models log closed
  pub tallied : TalliesRun asked accepted.models log tally
  pub report : List ℕ
  pub reported : ReportIs asked.report accepted.models log report
  pub are : outputs ≡ texts_written asked
      (given_by asked.tint accepted.models accepted.lines log transcripts) log report

-- the same as far as these first outputs, of which a later one may not have been made, with the
-- world closed or not
pub record ScriptsBegan (asked : Asked) (texts : List (List ℕ)) (outputs : List Named) : Type 0
  where
    pub log : Log
    pub transcripts : List (List LineAnswer)
    pub accepted : IsAccepted asked texts log transcripts
    pub begins : BeginsTexts asked
        (given_by asked.tint accepted.models accepted.lines log transcripts) log outputs

-- the VOX file gives models, and this is the first fault of the first script that has one
pub record FaultsScript (asked : Asked) (texts : List (List ℕ))
    (at : NumberedFault) : Type 0 where
  pub models : List Content
  pub gives : ReadsModels (file_in texts) (Ok models)
  pub is_of_text : IsOfText at.fault.kind
  pub first : lines_asked asked models (scripts_in texts) ≡ Err at

-- the VOX file gives models and no script has a fault, and a name of an output is taken
pub record HasTakenName (asked : Asked) (texts : List (List ℕ)) : Type 0 where
  pub models : List Content
  pub gives : ReadsModels (file_in texts) (Ok models)
  pub lines : List (List ScriptLine)
  pub read : lines_asked asked models (scripts_in texts) ≡ Ok lines
  pub collides : IsTrue (collide (output_names asked lines) (run_inputs asked))

-- what a refusal says of the texts: want of memory says nothing
abbrev pub RefusesRun : Asked → List (List ℕ) → TextRefused → Type 0
RefusesRun asked texts (Vox fault) = ReadsModels (file_in texts) (Err fault)
RefusesRun asked texts (Script at) = FaultsScript asked texts at
RefusesRun asked texts Collides = HasTakenName asked texts
RefusesRun asked texts Memory = ⊤
RefusesRun asked texts _ = ⊥

-- what the scripts say, then the names
abbrev pub verdict_of_names : Asked → Result (List (List ScriptLine)) NumberedFault → Verdict
verdict_of_names asked (Err at) = HasScriptFault at
verdict_of_names asked (Ok lines) =
    if collide (output_names asked lines) (run_inputs asked) then NamesCollide else Fine

abbrev pub run_means : Asked → Meaning RunWritten
run_means asked = record {
  inputs = run_inputs asked;
  gives = λ texts written outputs. ScriptsRan asked texts written.tally written.ended outputs;
  begins = ScriptsBegan asked;
  refuses = RefusesRun asked;
  judges = λ texts v. JudgesModels
      (λ models w. w ≡ verdict_of_names asked (lines_asked asked models (scripts_in texts)))
      (file_in texts) v;
  journal = false;
}
