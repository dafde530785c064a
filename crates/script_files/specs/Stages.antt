-- What the stages of a command give.
use Rattle.std.specs.Prelude.{◌≡◌, ◌≤◌, ◌⊎◌, ℕ, false, List, [], ◌∷◌, ◌++◌, Option, Some, None, Result, Ok, Err, ⊤}
use Rattle.vw_io.specs.Outside.{ShelfState}
use Rattle.vw_io.specs.Outputs.{Named, AreWritten}
use Rattle.vox_read.specs.Contents.{Content}
use Rattle.vox_read.specs.Files.{ReadsModels}
use Rattle.history_model.specs.Journal.{journal_of}
use Rattle.history_model.specs.Logs.{Log}
use Rattle.gen_load.specs.Loads.{load_model, load_scripts}
use Rattle.conformance.specs.sessions.Ran.{ClosesWorld}
use Rattle.world_run.specs.Closed.{Closed}
use Rattle.world_run.specs.Closes.{HadHistory}
use Rattle.world_run.specs.Ends.{IsEndOf}
use Rattle.world_run.specs.Open.{RunState, file_of_save}
use Rattle.report.specs.Numbers.{AreNumbers}
use Rattle.report.specs.Roots.{TellsReport}
use Rattle.world_run.specs.declared.runs.ScriptsRun.{ScriptsRun}
use Rattle.world_run.specs.declared.endings.WorldRan.{WorldRan}
use Rattle.script_files.specs.declared.tallies.RunWritten.{RunWritten}
use Rattle.script_files.specs.declared.tallies.Tally.{Tally}
use Rattle.requests.specs.Orders.{Asked}
use Rattle.commands.specs.Scripts.{lines_asked, scripts_of}
use Rattle.commands.specs.declared.refusals.NamedOutputRefused.{NamedOutputRefused}
use Rattle.script_files.specs.declared.scripts.Read.{Read}
use Rattle.commands.specs.Meanings.{file_in, scripts_in}
use Rattle.script_files.specs.Runs.{AreApart, TalliesRun}
use Rattle.commands.specs.Putting.{StopsAmong}
use Rattle.script_files.specs.Reports.{ReportIs, BeginsTexts}
use Rattle.script_files.specs.Requests.{RunOutputs, written_last, texts_written}

-- the journal's text, where one is asked for
abbrev pub JournalIs : Option (List ℕ) → List ℕ → List ℕ → Type 0
JournalIs None text want = ⊤
JournalIs (Some name) text want = text ≡ want

-- no input has a fault, no name is taken, and these are the models and the commands
pub record ReadsInputs (asked : Asked) (texts : List (List ℕ)) (r : Read) : Type 0 where
  pub gives : ReadsModels (file_in texts) (Ok r.models)
  pub read : lines_asked asked r.models (scripts_in texts) ≡ Ok r.scripts.items
  pub apart : AreApart asked r.scripts.items

-- what a run has come to whose world isn't closed
abbrev pub given_of : ScriptsRun → RunOutputs
given_of r = record {
  models = r.run.models;
  transcripts = r.transcripts.items;
  kept = r.run.kept;
  file = file_of_save r.run.tint r.run.models;
}

-- its world was closed with this history, and left this
pub record ClosesRun (r : RunState) (closed : Closed) : Type 0 where
  pub closes : ClosesWorld r.tint r.plan r.models r.sessions closed.history
  pub is_end : IsEndOf r.tint r.models closed.history closed

-- what a history tells, and its texts. They are empty where they are not asked for
pub record HistoryTexts : Type 0 where
  pub tally : Tally
  pub journal : List ℕ
  pub report : List ℕ

-- they are those of this history
pub record AreTexts (asked : Asked) (models : List Content) (log : Log)
    (written : HistoryTexts) : Type 0 where
  pub tallied : TalliesRun asked models log written.tally
  pub journal_is : JournalIs asked.journal written.journal (journal_of log)
  pub report_is : ReportIs asked.report models log written.report

-- the model and the commands of a load
pub record IsLoadRead (n : ℕ) (r : Read) : Type 0 where
  pub models : r.models ≡ load_model n ∷ []
  pub read : scripts_of false 8 (load_model n ∷ []) (load_scripts n) ≡ Ok r.scripts.items

-- ---- what is written

-- the world was closed, the journal and the report were written, and this was told
pub record WroteHistory (asked : Asked) (r : RunState) (tally : Tally) (closed : Closed)
    (old new : ShelfState) : Type 0 where
  pub closes : ClosesRun r closed
  pub tallied : TalliesRun asked r.models closed.history tally
  pub report : List ℕ
  pub reported : ReportIs asked.report r.models closed.history report
  pub whole : AreWritten (written_last asked closed.history report) old.files new.files
  pub never_falls : old.faults ≤ new.faults

-- or it was closed, and some first ones of these were written, of which the report may not have
-- been made
pub record StopsClosed (asked : Asked) (r : RunState) (refused : NamedOutputRefused)
    (old new : ShelfState) : Type 0 where
  pub closed : Closed
  pub closes : ClosesRun r closed
  pub outputs : List Named
  pub report : List ℕ
  pub rest : List Named
  pub parts : outputs ++ rest ≡ written_last asked closed.history report
  pub reported : rest ≡ [] → ReportIs asked.report r.models closed.history report
  pub stops : StopsAmong refused outputs old new

-- what a closed world tells of the run
pub record TellsClosedRun (r : RunState) (w : WorldRan) : Type 0 where
  pub closes : ClosesRun r w.ended
  pub report : TellsReport r.models w.ended
  pub numbers : AreNumbers r.models w.ended.history w.numbers.items

abbrev pub WritesClosed : Asked → RunState → Result RunWritten NamedOutputRefused → ShelfState
    → ShelfState → Type 0
WritesClosed asked r (Ok w) old new = WroteHistory asked r w.tally w.ended old new
WritesClosed asked r (Err refused) old new = StopsClosed asked r refused old new

-- or it wasn't closed, its sessions had one history, and nothing was written
pub record StopsOpen (r : RunState) (refused : NamedOutputRefused) (old new : ShelfState)
    : Type 0 where
  pub had : HadHistory r.tint r.plan r.models r.sessions
  pub stops : StopsAmong refused [] old new

abbrev pub WritesHistory : Asked → RunState → Result RunWritten NamedOutputRefused → ShelfState
    → ShelfState → Type 0
WritesHistory asked r (Ok w) old new = WroteHistory asked r w.tally w.ended old new
WritesHistory asked r (Err refused) old new =
    StopsOpen r refused old new ⊎ StopsClosed asked r refused old new

-- all outputs of a run were written, and this was told
pub record WroteRun (asked : Asked) (r : ScriptsRun) (tally : Tally) (closed : Closed)
    (old new : ShelfState) : Type 0 where
  pub closes : ClosesRun r.run closed
  pub tallied : TalliesRun asked r.run.models closed.history tally
  pub report : List ℕ
  pub reported : ReportIs asked.report r.run.models closed.history report
  pub whole : AreWritten (texts_written asked (given_of r) closed.history report) old.files
      new.files
  pub never_falls : old.faults ≤ new.faults

-- its sessions had one history, and these are first outputs
pub record BeginsRun (asked : Asked) (r : ScriptsRun) (outputs : List Named) : Type 0 where
  pub log : Log
  pub closes : ClosesWorld r.run.tint r.run.plan r.run.models r.run.sessions log
  pub begins : BeginsTexts asked (given_of r) log outputs

-- some first ones were written
pub record StopsRun (asked : Asked) (r : ScriptsRun) (refused : NamedOutputRefused)
    (old new : ShelfState) : Type 0 where
  pub outputs : List Named
  pub begins : BeginsRun asked r outputs
  pub stops : StopsAmong refused outputs old new

abbrev pub WritesRun : Asked → ScriptsRun → Result RunWritten NamedOutputRefused → ShelfState
    → ShelfState → Type 0
WritesRun asked r (Ok w) old new = WroteRun asked r w.tally w.ended old new
WritesRun asked r (Err refused) old new = StopsRun asked r refused old new
