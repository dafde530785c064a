-- What a run reads, and what it writes.
use Rattle.std.specs.Prelude.{ℕ, Bool, true, false, ◌++◌, ◌∷◌, [], List, map, Option, Some, None}
use Rattle.vw_io.specs.Inputs.{WantedInput}
use Rattle.vw_io.specs.Outputs.{Named}
use Rattle.history_model.specs.Journal.{journal_of}
use Rattle.history_model.specs.Logs.{Log}
use Rattle.requests.specs.Orders.{Asked}
use Rattle.commands.specs.Inputs.{script_input, transcript_name, vox_input}
use Rattle.transcript.specs.declared.answers.LineAnswer.{LineAnswer}
use Rattle.transcript.specs.Lines.{transcript_of}
use Rattle.script.specs.declared.commands.Command.{Command}
use Rattle.script.specs.declared.commands.Command.TheVariants.{Save}
use Rattle.script.specs.declared.commands.ScriptLine.{ScriptLine}
use Rattle.script.specs.Commands.{name_bytes}
use Rattle.vox_read.specs.Contents.{Content}
use Rattle.conformance.specs.sessions.LoggedSaves.{LoggedSave, logged_of, logged_by}
use Rattle.conformance.specs.sessions.SessionViews.{SessionView}
use Rattle.world_run.specs.Open.{file_of_save}
use Rattle.vw_cell.specs.declared.boxes.Boxed.{Boxed}
use Rattle.history_model.specs.Moments.{world_has, world_tint}
use Rattle.history_model.specs.Tints.{Tints}
use Rattle.history_model.specs.Worlds.{World}
use Rattle.flood.specs.Saved.{file_of_box}
use Rattle.script_files.specs.TintFiles.{file_of_tints}

-- what a run reads, in order
abbrev pub run_inputs : Asked → List WantedInput
run_inputs asked = vox_input asked.file ∷ map script_input asked.scripts

-- the name of what is wanted
abbrev pub wanted_name : Option (List ℕ) → List (List ℕ)
wanted_name None = []
wanted_name (Some name) = name ∷ []

-- the names under which scripts save, accepted or not
abbrev pub name_saved : Command → List (List ℕ)
name_saved (Save version name part) = name_bytes name ∷ []
name_saved _ = []

abbrev pub names_saved_in : List ScriptLine → List (List ℕ)
names_saved_in [] = []
names_saved_in (l ∷ lines) = name_saved l.command ++ names_saved_in lines

abbrev pub names_saved : List (List ScriptLine) → List (List ℕ)
names_saved [] = []
names_saved (script ∷ scripts) = names_saved_in script ++ names_saved scripts

-- the names of what a run of these scripts may write
abbrev pub output_names : Asked → List (List ScriptLine) → List (List ℕ)
output_names asked lines =
    ((map transcript_name asked.scripts ++ names_saved lines) ++ wanted_name asked.journal)
    ++ wanted_name asked.report

-- each text under its name
abbrev pub named_texts : List (List ℕ) → List (List ℕ) → List Named
named_texts [] texts = []
named_texts (name ∷ names) [] = []
named_texts (name ∷ names) (text ∷ texts) =
    record { name = name; bytes = text } ∷ named_texts names texts

-- the text of what is wanted
abbrev pub wanted_output : Option (List ℕ) → List ℕ → List Named
wanted_output None text = []
wanted_output (Some name) text = record { name = name; bytes = text } ∷ []

-- the file of a box of a world, with its tints where cells have them
abbrev pub box_file : Bool → Boxed → World → Tints → List ℕ
box_file true b cells tints = file_of_tints b cells tints
box_file false b cells tints = file_of_box b cells

-- the file of an accepted save: that of its box at its version
abbrev pub save_file : Bool → List Content → LoggedSave → List ℕ
save_file tint models k = box_file tint k.save.part
    (world_has models k.seen.records k.save.version)
    (world_tint models k.seen.records k.save.version)

-- the file of a save, under its name
abbrev pub saved_output : (LoggedSave → List ℕ) → LoggedSave → Named
saved_output file k = record { name = name_bytes k.save.name; bytes = file k }

-- what sessions have come to: the models, their transcripts, what they saved, and the file of each
-- save
pub record RunOutputs : Type 0 where
  pub models : List Content
  pub transcripts : List (List LineAnswer)
  pub kept : List LoggedSave
  pub file : LoggedSave → List ℕ

-- by the cells of the store that each session saw, and by the one history of all
abbrev pub given_seen : Bool → List Content → List (List ScriptLine) → List (List LineAnswer)
    → List SessionView → RunOutputs
given_seen tint models lines transcripts sessions = record {
  models = models;
  transcripts = transcripts;
  kept = logged_of lines transcripts sessions;
  file = file_of_save tint models;
}

abbrev pub given_by : Bool → List Content → List (List ScriptLine) → Log → List (List LineAnswer)
    → RunOutputs
given_by tint models lines log transcripts = record {
  models = models;
  transcripts = transcripts;
  kept = logged_by lines transcripts log;
  file = save_file tint models;
}

-- what a run writes first: the texts of its transcripts, and then its saved files, by script and
-- line
abbrev pub written_first : Asked → RunOutputs → List Named
written_first asked given =
    named_texts (map transcript_name asked.scripts) (map transcript_of given.transcripts)
    ++ map (saved_output given.file) given.kept

-- and then, once the world is closed: its journal and this report, where they are wanted
abbrev pub written_last : Asked → Log → List ℕ → List Named
written_last asked log report =
    wanted_output asked.journal (journal_of log) ++ wanted_output asked.report report

-- what a run writes, in order
abbrev pub texts_written : Asked → RunOutputs → Log → List ℕ → List Named
texts_written asked given log report =
    written_first asked given ++ written_last asked log report
