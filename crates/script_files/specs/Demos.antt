-- What the run of a load tells and writes.
use Rattle.std.specs.Prelude.{◌≡◌, ℕ, false, List, [], ◌∷◌, length, Ok}
use Rattle.vw_io.specs.Outputs.{Named}
use Rattle.history_model.specs.Logs.{Log}
use Rattle.transcript.specs.declared.answers.LineAnswer.{LineAnswer}
use Rattle.script.specs.declared.commands.ScriptLine.{ScriptLine}
use Rattle.conformance.specs.Runs.{AllRan}
use Rattle.world_run.specs.Closed.{Closed}
use Rattle.world_run.specs.Ends.{IsEndOf}
use Rattle.gen_load.specs.Loads.{load_model, load_scripts}
use Rattle.text_laws.specs.regions.LastCounts.{region_counts}
use Rattle.text_laws.specs.regions.Statements.{own_counts}
use Rattle.script_files.specs.declared.tallies.LoadTally.{LoadTally}
use Rattle.script_files.specs.declared.tallies.LoadWritten.{LoadWritten}
use Rattle.commands.specs.Meanings.{Meaning, RefusesNothing}
use Rattle.requests.specs.ScriptNames.{demo_plan, demo_asked}
use Rattle.script_files.specs.Requests.{given_by, texts_written}
use Rattle.script_files.specs.Reports.{BeginsTexts}
use Rattle.commands.specs.Scripts.{scripts_of}
use Rattle.commands.specs.Verdicts.{Fine}

-- the scripts of the load were run with its model, and this is what the run tells and writes. Where
-- every change was accepted, each region has the cells that its own script's changes alone make
pub record LoadRan (n : ℕ) (told : LoadTally) (closed : Closed) (outputs : List Named) : Type 0
  where
    pub log : Log
    pub transcripts : List (List LineAnswer)
    pub lines : List (List ScriptLine)
    pub read : scripts_of false 8 (load_model n ∷ []) (load_scripts n) ≡ Ok lines
    pub run : AllRan demo_plan (load_model n ∷ []) lines transcripts log
    pub ends : IsEndOf false (load_model n ∷ []) log closed
    pub number : told.number ≡ n
    pub records : told.records ≡ length log.records
    pub counts : told.counts ≡ region_counts transcripts
    pub regions : length log.records ≡ 800 → told.counts ≡ own_counts n
    pub are : outputs ≡ texts_written demo_asked
        (given_by false (load_model n ∷ []) lines log transcripts) log []

-- the same as far as these first outputs, of which a later one may not have been made, with the
-- world closed or not
pub record LoadBegan (n : ℕ) (outputs : List Named) : Type 0 where
  pub log : Log
  pub transcripts : List (List LineAnswer)
  pub lines : List (List ScriptLine)
  pub read : scripts_of false 8 (load_model n ∷ []) (load_scripts n) ≡ Ok lines
  pub run : AllRan demo_plan (load_model n ∷ []) lines transcripts log
  pub coloured : log.coloured ≡ false
  pub begins : BeginsTexts demo_asked (given_by false (load_model n ∷ []) lines log transcripts) log
      outputs

-- nothing is read, and nothing can be wrong
abbrev pub demo_means : ℕ → Meaning LoadWritten
demo_means n = record {
  inputs = [];
  gives = λ texts written outputs. LoadRan n written.tally written.ended outputs;
  begins = λ texts outputs. LoadBegan n outputs;
  refuses = RefusesNothing;
  judges = λ texts v. v ≡ Fine;
  journal = false;
}
