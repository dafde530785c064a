-- What the last lines of a load's transcripts count, where every change was accepted.
use Rattle.std.specs.Prelude.{◌≡◌, ℕ, ◌*◌, ◌++◌, List, [], ◌∷◌, length, All, None}
use Rattle.vw_cell.specs.Counts.{number_in}
use Rattle.history_model.specs.Contents.{Content}
use Rattle.node_words.specs.Plans.{Layout}
use Rattle.history_model.specs.declared.acts.Act.{Act}
use Rattle.history_model.specs.declared.questions.Question.TheVariants.{Count}
use Rattle.history_model.specs.Logs.{Log}
use Rattle.script.specs.declared.commands.Command.TheVariants.{Ask}
use Rattle.script.specs.declared.commands.ScriptLine.{ScriptLine}
use Rattle.transcript.specs.declared.answers.LineAnswer.{LineAnswer}
use Rattle.conformance.specs.Agreeing.{Agrees}
use Rattle.gen_load.specs.Draws.{state_after}
use Rattle.gen_load.specs.Loads.{load_model, line_state, edits_from}
use Rattle.gen_load.specs.Regions.{EditLiesIn}
use Rattle.text_laws.specs.loads.Commands.{edit_lines, region_box}
use Rattle.text_laws.specs.regions.Runs.{made_alone}
use Rattle.text_laws.specs.regions.LastCounts.{region_counts}

-- the script of 200 changes of a region, which counts it at the end
abbrev pub region_script : ℕ → List Act → List ScriptLine
region_script x acts =
    edit_lines 1 acts ++ record { line = 201; command = Ask None (Count (region_box x)) } ∷ []

-- how many cells of a region its own changes alone make of the empty world
abbrev pub region_number : List Content → ℕ → List Act → ℕ
region_number models x acts = number_in (region_box x) (made_alone models acts)

-- 200 changes, each of which lies in the region with all its cells
pub record AreOfRegion (x : ℕ) (acts : List Act) : Type 0 where
  pub number : length acts ≡ 200
  pub lie : All (EditLiesIn x) acts

-- where the history has 800 records, the transcripts of four such scripts, one for each region, end
-- with the numbers that each script's own changes alone make of the empty world
abbrev pub RegionsAreCounted : Type 0
RegionsAreCounted = (p : Layout) (model : Content) (log : Log) (a b c d : List Act)
    (transcripts : List (List LineAnswer)) → model.size ≡ record { x = 32; y = 32; z = 32 }
    → AreOfRegion 0 a → AreOfRegion 64 b → AreOfRegion 128 c → AreOfRegion 192 d
    → Agrees p (model ∷ []) log
    (region_script 0 a ∷ region_script 64 b ∷ region_script 128 c ∷ region_script 192 d ∷ [])
    transcripts
    → length log.records ≡ 800
    → region_counts transcripts ≡ region_number (model ∷ []) 0 a ∷ region_number (model ∷ []) 64 b
    ∷ region_number (model ∷ []) 128 c ∷ region_number (model ∷ []) 192 d ∷ []

-- ---- the load of a number

-- the changes of its script of this number
abbrev pub load_edits : ℕ → ℕ → List Act
load_edits n i = edits_from (line_state (state_after n 16000) (200 * i)) (64 * i) 200

-- the commands of its four scripts
abbrev pub load_lines : ℕ → List (List ScriptLine)
load_lines n =
    region_script 0 (load_edits n 0) ∷ region_script 64 (load_edits n 1)
    ∷ region_script 128 (load_edits n 2) ∷ region_script 192 (load_edits n 3) ∷ []

-- how many cells of each region its own script's changes alone make of the empty world
abbrev pub own_counts : ℕ → List ℕ
own_counts n =
    let models = load_model n ∷ [] in
    region_number models 0 (load_edits n 0) ∷ region_number models 64 (load_edits n 1)
    ∷ region_number models 128 (load_edits n 2) ∷ region_number models 192 (load_edits n 3) ∷ []

-- the last lines of a load's transcripts tell these, where every change was accepted
abbrev pub LoadsAreCounted : Type 0
LoadsAreCounted = (p : Layout) (n : ℕ) (log : Log) (transcripts : List (List LineAnswer))
    → Agrees p (load_model n ∷ []) log (load_lines n) transcripts → length log.records ≡ 800
    → region_counts transcripts ≡ own_counts n
