-- What a file of many versions answers to a question of one of them.
use Rattle.std.specs.Prelude.{◌≡◌, ℕ, ◌-◌, ◌^◌, ◌≤◌, ◌⊎◌, List, Option, Some, None, Ok, ⊤}
use Rattle.vw_cell.specs.Sums.{one_if}
use Rattle.node_words.specs.descent.Roots.{cells_of}
use Rattle.history_model.specs.Worlds.{World}
use Rattle.history_model.specs.Tints.{Tints}
use Rattle.history_model.specs.declared.questions.Question.{Question}
use Rattle.transcript.specs.declared.answers.Answer.{Answer}
use Rattle.script.specs.Placing.{question_placed}
use Rattle.store_run.specs.QuestionAnswers.{AnswersTo}
use Rattle.dag_file.specs.declared.faults.DagFault.{DagFault}
use Rattle.dag_file.specs.declared.faults.DagFault.TheVariants as faults
use Rattle.dag_file.specs.Rules.{IsDagFile, FirstFault}
use Rattle.dag_file.specs.Kept.{version_shape}
use Rattle.dag_file.specs.Trees.{IsVersion, HasVersion}
use Rattle.dag_answers.specs.declared.asking.LookRefused.{LookRefused}
use Rattle.dag_answers.specs.declared.asking.LookRefused.TheVariants.{Dag, NoPlace, Memory}

-- the cells that a file of worlds of this side, a power of two, gives its v-th version
abbrev pub version_has : List ℕ → ℕ → ℕ → World
version_has bytes side v = cells_of (side - 2) (version_shape bytes (side - 1) v)

-- their tints: each set cell has tint 1
abbrev pub version_tints : List ℕ → ℕ → ℕ → Tints
version_tints bytes side v c = one_if (version_has bytes side v c)

-- the file has a version of this number, and the answer tells what the question asks of its cells
pub record AnswersFileVersion (bytes : List ℕ) (side number : ℕ) (question : Question)
    (answer : Answer) : Type 0 where
  pub v : ℕ
  pub is : IsVersion bytes (side - 1) number v
  pub tells : AnswersTo (2 ^ side) (version_has bytes side v) (version_tints bytes side v) question
      answer

-- the file keeps all rules, what is asked lies in its worlds, and is answered of the version
pub record AnswersLook (bytes : List ℕ) (number : ℕ) (asked : Question) (answer : Answer)
    : Type 0 where
  pub side : ℕ
  pub low : 2 ≤ side
  pub file : IsDagFile bytes (side - 1)
  pub question : Question
  pub placed : question_placed (2 ^ side) asked ≡ Ok question
  pub tells : AnswersFileVersion bytes side number question answer

-- the file keeps all rules, and hasn't the version, or its worlds have not what is asked
pub record LacksAsked (bytes : List ℕ) (number : ℕ) (asked : Question) : Type 0 where
  pub side : ℕ
  pub low : 2 ≤ side
  pub file : IsDagFile bytes (side - 1)
  pub lacks : (HasVersion bytes (side - 1) number → ⊥)
      ⊎ ((q : Question) → question_placed (2 ^ side) asked ≡ Ok q → ⊥)

-- what a refusal says: want of memory says nothing
abbrev pub RefusesLook : List ℕ → ℕ → Question → LookRefused → Type 0
RefusesLook bytes number asked (Dag place) = FirstFault bytes place
RefusesLook bytes number asked NoPlace = LacksAsked bytes number asked
RefusesLook bytes number asked Memory = ⊤

abbrev pub of_dag : DagFault → LookRefused
of_dag (faults.Bad place) = Dag place
of_dag faults.Memory = Memory

-- ---- what any file says of a look

-- the file keeps all rules, has the version, and its worlds have what is asked
pub record HasAsked (bytes : List ℕ) (number : ℕ) (asked : Question) : Type 0 where
  pub side : ℕ
  pub low : 2 ≤ side
  pub file : IsDagFile bytes (side - 1)
  pub has : HasVersion bytes (side - 1) number
  pub question : Question
  pub placed : question_placed (2 ^ side) asked ≡ Ok question

-- there is nothing to refuse, or this is why the look is refused
abbrev pub JudgesLook : List ℕ → ℕ → Question → Option LookRefused → Type 0
JudgesLook bytes number asked None = HasAsked bytes number asked
JudgesLook bytes number asked (Some (Dag place)) = FirstFault bytes place
JudgesLook bytes number asked (Some NoPlace) = LacksAsked bytes number asked
JudgesLook bytes number asked (Some Memory) = ⊥

-- one of these always is, and one alone
abbrev pub LooksAreJudged : Type 0
LooksAreJudged = (bytes : List ℕ) (number : ℕ) (asked : Question)
    → (found : Option LookRefused) × JudgesLook bytes number asked found

abbrev pub LooksAreJudgedOnce : Type 0
LooksAreJudgedOnce = (bytes : List ℕ) (number : ℕ) (asked : Question) (a b : Option LookRefused)
    → JudgesLook bytes number asked a → JudgesLook bytes number asked b → a ≡ b
