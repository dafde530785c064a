-- What the command `look` tells, or is refused for.
use Rattle.std.specs.Prelude.{◌≡◌, ℕ, List, [], ◌∷◌, false, Option, Some, None, ⊤}
use Rattle.vw_io.specs.Outputs.{Named}
use Rattle.transcript.specs.declared.answers.Answer.{Answer}
use Rattle.dag_file.specs.Rules.{FirstFault}
use Rattle.dag_answers.specs.declared.asking.LookRefused.{LookRefused}
use Rattle.dag_answers.specs.declared.asking.LookRefused.TheVariants as looks
use Rattle.dag_answers.specs.Looks.{AnswersLook, LacksAsked, JudgesLook}
use Rattle.commands.specs.declared.refusals.TextRefused.{TextRefused}
use Rattle.commands.specs.declared.refusals.TextRefused.TheVariants.{NoPlace, NoDag, Memory}
use Rattle.commands.specs.Meanings.{Meaning, BeginsNothing, file_in}
use Rattle.requests.specs.Orders.{LookAsked}
use Rattle.commands.specs.Inputs.{vox_input}
use Rattle.commands.specs.Verdicts.{Verdict, Fine, HasNoPlace, HasDagFault}

-- the answer tells what is asked of the file's version, and nothing is written
pub record LookAnswered (asked : LookAsked) (bytes : List ℕ) (answer : Answer)
    (outputs : List Named) : Type 0 where
  pub answers : AnswersLook bytes asked.version asked.question answer
  pub none : outputs ≡ []

-- the file keeps all rules, and hasn't the version, or its worlds have not what is asked
abbrev pub LacksVersion : LookAsked → List ℕ → Type 0
LacksVersion asked bytes = LacksAsked bytes asked.version asked.question

-- what a refusal says of the file: want of memory says nothing
abbrev pub RefusesLooking : LookAsked → List ℕ → TextRefused → Type 0
RefusesLooking asked bytes NoPlace = LacksVersion asked bytes
RefusesLooking asked bytes (NoDag place) = FirstFault bytes place
RefusesLooking asked bytes Memory = ⊤
RefusesLooking asked bytes _ = ⊥

-- whether the file answers
abbrev pub verdict_of_look : Option LookRefused → Verdict
verdict_of_look None = Fine
verdict_of_look (Some (looks.Dag place)) = HasDagFault place
verdict_of_look (Some looks.NoPlace) = HasNoPlace
verdict_of_look (Some looks.Memory) = Fine

abbrev pub JudgesAnswer : LookAsked → List ℕ → Verdict → Type 0
JudgesAnswer asked bytes v =
    (found : Option LookRefused) × JudgesLook bytes asked.version asked.question found
    × (v ≡ verdict_of_look found)

abbrev pub look_means : LookAsked → Meaning Answer
look_means asked = record {
  inputs = vox_input asked.dag ∷ [];
  gives = λ texts answer outputs. LookAnswered asked (file_in texts) answer outputs;
  begins = BeginsNothing;
  refuses = λ texts r. RefusesLooking asked (file_in texts) r;
  judges = λ texts v. JudgesAnswer asked (file_in texts) v;
  journal = false;
}
