-- Laws of what is judged of a run, and of a load's.
use Rattle.std.proofs.Common.{◌≡◌, ℕ, List, Ok, Err, refl, sym, ◌∙◌}
use Rattle.vox_read.specs.Contents.{Content}
use Rattle.history_model.specs.Logs.{Log}
use Rattle.transcript.specs.declared.answers.LineAnswer.{LineAnswer}
use Rattle.requests.specs.Orders.{Asked}
use Rattle.commands.specs.declared.refusals.NumberedFault.{NumberedFault}
use Rattle.commands.specs.declared.refusals.TextRefused.{TextRefused}
use Rattle.commands.specs.declared.refusals.TextRefused.TheVariants.{Vox, Script, Collides, Memory}
use Rattle.commands.specs.Judging.{AgreesWith, FilesAreRead, IsJudged}
use Rattle.commands.specs.Judged.{models_once, models_computed, computed_is_some}
use Rattle.commands.specs.Meanings.{RefusesNothing, file_in, scripts_in}
use Rattle.commands.specs.Scripts.{lines_asked}
use Rattle.commands.specs.Verdicts.{Verdict, Fine, HasScriptFault, NamesCollide, JudgesModels}
use Rattle.script_files.specs.Demos.{demo_means}
use Rattle.script_files.specs.Runs.{IsAccepted, FaultsScript, HasTakenName, RefusesRun, verdict_of_names, run_means}

-- ---- a run

abbrev judges_names : Asked → List (List ℕ) → List Content → Verdict → Type 0
judges_names asked texts models v =
    v ≡ verdict_of_names asked (lines_asked asked models (scripts_in texts))

given_fine : (asked : Asked) (texts : List (List ℕ)) (log : Log)
    (transcripts : List (List LineAnswer)) (a : IsAccepted asked texts log transcripts)
    → verdict_of_names asked (lines_asked asked a.models (scripts_in texts)) ≡ Fine
given_fine asked texts log transcripts a = rw (a.read, a.apart) refl

script_faulty : (asked : Asked) (texts : List (List ℕ)) (at : NumberedFault)
    (says : FaultsScript asked texts at)
    → verdict_of_names asked (lines_asked asked says.models (scripts_in texts))
    ≡ HasScriptFault at
script_faulty asked texts at says = rw says.first refl

name_taken : (asked : Asked) (texts : List (List ℕ)) (says : HasTakenName asked texts)
    → verdict_of_names asked (lines_asked asked says.models (scripts_in texts)) ≡ NamesCollide
name_taken asked texts says = rw (says.read, says.collides) refl

run_refused_by : (asked : Asked) (texts : List (List ℕ)) (r : TextRefused)
    → RefusesRun asked texts r
    → AgreesWith (JudgesModels (judges_names asked texts) (file_in texts)) r
run_refused_by asked texts (Vox fault) says =
    record { reading = Err fault; says = says; judged = refl }
run_refused_by asked texts (Script at) says = record {
  reading = Ok says.models;
  says = says.gives;
  judged = sym (script_faulty asked texts at says);
}
run_refused_by asked texts Collides says = record {
  reading = Ok says.models;
  says = says.gives;
  judged = sym (name_taken asked texts says);
}
run_refused_by asked texts Memory says = tt
run_refused_by asked texts _ says = absurd says

run_computed : (asked : Asked) (texts : List (List ℕ)) → FilesAreRead
    → (v : Verdict) × JudgesModels (judges_names asked texts) (file_in texts) v
run_computed asked texts readings =
    models_computed (judges_names asked texts) (file_in texts) readings (λ models says.
    (verdict_of_names asked (lines_asked asked models (scripts_in texts)), refl))

pub run_judged : (asked : Asked) → IsJudged (run_means asked)
run_judged asked = record {
  one = λ texts v w of_v of_w.
      models_once (judges_names asked texts) (λ models a b of_a of_b. of_a ∙ sym of_b)
      (file_in texts) v w of_v of_w;
  given = λ texts written outputs g. record {
    reading = Ok g.accepted.models;
    says = g.accepted.gives;
    judged = sym (given_fine asked texts g.log g.transcripts g.accepted);
  };
  begun = λ texts outputs b. record {
    reading = Ok b.accepted.models;
    says = b.accepted.gives;
    judged = sym (given_fine asked texts b.log b.transcripts b.accepted);
  };
  refused = λ texts r says. run_refused_by asked texts r says;
  some = λ readings texts none.
      computed_is_some (JudgesModels (judges_names asked texts) (file_in texts))
      (run_computed asked texts readings) none;
  computed = λ readings told texts. run_computed asked texts readings;
}

-- ---- a load's run

demo_refused_by : (texts : List (List ℕ)) (r : TextRefused) → RefusesNothing texts r
    → AgreesWith (λ v. v ≡ Fine) r
demo_refused_by texts Memory says = tt
demo_refused_by texts _ says = absurd says

pub demo_judged : (n : ℕ) → IsJudged (demo_means n)
demo_judged n = record {
  one = λ texts v w of_v of_w. of_v ∙ sym of_w;
  given = λ texts written outputs g. refl;
  begun = λ texts outputs b. refl;
  refused = λ texts r says. demo_refused_by texts r says;
  some = λ readings texts none. none Fine refl;
  computed = λ readings told texts. (Fine, refl);
}
