-- What a look gives, as an outcome of the whole command, and by which verdict.
use Rattle.std.proofs.Common.{◌≡◌, ◌≤◌, ℕ, List, [], ◌∷◌, Option, Some, None, Ok, Err, refl, sym, ap, subst, ◌∙◌}
use Rattle.vw_io.specs.Outside.{Files, ShelfState}
use Rattle.vw_io.specs.Inputs.{AreTaken}
use Rattle.vw_io.specs.Outputs.{AreWritten}
use Rattle.transcript.specs.declared.answers.Answer.{Answer}
use Rattle.dag_answers.specs.declared.asking.LookRefused.{LookRefused}
use Rattle.dag_answers.specs.declared.asking.LookRefused.TheVariants as looks
use Rattle.dag_answers.specs.Looks.{AnswersLook, RefusesLook}
use Rattle.dag_answers.proofs.JudgeLaws.{answer_has_place}
use Rattle.dag_answers.proofs.JudgeLaws as look_laws
use Rattle.commands.specs.declared.refusals.CommandRefused.TheVariants.{Text}
use Rattle.commands.specs.declared.refusals.TextRefused.{TextRefused}
use Rattle.commands.specs.declared.refusals.TextRefused.TheVariants.{NoPlace, NoDag, Memory}
use Rattle.requests.specs.Orders.{LookAsked}
use Rattle.commands.specs.Judging.{AgreesWith, IsJudged}
use Rattle.commands.specs.Judged.{computed_is_some}
use Rattle.commands.specs.Looks.{RefusesLooking, JudgesAnswer, verdict_of_look, look_means}
use Rattle.commands.specs.Meanings.{file_in}
use Rattle.commands.specs.Outcomes.{Outcome}
use Rattle.commands.specs.Refusals.{of_look}
use Rattle.commands.specs.Inputs.{vox_input}
use Rattle.commands.specs.Verdicts.{Verdict}
use Rattle.commands.proofs.Accepting.{not_accepted, unwritten}

pub looked : (asked : LookAsked) (texts : List (List ℕ)) (answer : Answer) (old new : ShelfState)
    → AreTaken old.files (vox_input asked.dag ∷ []) texts
    → AnswersLook (file_in texts) asked.version asked.question answer
    → new.files ≡ old.files → old.faults ≤ new.faults
    → Outcome (look_means asked) (Ok answer) old new
looked asked texts answer old new taken answers files faults = record {
  texts = texts;
  taken = taken;
  outputs = [];
  gives = record { answers = answers; none = refl };
  whole = subst (λ (f : Option Files). AreWritten [] old.files f) (sym files)
      (unwritten old.files);
  never_falls = faults;
}

pub look_refused : (asked : LookAsked) (bytes : List ℕ) (refused : LookRefused)
    → RefusesLook bytes asked.version asked.question refused
    → RefusesLooking asked bytes (of_look refused)
look_refused asked bytes (looks.Dag place) says = says
look_refused asked bytes looks.NoPlace says = says
look_refused asked bytes looks.Memory says = tt

pub not_looked : (asked : LookAsked) (texts : List (List ℕ)) (r : TextRefused)
    (old new : ShelfState) → AreTaken old.files (vox_input asked.dag ∷ []) texts
    → RefusesLooking asked (file_in texts) r → new.files ≡ old.files → old.faults ≤ new.faults
    → Outcome (look_means asked) (Err (Text r)) old new
not_looked asked texts r old new taken says files faults =
    not_accepted (look_means asked) r texts old new taken says files faults

-- ---- the verdict

answers_once : (asked : LookAsked) (bytes : List ℕ) (v w : Verdict) → JudgesAnswer asked bytes v
    → JudgesAnswer asked bytes w → v ≡ w
answers_once asked bytes v w of_v of_w =
    of_v.2
    ∙ ap verdict_of_look
    (look_laws.judged_once bytes asked.version asked.question of_v.0 of_w.0 of_v.1 of_w.1)
    ∙ sym of_w.2

look_refused_by : (asked : LookAsked) (bytes : List ℕ) (r : TextRefused)
    → RefusesLooking asked bytes r → AgreesWith (JudgesAnswer asked bytes) r
look_refused_by asked bytes NoPlace says = (Some looks.NoPlace, says, refl)
look_refused_by asked bytes (NoDag place) says = (Some (looks.Dag place), says, refl)
look_refused_by asked bytes Memory says = tt
look_refused_by asked bytes _ says = absurd says

look_computed : (asked : LookAsked) (bytes : List ℕ) → (v : Verdict) × JudgesAnswer asked bytes v
look_computed asked bytes =
    let found = look_laws.judged bytes asked.version asked.question in
    (verdict_of_look found.0, (found.0, found.1, refl))

pub look_judged : (asked : LookAsked) → IsJudged (look_means asked)
look_judged asked = record {
  one = λ texts v w of_v of_w. answers_once asked (file_in texts) v w of_v of_w;
  given = λ texts answer outputs g.
      (None, answer_has_place (file_in texts) asked.version asked.question answer g.answers, refl);
  begun = λ texts outputs b. absurd b;
  refused = λ texts r says. look_refused_by asked (file_in texts) r says;
  some = λ readings texts none.
      computed_is_some (JudgesAnswer asked (file_in texts)) (look_computed asked (file_in texts))
      none;
  computed = λ readings told texts. look_computed asked (file_in texts);
}
