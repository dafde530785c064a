-- What a file says of a look is one thing.
use Rattle.std.proofs.Common.{◌≡◌, ℕ, suc, ◌-◌, ◌^◌, ◌≤◌, ◌⊎◌, inl, inr, List, Option, Some, None, Result, Ok, Err, refl, sym, ap, subst, ◌∙◌, arith}
use Rattle.history_model.specs.declared.questions.Question.{Question}
use Rattle.script.specs.declared.faults.ScriptKind.{ScriptKind}
use Rattle.script.specs.Placing.{question_placed}
use Rattle.transcript.specs.declared.answers.Answer.{Answer}
use Rattle.dag_file.specs.Rules.{IsDagFile}
use Rattle.dag_file.specs.Trees.{HasVersion}
use Rattle.dag_file.proofs.Decided.{right_or_faulty, version_decided}
use Rattle.dag_file.proofs.FaultLaws.{one_levels, no_fault}
use Rattle.dag_file.proofs.OneFault.{one_fault}
use Rattle.dag_answers.specs.declared.asking.LookRefused.{LookRefused}
use Rattle.dag_answers.specs.declared.asking.LookRefused.TheVariants.{Dag, NoPlace, Memory}
use Rattle.dag_answers.specs.Looks.{HasAsked, LacksAsked, JudgesLook, AnswersLook}

abbrev pub Judged : List ℕ → ℕ → Question → Type 0
Judged bytes number asked = (found : Option LookRefused) × JudgesLook bytes number asked found

module _ (bytes : List ℕ) (number : ℕ) (asked : Question) where
  by_placed : (side : ℕ) → 2 ≤ side → IsDagFile bytes (side - 1)
      → HasVersion bytes (side - 1) number
      → (r : Result Question ScriptKind) → question_placed (2 ^ side) asked ≡ r
      → Judged bytes number asked
  by_placed side low file has (Ok q) e =
      (None, record { side = side; low = low; file = file; has = has; question = q; placed = e })
  by_placed side low file has (Err kind) e = (
    Some NoPlace,
    record {
      side = side;
      low = low;
      file = file;
      lacks = inr (λ q ok. (let same : Err kind ≡ Ok q = sym e ∙ ok in let no : ⊥ = cc in no));
    },
  )

  by_file : (side : ℕ) → 2 ≤ side → IsDagFile bytes (side - 1) → Judged bytes number asked
  by_file side low file =
      elim (version_decided bytes (side - 1) number) [
        | inl has ↦ by_placed side low file has (question_placed (2 ^ side) asked) refl
        | inr none ↦
            (Some NoPlace, record { side = side; low = low; file = file; lacks = inl none })
      ]

  by_levels : (levels : ℕ) → IsDagFile bytes levels → Judged bytes number asked
  by_levels levels file =
      let some = file.right.levels_in.some.0 in
      let same : levels ≡ suc levels - 1 = omega arith in
      by_file (suc levels) (omega (arith, some)) (subst (IsDagFile bytes) same file)

  pub judged : Judged bytes number asked
  judged =
      elim (right_or_faulty bytes) [
        | inl file ↦ by_levels file.0 file.1
        | inr fault ↦ (Some (Dag fault.0), fault.1)
      ]

  one_side : (a b : ℕ) → 2 ≤ a → 2 ≤ b → IsDagFile bytes (a - 1) → IsDagFile bytes (b - 1) → a ≡ b
  one_side a b low_a low_b of_a of_b =
      let same = one_levels bytes (a - 1) (b - 1) of_a.right.levels_in of_b.right.levels_in in
      omega (arith, same, low_a, low_b)

  lacks_not : (side : ℕ) → HasVersion bytes (side - 1) number → (q : Question)
      → question_placed (2 ^ side) asked ≡ Ok q
      → (HasVersion bytes (side - 1) number → ⊥)
      ⊎ ((r : Question) → question_placed (2 ^ side) asked ≡ Ok r → ⊥) → ⊥
  lacks_not side has q placed (inl none) = none has
  lacks_not side has q placed (inr none) = none q placed

  not_both : HasAsked bytes number asked → LacksAsked bytes number asked → ⊥
  not_both h l =
      let same = one_side l.side h.side l.low h.low l.file h.file in
      lacks_not h.side h.has h.question h.placed
      (subst (λ (s : ℕ). (HasVersion bytes (s - 1) number → ⊥)
      ⊎ ((r : Question) → question_placed (2 ^ s) asked ≡ Ok r → ⊥)) same l.lacks)

  pub judged_once : (a b : Option LookRefused) → JudgesLook bytes number asked a
      → JudgesLook bytes number asked b → a ≡ b
  judged_once None None of_a of_b = refl
  judged_once None (Some (Dag place)) of_a of_b =
      absurd (no_fault bytes (of_a.side - 1) place of_a.file of_b)
  judged_once None (Some NoPlace) of_a of_b = absurd (not_both of_a of_b)
  judged_once (Some (Dag place)) None of_a of_b =
      absurd (no_fault bytes (of_b.side - 1) place of_b.file of_a)
  judged_once (Some (Dag p)) (Some (Dag q)) of_a of_b =
      ap (λ (n : ℕ). Some (Dag n)) (one_fault bytes p q of_a of_b)
  judged_once (Some (Dag place)) (Some NoPlace) of_a of_b =
      absurd (no_fault bytes (of_b.side - 1) place of_b.file of_a)
  judged_once (Some NoPlace) None of_a of_b = absurd (not_both of_b of_a)
  judged_once (Some NoPlace) (Some (Dag place)) of_a of_b =
      absurd (no_fault bytes (of_a.side - 1) place of_a.file of_b)
  judged_once (Some NoPlace) (Some NoPlace) of_a of_b = refl
  judged_once (Some Memory) b of_a of_b = absurd of_a
  judged_once a (Some Memory) of_a of_b = absurd of_b

-- a look that is answered has its place
pub answer_has_place : (bytes : List ℕ) (number : ℕ) (asked : Question) (answer : Answer)
    → AnswersLook bytes number asked answer → HasAsked bytes number asked
answer_has_place bytes number asked answer a = record {
  side = a.side;
  low = a.low;
  file = a.file;
  has = (a.tells.v, a.tells.is);
  question = a.question;
  placed = a.placed;
}
