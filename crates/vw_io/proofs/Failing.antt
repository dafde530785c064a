-- A read that isn't told to fail fails only where the count of faults can't rise.
use Rattle.std.proofs.Common.{◌≡◌, ℕ, Bool, true, false, cond, eqb, None, Err, refl, sym, ◌∙◌, arith}
use Rattle.std.proofs.lemmas.Bool.{eqb-true}
use Rattle.vw_io.specs.Read.{ReadCause}
use Rattle.vw_io.specs.System.{most_faults, answer_of_read}
use Rattle.vw_io.specs.Faulty.{FailsRead}
use Rattle.vw_io.specs.declared.shelves.ReadRefused.{ReadRefused}
use Rattle.vw_io.specs.declared.shelves.ReadRefused.TheVariants.{Missing, TooLong, Failed, Memory}

by_answer : (faults : ℕ) (answer : ReadRefused) → (answer ≡ Failed → faults ≡ most_faults)
    → FailsRead None faults (Err answer)
by_answer faults Missing last = tt
by_answer faults TooLong last = tt
by_answer faults Failed last = last refl
by_answer faults Memory last = tt

told_last : (faults : ℕ) (other : ReadRefused) (test : Bool) → eqb faults most_faults ≡ test
    → cond test Failed other ≡ Failed → (other ≡ Failed → ⊥) → faults ≡ most_faults
told_last faults other true is told differs = eqb-true faults most_faults is
told_last faults other false is told differs = absurd (differs told)

pub fails_at_last : (faults : ℕ) (refused answer : ReadRefused) → ReadCause (Err refused) 0 0
    → answer ≡ answer_of_read refused faults → FailsRead None faults (Err answer)
fails_at_last faults Missing answer cause told =
    by_answer faults answer
    (λ failed. told_last faults Missing (eqb faults most_faults) refl (sym told ∙ failed)
    (λ same. cc))
fails_at_last faults TooLong answer cause told =
    by_answer faults answer
    (λ failed. told_last faults TooLong (eqb faults most_faults) refl (sym told ∙ failed)
    (λ same. cc))
fails_at_last faults Failed answer cause told = absurd (omega (arith, cause))
fails_at_last faults Memory answer cause told =
    by_answer faults answer
    (λ failed. absurd (let same : Memory ≡ Failed = sym told ∙ failed in cc))
