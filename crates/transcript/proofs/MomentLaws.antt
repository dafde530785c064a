-- Moments are looked at one after another.
use Rattle.std.proofs.Common.{◌≡◌, ℕ, suc, ◌+◌, ◌<◌, ◌≤◌, Bool, true, false, ◌&&◌, leb, List, [], ◌∷◌, length, get_or, drop, refl, ◌∙◌, arith, drop-cons, add-one}
use Rattle.std.proofs.lemmas.Bool.{leb-true, le-leb}
use Rattle.std.proofs.lemmas.List.{drop_all}
use Rattle.transcript.specs.declared.answers.LineAnswer.{LineAnswer}
use Rattle.transcript.specs.Moments.{never_fall}

fall-cons : (last : ℕ) (a : LineAnswer) (more : List LineAnswer)
    → never_fall last (a ∷ more) ≡ leb last a.at && never_fall a.at more
unfolding never_fall
fall-cons last a more = refl

fall-nil : (last : ℕ) → never_fall last [] ≡ true
unfolding never_fall
fall-nil last = refl

low_by : (m n : ℕ) (test : Bool) → leb m n ≡ test → n < m → test ≡ false
low_by m n true e less = absurd (omega (arith, leb-true m n e))
low_by m n false e less = refl

-- a moment below the last one
pub moment_falls : (last i : ℕ) (d : LineAnswer) (answers : List LineAnswer) → i < length answers
    → (get_or answers i d).at < last → never_fall last (drop i answers) ≡ false
moment_falls last i d answers less low =
    let falls = low_by last (get_or answers i d).at (leb last (get_or answers i d).at) refl low in
    rw (drop-cons answers i d less)
    (fall-cons last (get_or answers i d) (drop (suc i) answers) ∙ rw falls refl)

-- and any other
pub moment_goes_on : (last i : ℕ) (d : LineAnswer) (answers : List LineAnswer) → i < length answers
    → last ≤ (get_or answers i d).at
    → never_fall last (drop i answers) ≡ never_fall (get_or answers i d).at (drop (i + 1) answers)
moment_goes_on last i d answers less le =
    let rises = le-leb last (get_or answers i d).at le in
    rw (drop-cons answers i d less, add-one)
    (fall-cons last (get_or answers i d) (drop (suc i) answers) ∙ rw rises refl)

pub moments_end : (last i : ℕ) (answers : List LineAnswer) → length answers ≤ i
    → never_fall last (drop i answers) ≡ true
moments_end last i answers far = rw (drop_all i answers far) (fall-nil last)
