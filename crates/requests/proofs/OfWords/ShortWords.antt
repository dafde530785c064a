-- Fewer words than a command needs ask for nothing.
use Rattle.std.proofs.Common.{◌≡◌, ℕ, ◌<◌, List, [], ◌∷◌, length, map, None, refl, arith}
use Rattle.requests.specs.Questions.{ray_in}
use Rattle.requests.specs.Words.{audit_words, look_words}

pub no_ray : {X : Type 0} (f : X → List ℕ) (words : List X) → length words < 3
    → ray_in (map f words) ≡ None
no_ray f [] short = refl
no_ray f (x ∷ []) short = refl
no_ray f (x ∷ (y ∷ [])) short = refl
no_ray f (x ∷ (y ∷ (z ∷ rest))) short = absurd (omega (arith, short))

pub no_look : {X : Type 0} (f : X → List ℕ) (words : List X) → length words < 3
    → look_words (map f words) ≡ None
no_look f [] short = refl
no_look f (x ∷ []) short = refl
no_look f (x ∷ (y ∷ [])) short = refl
no_look f (x ∷ (y ∷ (z ∷ rest))) short = absurd (omega (arith, short))

pub no_audit : {X : Type 0} (f : X → List ℕ) (words : List X) → length words < 2
    → audit_words (map f words) ≡ None
no_audit f [] short = refl
no_audit f (x ∷ []) short = refl
no_audit f (x ∷ (y ∷ rest)) short = absurd (omega (arith, short))
