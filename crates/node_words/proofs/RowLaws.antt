-- Rows of eight.
use Rattle.std.proofs.Common.{◌≡◌, ℕ, zero, suc, ◌<◌, List, [], ◌∷◌, length, Option, refl, arith}
use Rattle.std.specs.Prelude.{slice_index_or}
use Rattle.node_words.specs.declared.shapes.names.Name.{Name}
use Rattle.node_words.specs.Held.{name_in}

pub eight_names : (cs : List (Option Name)) → length cs ≡ 8
    → name_in cs 0 ∷ name_in cs 1 ∷ name_in cs 2 ∷ name_in cs 3
    ∷ name_in cs 4 ∷ name_in cs 5 ∷ name_in cs 6 ∷ name_in cs 7 ∷ [] ≡ cs
eight_names (a ∷ b ∷ c ∷ d ∷ e ∷ f ∷ g ∷ h ∷ []) l = refl
eight_names _ l = absurd (omega arith)

-- an item that is there doesn't depend on what would stand in its place
pub default_same : (cs : List (Option Name)) (k : ℕ) (d e : Option Name) → k < length cs
    → slice_index_or cs k d ≡ slice_index_or cs k e
default_same [] k d e lt = absurd (omega arith)
default_same (c ∷ cs) zero d e lt = refl
default_same (c ∷ cs) (suc k) d e lt = default_same cs k d e (omega arith)
