-- Laws of the answers that a walk remembers.
use Rattle.std.proofs.Common.{◌≡◌, ℕ, zero, suc, refl, None, Option, List}
use Rattle.std.specs.Prelude.{slice_index_or}
use Rattle.std.proofs.Math.ListN.{replicate}
use Rattle.node_words.specs.shapes.Tree.{Tree}
use Rattle.node_words.specs.declared.descent.answers.Known.{Known}
use Rattle.node_words.specs.descent.Answers.{AreRight}

nothing_at : (Q : Type 0) (n i : ℕ)
    → slice_index_or (replicate {A = Option (Known Q)} n None) i None ≡ None
nothing_at Q zero i = refl
nothing_at Q (suc n) zero = refl
nothing_at Q (suc n) (suc i) = nothing_at Q n i

pub none_right : (Q : Type 0) (tells : List Tree → Q → ℕ → Type 0) (n : ℕ) (held : List Tree)
    → AreRight tells held (replicate n None)
none_right Q tells n held = record { each = λ i k e. (let none = nothing_at Q n i in cc) }
