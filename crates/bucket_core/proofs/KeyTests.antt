-- Lists of children that are alike.
use Rattle.std.proofs.Common.{◌≡◌, ℕ, ◌<◌, sym, ◌∙◌, arith, None, Option, List, length}
use Rattle.std.proofs.lemmas.List.{ext_get_or}
use Rattle.node_words.specs.declared.shapes.names.Name.{Name}
use Rattle.node_words.specs.Held.{name_in}

-- lists of eight that agree at each place are equal
pub same_children : (a b : List (Option Name)) → length a ≡ 8 → length b ≡ 8
    → ((k : ℕ) → k < 8 → name_in a k ≡ name_in b k) → a ≡ b
same_children a b eight_a eight_b same =
    ext_get_or None a b (eight_a ∙ sym eight_b) (λ k lt. same k (omega arith))
