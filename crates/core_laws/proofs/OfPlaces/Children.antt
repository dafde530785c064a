-- The words of children.
use Rattle.std.proofs.Common.{◌≡◌, ℕ, ◌+◌, ◌-◌, ◌*◌, ◌/◌, ◌%◌, ◌≤◌, Option, Some, None, refl, ap, sym, ◌∙◌, arith}
use Rattle.std.proofs.lemmas.Nat.{div-mul-add, mod-mul-add, same_from_place}
use Rattle.node_words.specs.declared.shapes.names.Name.{Name}
use Rattle.core_laws.specs.places.Words.{word_of_child, IsChildAt}

-- a child is read from its word
pub reads_back : (word level : ℕ) (child : Option Name) → 1 ≤ word → IsChildAt level child
    → word ≡ word_of_child child
    → Some (record { level = level; bucket = (word - 1) / 256; slot = (word - 1) % 256 }) ≡ child
reads_back word level None some is of_child = absurd (omega arith)
reads_back word level (Some n) some is of_child =
    let at : word - 1 ≡ n.bucket * 256 + n.slot = omega (arith, of_child) in
    let bucket : (word - 1) / 256 ≡ n.bucket =
    ap (λ (m : ℕ). m / 256) at ∙ div-mul-add n.bucket 256 n.slot is.1 in
    let slot : (word - 1) % 256 ≡ n.slot =
    ap (λ (m : ℕ). m % 256) at ∙ mod-mul-add n.bucket 256 n.slot is.1 in
    rw (bucket, slot, is.0) refl

-- children with one word are one child
pub one_child : (level : ℕ) (a b : Option Name) → IsChildAt level a → IsChildAt level b
    → word_of_child a ≡ word_of_child b → a ≡ b
one_child level None None of_a of_b e = refl
one_child level None (Some n) of_a of_b e = absurd (omega arith)
one_child level (Some m) None of_a of_b e = absurd (omega arith)
one_child level (Some m) (Some n) of_a of_b e =
    let same =
    same_from_place m.bucket m.slot n.bucket n.slot 256 of_a.1 of_b.1 (omega (arith, e)) in
    let levels : m.level ≡ n.level = of_a.0 ∙ sym of_b.0 in
    rw (same.0, same.1, levels) refl
