-- The cells of a block that stands at a name.
use Rattle.std.proofs.Common.{◌≡◌, ℕ, zero, suc, ◌+◌, ◌-◌, ◌*◌, ◌/◌, ◌%◌, ◌^◌, ◌<◌, ◌≤◌, Bool, false, refl, sym, ◌∙◌, ap, subst, arith, Some, None, Option}
use Rattle.std.specs.Prelude.{◌==◌}
use Rattle.std.specs.Int.{bit_at}
use Rattle.std.proofs.lemmas.Nat.Bits.{bit_at_above}
use Rattle.vw_cell.specs.Places.{block_side}
use Rattle.node_words.specs.declared.shapes.names.Name.{Name}
use Rattle.node_words.specs.shapes.Shape.{Shape, Leaf, has, octant_number, bit_number}
use Rattle.node_words.specs.shapes.Tree.{shape_of}
use Rattle.node_words.proofs.OfShapes.ShapeLaws.{has-clear, block_side-suc, octant_shape-past}
use Rattle.node_words.specs.declared.keys.Key.{Key}
use Rattle.core_laws.specs.places.Names.{key_bits, key_child}
use Rattle.core_laws.specs.States.{tree_at}
use Rattle.core_laws.proofs.LiveShapes.{clear_at, octant_at}

-- whether a cell is set of what stands at a name
abbrev pub set_at : (Name → Key) → ℕ → Option Name → ℕ → ℕ → ℕ → Bool
set_at key level name x y z = has level (shape_of (tree_at key level name)) x y z

pub none_set : (key : Name → Key) (level x y z : ℕ) → false ≡ set_at key level None x y z
none_set key level x y z =
    sym (ap (λ (s : Shape). has level s x y z) (clear_at key level) ∙ has-clear level x y z)

pub leaf_set : (key : Name → Key) (level : ℕ) (n : Name) (x y z : ℕ) → level ≡ 0
    → has 0 (Leaf (key_bits (key n))) x y z ≡ set_at key level (Some n) x y z
unfolding tree_at shape_of
leaf_set key zero n x y z e = refl
leaf_set key (suc level) n x y z e = absurd (omega arith)

past_at : (key : Name → Key) (l half : ℕ) (n : Name) (x y z : ℕ) → half ≡ block_side l
    → 8 ≤ octant_number half x y z → false ≡ set_at key (suc l) (Some n) x y z
unfolding has
past_at key l half n x y z e past =
    let s : Shape = shape_of (tree_at key (suc l) (Some n)) in
    let far : 8 ≤ octant_number (block_side l) x y z =
    subst (λ (h : ℕ). 8 ≤ octant_number h x y z) e past in
    sym (ap (λ (t : Shape). has l t (x % block_side l) (y % block_side l) (z % block_side l))
    (octant_shape-past s (octant_number (block_side l) x y z) far)
    ∙ has-clear l (x % block_side l) (y % block_side l) (z % block_side l))

below_at : (key : Name → Key) (l half : ℕ) (n : Name) (x y z : ℕ) → half ≡ block_side l
    → octant_number half x y z < 8
    → set_at key l (key_child (key n) (octant_number half x y z)) (x % half) (y % half) (z % half)
    ≡ set_at key (suc l) (Some n) x y z
unfolding has
below_at key l half n x y z e lt =
    subst (λ (h : ℕ). octant_number h x y z < 8
    → set_at key l (key_child (key n) (octant_number h x y z)) (x % h) (y % h) (z % h)
    ≡ set_at key (suc l) (Some n) x y z) (sym e)
    (λ inside. sym
    (ap (λ (t : Shape). has l t (x % block_side l) (y % block_side l) (z % block_side l))
    (octant_at key l n (octant_number (block_side l) x y z) inside))) lt

pub half_of : (side level : ℕ) → side ≡ block_side level → 1 ≤ level
    → side / 2 ≡ block_side (level - 1)
half_of side zero e h = absurd (omega arith)
half_of side (suc l) e h =
    let up = block_side-suc l in
    let same : suc l - 1 ≡ l = omega arith in
    let two : side / 2 ≡ block_side l = omega arith in
    two ∙ ap (λ (k : ℕ). block_side k) (sym same)

pub past_set : (key : Name → Key) (side level : ℕ) (n : Name) (x y z octant : ℕ)
    → side ≡ block_side level → 1 ≤ level → octant ≡ octant_number (side / 2) x y z → 7 < octant
    → false ≡ set_at key level (Some n) x y z
past_set key side zero n x y z octant e h o past = absurd (omega arith)
past_set key side (suc l) n x y z octant e h o past =
    let same : suc l - 1 ≡ l = omega arith in
    past_at key l (side / 2) n x y z (half_of side (suc l) e h ∙ ap (λ (k : ℕ). block_side k) same)
    (omega (arith, o))

pub below_set : (key : Name → Key) (side level : ℕ) (n : Name) (x y z octant : ℕ) (r : Bool)
    → side ≡ block_side level → 1 ≤ level → octant ≡ octant_number (side / 2) x y z → octant ≤ 7
    → r ≡ set_at key (level - 1) (key_child (key n) octant) (x % (side / 2)) (y % (side / 2))
    (z % (side / 2))
    → r ≡ set_at key level (Some n) x y z
below_set key side zero n x y z octant r e h o inside is = absurd (omega arith)
below_set key side (suc l) n x y z octant r e h o inside is =
    let same : suc l - 1 ≡ l = omega arith in
    is ∙ ap (λ (k : ℕ). set_at key k (key_child (key n) octant) (x % (side / 2)) (y % (side / 2))
    (z % (side / 2))) same
    ∙ ap
    (λ (k : ℕ). set_at key l (key_child (key n) k) (x % (side / 2)) (y % (side / 2))
    (z % (side / 2))) o
    ∙ below_at key l (side / 2) n x y z
    (half_of side (suc l) e h ∙ ap (λ (k : ℕ). block_side k) same) (omega (arith, o))

pub bit_past : (bits x y z number : ℕ) → bits < 2 ^ 64 → number ≡ x + 4 * y + 16 * z → 63 < number
    → false ≡ has 0 (Leaf bits) x y z
unfolding has
bit_past bits x y z number small e far =
    let none : bit_at bits (bit_number x y z) ≡ 0 =
    bit_at_above bits 64 (bit_number x y z) small (omega arith) in
    sym (ap (λ (b : ℕ). b == 1) none)
