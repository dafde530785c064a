-- How many branches of a full block there are.
use Rattle.std.proofs.Common.{◌≡◌, ◌≢◌, ℕ, zero, suc, ◌+◌, ◌-◌, ◌*◌, ◌^◌, ◌<◌, ◌≤◌, Bool, true, false, List, map, length, refl, sym, ◌∙◌, ap, subst, arith, inl, inr, eqb, slice_index_or, Option, Some, None}
use Rattle.std.specs.List.{AllPairs, list_any}
use Rattle.std.proofs.lemmas.Bool.{cases_lt, eqb-true}
use Rattle.std.proofs.lemmas.List.{get_or-map, length-map}
use Rattle.std.proofs.lemmas.List.Folds.{Any-from_list_any}
use Rattle.std.proofs.lemmas.Map.Keys.{IsDistinct-from_apart}
use Rattle.std.proofs.lemmas.Map.Steps.{length-le_from_distinct_below}
use Rattle.node_words.specs.shapes.Shape.{Shape, Clear, Leaf, Branch, octant_shape, IsPart, whole, within, IsBranch}
use Rattle.node_words.specs.declared.shapes.names.Name.{Name}
use Rattle.node_words.specs.shapes.Tree.{Tree, shape_of}
use Rattle.edit_walk.specs.blocks.Blocks.{height}
use Rattle.node_words.proofs.OfShapes.ShapeLaws.{octant_shape-clear, octant_shape-past}
use Rattle.node_words.specs.Held.{ReturnsWithin}
use Rattle.node_words.specs.contents.CellShapes.{full_shape}
use Rattle.node_words.proofs.OfContents.FullShapes.{full_octant, full_leaf}

-- how many levels a shape has below it, along its first octants
abbrev depth : Shape → ℕ
depth (Branch a b c d e f g h) = suc (depth a)
depth _ = zero

full_depth : (level : ℕ) → depth (full_shape level) ≡ level
unfolding full_shape
full_depth zero = refl
full_depth (suc level) = ap suc (full_depth level)

-- p is a full block of one of so many levels from 1 on
record FullBranch (n : ℕ) (p : Shape) : Type 0 where
  j : ℕ
  below : j < n
  is : p ≡ full_shape (suc j)

part_clear : {p s : Shape} → IsPart p s → s ≡ Clear → p ≡ Clear
part_clear (whole n) e = e
part_clear (within k q) e = part_clear q (ap (λ t. octant_shape t k) e ∙ octant_shape-clear k)

leaf_octant : (bits k : ℕ) → octant_shape (Leaf bits) k ≡ Clear
leaf_octant bits zero = refl
leaf_octant bits (suc k) = refl

part_full : {p s : Shape} → IsPart p s → (level : ℕ) → s ≡ full_shape level → IsBranch p
    → FullBranch level p
part_full (whole n) zero e b = absurd (subst IsBranch (e ∙ full_leaf) b)
part_full (whole n) (suc l) e b = record { j = l; below = omega arith; is = e }
part_full (within k q) zero e b =
    absurd
    (subst IsBranch
    (part_clear q
    (ap (λ t. octant_shape t k) (e ∙ full_leaf) ∙ leaf_octant (2 ^ 64 - 1) k)) b)
part_full (within k q) (suc l) e b = elim (cases_lt k 8) [
  | inl lt ↦ let r = part_full q l (ap (λ t. octant_shape t k) e ∙ full_octant l k lt) b in
      record { j = r.j; below = omega (arith, r.below); is = r.is }
  | inr ge ↦ absurd (subst IsBranch (part_clear q (octant_shape-past _ k ge)) b)
]

level_in : Shape → ℕ
level_in p = depth p - 1

full_level : (n : ℕ) (p : Shape) → (f : FullBranch n p) → level_in p ≡ f.j
unfolding level_in
full_level n p f =
    let e : depth p ≡ suc f.j = ap depth f.is ∙ full_depth (suc f.j) in omega (arith, e)

-- full blocks of one level are equal
full_same : (n : ℕ) (p q : Shape) → FullBranch n p → FullBranch n q → level_in p ≡ level_in q
    → p ≡ q
full_same n p q f g e =
    f.is ∙ ap (λ (j : ℕ). full_shape (suc j)) (sym (full_level n p f) ∙ e ∙ full_level n q g)
    ∙ sym g.is

bool_false : (b : Bool) → (b ≡ true → ⊥) → b ≡ false
bool_false true h = absurd (h refl)
bool_false false h = refl

at_level : (xs : List Shape) (i d : ℕ) → i < length xs
    → slice_index_or (map level_in xs) i d ≡ level_in (slice_index_or xs i Clear)
at_level xs i d h = get_or-map level_in xs i Clear d h

-- a level of the list is one of so many
level_below : (n : ℕ) (xs : List Shape) (q : ℕ)
    → ((i : ℕ) → i < length xs → FullBranch n (slice_index_or xs i Clear))
    → list_any (eqb q) (map level_in xs) ≡ true → q < n
level_below n xs q each h =
    let (k, x, lt, at, e) = Any-from_list_any (eqb q) (map level_in xs) h in
    let len : length (map level_in xs) ≡ length xs = length-map xs level_in in
    let kl : k < length xs = omega (arith, lt, len) in
    let f = each k kl in
    let v : q ≡ f.j = eqb-true q x e ∙ sym at ∙ at_level xs k x kl ∙ full_level n _ f in
    omega (arith, v, f.below)

-- different full branches of so many levels are at most so many
at_most : (n : ℕ) (xs : List Shape) → AllPairs (λ p q. p ≢ q) xs
    → ((i : ℕ) → i < length xs → FullBranch n (slice_index_or xs i Clear)) → length xs ≤ n
at_most n xs apart each =
    let ks : List ℕ = map level_in xs in
    let len : length ks ≡ length xs = length-map xs level_in in
    let distinct = IsDistinct-from_apart eqb ks (λ i j d a b. bool_false _ (λ e.
    let jl : j < length xs = omega (arith, len) in
    let il : i < length xs = omega (arith, len) in
    apart i j Clear a jl
    (full_same n _ _ (each i il) (each j jl)
    (sym (at_level xs i d il) ∙ eqb-true _ _ e ∙ at_level xs j d jl)))) in
    let below : (q : ℕ) → list_any (eqb q) ks ≡ true → q < n = λ q h. level_below n xs q each h in
    let r = length-le_from_distinct_below ks n distinct below in
    omega (arith, r, len)

-- the turns of giving a full block back
pub full_returns : (held : List Tree) (s : Shape) (level before after : ℕ) → s ≡ full_shape level
    → ReturnsWithin held s before after → after ≤ before + 1 + 8 * level
full_returns held s level before after e r =
    let m =
    at_most level r.freed r.different
    (λ i h. part_full (r.parts i Clear h) level e (r.unheld i Clear h).is_branch) in
    omega (arith, r.turns, m)

-- those of giving back what may be a full block
pub back_turns : (held : List Tree) (full : Option Name) (t : Tree) (before after : ℕ)
    → (full ≡ None → after ≡ before)
    → ((n : Name) → full ≡ Some n → ReturnsWithin held (shape_of t) before after)
    → ((n : Name) → full ≡ Some n → shape_of t ≡ full_shape n.level)
    → after ≤ before + 8 * height full
back_turns held None t before after a b c = omega (arith, a refl)
back_turns held (Some n) t before after a b c =
    omega (arith, full_returns held (shape_of t) n.level before after (c n refl) (b n refl))
