-- What a look at a cell tells, from an octant to its block.
use Rattle.std.proofs.Common.{◌≡◌, ℕ, suc, ◌+◌, ◌-◌, ◌*◌, ◌%◌, ◌^◌, ◌<◌, ◌≤◌, Bool, false, Some, None, Option, List, refl, sym, ap, subst, ◌∙◌, arith, pow-add}
use Rattle.std.specs.Prelude.{◌==◌}
use Rattle.std.specs.Option.{is_some}
use Rattle.std.specs.Int.{bit_at}
use Rattle.vw_cell.specs.declared.cells.Cell.{Cell}
use Rattle.vw_cell.specs.Places.{block_side, IsInWorld, half_x, half_y, half_z}
use Rattle.vw_cell.specs.Counts.{cell_at}
use Rattle.node_words.specs.shapes.Shape.{Shape, bits_of, bit_number, has, octant_shape}
use Rattle.node_words.specs.shapes.Tree.{Tree, shape_of}
use Rattle.node_words.proofs.OfShapes.ShapeLaws.{has-in_octant, block_side-suc}
use lib.Pow.{pow_mono, pow_pos}
use native.Mathlib.Nat.{mod-eq_of_lt}
use Rattle.node_words.specs.declared.shapes.names.Name.{Name}
use Rattle.node_words.specs.Held.{StoreState}
use Rattle.node_words.specs.descent.Roots.{cells_of, IsBlockOf}
use Rattle.node_words.specs.descent.Parts.{placed}

pub twice : (level : ℕ) → 1 ≤ level → block_side level ≡ 2 * block_side (level - 1)
twice level h =
    let e : suc (level - 1) ≡ level = omega arith in ap (λ (l : ℕ). block_side l) (sym e)
    ∙ block_side-suc (level - 1)

-- a place of an octant is set in the block just where it is in the octant
pub placed_set : (level : ℕ) (s : Shape) (k : ℕ) (c : Cell) → 1 ≤ level → k < 8
    → IsInWorld (block_side (level - 1)) c
    → cells_of level s (placed (block_side (level - 1)) k c) ≡ cells_of (level - 1)
    (octant_shape s k) c
placed_set level s k c h lt i =
    let e : suc (level - 1) ≡ level = omega arith in
    let P : ℕ → Type 0 =
    λ l. cells_of l s (placed (block_side (level - 1)) k c)
    ≡ cells_of (level - 1) (octant_shape s k) c in
    subst P e (has-in_octant (level - 1) s k c.x c.y c.z lt i.x i.y i.z)

pub whole_side : (level : ℕ) → level ≤ 10 → 4 * 2 ^ level % 65536 ≡ 4 * 2 ^ level
whole_side level h =
    let bound : 2 ^ level ≤ 2 ^ 10 = pow_mono h in mod-eq_of_lt (omega (arith, bound))

pub half_bounds : (level : ℕ) → 1 ≤ level → level ≤ 10
    → (4 ≤ 4 * 2 ^ (level - 1)) × (4 * 2 ^ (level - 1) ≤ 2048)
half_bounds level h top =
    let below : level - 1 ≤ 9 = omega arith in
    let bound : 2 ^ (level - 1) ≤ 2 ^ 9 = pow_mono below in
    let some = pow_pos (level - 1) in
    (omega (arith, some), omega (arith, bound))

pub half_twice : (level : ℕ) → 1 ≤ level → level ≤ 10
    → block_side level ≡ 2 * (4 * 2 ^ (level - 1) % 65536)
half_twice level h top =
    let bounds = half_bounds level h top in
    let small : 4 * 2 ^ (level - 1) < 65536 = omega arith in
    rw (mod-eq_of_lt small) (twice level h)

pub same_cell : (c : Cell) (x y z : ℕ) → c.x ≡ x → c.y ≡ y → c.z ≡ z → c ≡ cell_at x y z
same_cell c x y z p q r = rw (← p, ← q, ← r) refl

-- the halves of a place, and the place in them
pub halves_join : (half i j k : ℕ) (c inner : Cell) → i < 2 → j < 2 → k < 2
    → c.x ≡ i * half + inner.x → c.y ≡ j * half + inner.y → c.z ≡ k * half + inner.z
    → c ≡ placed half (i + 2 * j + 4 * k) inner
halves_join half i j k c inner p q r ex ey ez =
    let hx : half_x (i + 2 * j + 4 * k) ≡ i = omega arith in
    let hy : half_y (i + 2 * j + 4 * k) ≡ j = omega arith in
    let hz : half_z (i + 2 * j + 4 * k) ≡ k = omega arith in
    same_cell c _ _ _ (rw hx ex) (rw hy ey) (rw hz ez)

-- the bit of a leaf tells its cell
pub leaf_tells : (s : Shape) (bits : ℕ) (c : Cell) → bits ≡ bits_of s
    → (bit_at bits (bit_number c.x c.y c.z) == 1) ≡ cells_of 0 s c
unfolding has
leaf_tells s bits c e = ap (λ (b : ℕ). bit_at b (bit_number c.x c.y c.z) == 1) e

-- a block of a store stays one while what is seen of the store stays
pub block_still : (a b : StoreState) (level : ℕ) (name : Option Name) (t : Tree) → b ≡ a
    → IsBlockOf a.held level name t → IsBlockOf b.held level name t
block_still a b level name t e i = subst (λ (s : StoreState). IsBlockOf s.held level name t) (sym e) i

pub told_leaf : (held : List Tree) (level : ℕ) (block : Option Name) (bits : ℕ) (c : Cell)
    (set is : Bool) → level ≡ 0
    → ((t : Tree) → IsBlockOf held 0 block t → bits ≡ bits_of (shape_of t))
    → set ≡ (bit_at bits (bit_number c.x c.y c.z) == 1) → set ≡ is
    → (t : Tree) → IsBlockOf held level block t → cells_of level (shape_of t) c ≡ is
told_leaf held level block bits c set is z told e f t o =
    let at : IsBlockOf held 0 block t = subst (λ (l : ℕ). IsBlockOf held l block t) z o in
    ap (λ (l : ℕ). cells_of l (shape_of t) c) z ∙ sym (leaf_tells (shape_of t) bits c (told t at))
    ∙ sym e ∙ f

-- the root's level
pub root_side : (level side : ℕ) → level ≡ side - 2 → 2 ≤ side → 2 ^ side ≡ block_side level
root_side level side e h =
    let split : side ≡ level + 2 = omega arith in
    let power : 2 ^ (level + 2) ≡ 2 ^ level * 2 ^ 2 = pow-add 2 level 2 in
    ap (λ (n : ℕ). 2 ^ n) split ∙ omega (arith, power)

pub in_root : (level side : ℕ) (c : Cell) → level ≡ side - 2 → 2 ≤ side → IsInWorld (2 ^ side) c
    → IsInWorld (block_side level) c
in_root level side c e h i = subst (λ (n : ℕ). IsInWorld n c) (root_side level side e h) i

pub is_nothing : (block : Option Name) → is_some block ≡ false → block ≡ None
is_nothing None e = refl
is_nothing (Some n) e = cc
