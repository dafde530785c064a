-- What a shape shows of a world, from a block to its octants and back.
use Rattle.std.proofs.Common.{◌≡◌, ℕ, zero, suc, ◌+◌, ◌*◌, ◌-◌, ◌/◌, ◌%◌, ◌^◌, ◌<◌, ◌≤◌, Bool, false, refl, sym, ◌∙◌, ap, subst, arith}
use Rattle.std.specs.Prelude.{◌==◌, bit_and}
use Rattle.std.proofs.lemmas.Nat.Bits.{shr_and_one}
use Rattle.std.specs.Int.{bit_at}
use Rattle.std.proofs.lemmas.Nat.{div_below}
use Rattle.vw_cell.specs.declared.cells.Cell.{Cell}
use Rattle.vw_cell.specs.declared.blocks.Block.{Block}
use Rattle.vw_cell.specs.Places.{block_side, half_x, half_y, half_z, IsWithin, IsInBlock, octant_of}
use Rattle.node_words.specs.shapes.Shape.{Shape, Clear, Leaf, bits_of, bit_number, octant_shape, octant_number, has, SameCells, ShowsCells, IsCanonical}
use Rattle.node_words.proofs.OfShapes.ShapeLaws.{has-in_octant, has-clear, block_side-suc, block_side_some, same_shape}

-- c stands in half i of the stretch from low: at its place in the half, and so in the whole
record InHalf (low half i c : ℕ) : Type 0 where
  inside : c - (low + half * i) < half
  place : i * half + (c - (low + half * i)) ≡ c - low
  whole : IsWithin low (2 * half) c

in_half : (low half i c : ℕ) → i < 2 → IsWithin (low + half * i) half c → InHalf low half i c
in_half low half zero c lt h =
    record { inside = omega arith; place = omega arith; whole = (omega arith, omega arith) }
in_half low half (suc zero) c lt h =
    record { inside = omega arith; place = omega arith; whole = (omega arith, omega arith) }
in_half low half (suc (suc i)) c lt h = absurd (omega arith)

has_below : (level : ℕ) (s : Shape) (k x y z : ℕ) → 1 ≤ level → k < 8 → x < block_side (level - 1)
    → y < block_side (level - 1) → z < block_side (level - 1)
    → has level s (half_x k * block_side (level - 1) + x) (half_y k * block_side (level - 1) + y)
    (half_z k * block_side (level - 1) + z) ≡ has (level - 1) (octant_shape s k) x y z
has_below level s k x y z h lt p q r =
    let e : suc (level - 1) ≡ level = omega arith in
    let P : ℕ → Type 0 =
    λ l. has l s (half_x k * block_side (level - 1) + x)
    (half_y k * block_side (level - 1) + y) (half_z k * block_side (level - 1) + z)
    ≡ has (level - 1) (octant_shape s k) x y z in
    subst P e (has-in_octant (level - 1) s k x y z lt p q r)

twice : (level : ℕ) → 1 ≤ level → 2 * block_side (level - 1) ≡ block_side level
twice level h =
    let e : suc (level - 1) ≡ level = omega arith in sym (block_side-suc (level - 1))
    ∙ ap (λ (l : ℕ). block_side l) e

has_same : (level : ℕ) (s : Shape) (x y z x' y' z' : ℕ) → x ≡ x' → y ≡ y' → z ≡ z'
    → has level s x y z ≡ has level s x' y' z'
has_same level s x y z x' y' z' p q r = rw (p, q, r) refl

-- what a shape shows in a block its octants show in the block's octants
pub octant_shows : (b : Block) (s : Shape) (cells : Cell → Bool) (k : ℕ) → 1 ≤ b.level → k < 8
    → ShowsCells b s cells → ShowsCells (octant_of b k) (octant_shape s k) cells
octant_shows b s cells k h lt shown = record {
  each = λ c i.
      let half = block_side (b.level - 1) in
      let x = in_half b.at.x half (half_x k) c.x (omega arith) i.x in
      let y = in_half b.at.y half (half_y k) c.y (omega arith) i.y in
      let z = in_half b.at.z half (half_z k) c.z (omega arith) i.z in
      let e = twice b.level h in
      let at : IsInBlock b c =
      record { x = rw e at x.whole; y = rw e at y.whole; z = rw e at z.whole } in
      sym (has_below b.level s k _ _ _ h lt x.inside y.inside z.inside)
      ∙ has_same b.level s _ _ _ _ _ _ x.place y.place z.place ∙ shown.each c at;
}

-- c stands in the half of the stretch from low that a division tells
record HasHalf (low half c : ℕ) : Type 0 where
  half_below : (c - low) / half < 2
  within : IsWithin (low + half * ((c - low) / half)) half c
  place : c - (low + half * ((c - low) / half)) ≡ (c - low) % half

has_half : (low half c : ℕ) → 0 < half → IsWithin low (2 * half) c → HasHalf low half c
has_half low half c p h = record {
  half_below = div_below (c - low) half 2 p (omega arith);
  within = (omega arith, omega arith);
  place = omega arith;
}

pub half_below : (low half c : ℕ) → 1 ≤ half → IsWithin low (2 * half) c → (c - low) / half < 2
half_below low half c p h = (has_half low half c p h).half_below

-- the halves that an octant's number is made of
record HalvesOf (i j k : ℕ) : Type 0 where
  number : i + 2 * j + 4 * k < 8
  x : half_x (i + 2 * j + 4 * k) ≡ i
  y : half_y (i + 2 * j + 4 * k) ≡ j
  z : half_z (i + 2 * j + 4 * k) ≡ k

halves_of : (i j k : ℕ) → i < 2 → j < 2 → k < 2 → HalvesOf i j k
halves_of i j k p q r =
    record { number = omega arith; x = omega arith; y = omega arith; z = omega arith }

-- the octant that the halves of a cell's place name has the cell
pub octant_has : (b : Block) (c : Cell) (half i j k : ℕ) → 1 ≤ b.level
    → half ≡ block_side (b.level - 1) → IsInBlock b c → i ≡ (c.x - b.at.x) / half
    → j ≡ (c.y - b.at.y) / half → k ≡ (c.z - b.at.z) / half
    → IsInBlock (octant_of b (i + 2 * j + 4 * k)) c
octant_has b c half i j k h e w ei ej ek =
    let some = block_side_some (b.level - 1) in
    let d = sym (twice b.level h) in
    let x = has_half b.at.x (block_side (b.level - 1)) c.x some (rw d at w.x) in
    let y = has_half b.at.y (block_side (b.level - 1)) c.y some (rw d at w.y) in
    let z = has_half b.at.z (block_side (b.level - 1)) c.z some (rw d at w.z) in
    let qi = rw e at ei in
    let qj = rw e at ej in
    let qk = rw e at ek in
    let n =
    halves_of i j k (rw (sym qi) at x.half_below) (rw (sym qj) at y.half_below)
    (rw (sym qk) at z.half_below) in
    record { x = rw (n.x, qi) x.within; y = rw (n.y, qj) y.within; z = rw (n.z, qk) z.within }

has_split : (level : ℕ) (s : Shape) (x y z : ℕ) → 1 ≤ level
    → has level s x y z ≡ has (level - 1)
    (octant_shape s (octant_number (block_side (level - 1)) x y z)) (x % block_side (level - 1))
    (y % block_side (level - 1)) (z % block_side (level - 1))
unfolding has
has_split level s x y z h =
    let e : level ≡ suc (level - 1) = omega arith in
    ap (λ (l : ℕ). has l s x y z) e

-- what the octants show in the block's octants the shape shows in the block
pub octants_show : (b : Block) (s : Shape) (cells : Cell → Bool) → 1 ≤ b.level
    → ((k : ℕ) → k < 8 → ShowsCells (octant_of b k) (octant_shape s k) cells) → ShowsCells b s cells
octants_show b s cells h shown = record {
  each = λ c i.
      let half = block_side (b.level - 1) in
      let some = block_side_some (b.level - 1) in
      let e = sym (twice b.level h) in
      let x = has_half b.at.x half c.x some (rw e at i.x) in
      let y = has_half b.at.y half c.y some (rw e at i.y) in
      let z = has_half b.at.z half c.z some (rw e at i.z) in
      let n =
      halves_of ((c.x - b.at.x) / half) ((c.y - b.at.y) / half)
      ((c.z - b.at.z) / half) x.half_below y.half_below z.half_below in
      let k = octant_number half (c.x - b.at.x) (c.y - b.at.y) (c.z - b.at.z) in
      let at : IsInBlock (octant_of b k) c =
      record {
        x = rw (← n.x) at x.within;
        y = rw (← n.y) at y.within;
        z = rw
            (← n.z) at z.within;
      } in
      let low = λ (m : ℕ) (a d : ℕ) (p : m ≡ a). ap (λ (v : ℕ). d + half * v) p in
      has_split b.level s _ _ _ h
      ∙ has_same (b.level - 1) (octant_shape s k) _ _ _ _ _ _
      (sym x.place ∙ ap (λ (v : ℕ). c.x - (b.at.x + half * v)) (sym n.x))
      (sym y.place ∙ ap (λ (v : ℕ). c.y - (b.at.y + half * v)) (sym n.y))
      (sym z.place ∙ ap (λ (v : ℕ). c.z - (b.at.z + half * v)) (sym n.z))
      ∙ (shown k n.number).each c at;
}

-- a bit that is shifted out tells its cell
pub leaf_has : (bits x y z : ℕ)
    → (bit_and (bits / 2 ^ (x + 4 * y + 16 * z)) 1 == 1) ≡ has 0 (Leaf bits) x y z
unfolding has
leaf_has bits x y z = rw shr_and_one refl

-- a leaf's block shows the leaf's bits
pub leaf_shows : (b : Block) (s : Shape) (cells : Cell → Bool) → b.level ≡ 0
    →
    ((c : Cell) → IsInBlock b c
    → (bit_at (bits_of s) (bit_number (c.x - b.at.x) (c.y - b.at.y) (c.z - b.at.z)) == 1)
    ≡ cells c) → ShowsCells b s cells
unfolding has
leaf_shows b s cells e h =
    record {
      each = λ c i. ap (λ (l : ℕ). has l s (c.x - b.at.x) (c.y - b.at.y) (c.z - b.at.z)) e
          ∙ h c i;
    }

pub leaf_shown : (b : Block) (s : Shape) (cells : Cell → Bool) (c : Cell) → b.level ≡ 0
    → ShowsCells b s cells → IsInBlock b c
    → (bit_at (bits_of s) (bit_number (c.x - b.at.x) (c.y - b.at.y) (c.z - b.at.z)) == 1) ≡ cells c
unfolding has
leaf_shown b s cells c e h i =
    ap (λ (l : ℕ). has l s (c.x - b.at.x) (c.y - b.at.y) (c.z - b.at.z)) (sym e) ∙ h.each c i

-- a clear block shows no set cell
pub clear_shows : (b : Block) (cells : Cell → Bool) → ((c : Cell) → IsInBlock b c → cells c ≡ false)
    → ShowsCells b Clear cells
clear_shows b cells h = record { each = λ c i. has-clear b.level _ _ _ ∙ sym (h c i) }

pub clear_shown : (b : Block) (cells : Cell → Bool) (c : Cell) → ShowsCells b Clear cells
    → IsInBlock b c → cells c ≡ false
clear_shown b cells c h i = sym (h.each c i) ∙ has-clear b.level _ _ _

-- two shapes that show the same cells in a block are the same on it
pub show_same : (b : Block) (s t : Shape) (cells : Cell → Bool) → ShowsCells b s cells
    → ShowsCells b t cells → SameCells b.level s t
show_same b s t cells p q = record {
  each = λ x y z lx ly lz.
      let c : Cell = record { x = b.at.x + x; y = b.at.y + y; z = b.at.z + z } in
      let i : IsInBlock b c =
      record {
        x = (omega arith, omega arith);
        y = (omega arith, omega arith);
        z =
            (omega arith, omega arith);
      } in
      let ex : c.x - b.at.x ≡ x = omega arith in
      let ey : c.y - b.at.y ≡ y = omega arith in
      let ez : c.z - b.at.z ≡ z = omega arith in
      sym (has_same b.level s _ _ _ _ _ _ ex ey ez) ∙ p.each c i ∙ sym (q.each c i)
      ∙ has_same b.level t _ _ _ _ _ _ ex ey ez;
}

-- canonical shapes that show the same cells in a block are equal
pub shown_once : (b : Block) (s t : Shape) (cells : Cell → Bool) → IsCanonical b.level s
    → IsCanonical b.level t → ShowsCells b s cells → ShowsCells b t cells → s ≡ t
shown_once b s t cells cs ct p q = same_shape b.level s t cs ct (show_same b s t cells p q)
