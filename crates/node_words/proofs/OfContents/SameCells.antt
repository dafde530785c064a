-- What holds of the cells of each octant holds of the block's, and the other way.
use Rattle.std.proofs.Common.{◌≡◌, ℕ, suc, ◌+◌, ◌-◌, ◌*◌, ◌<◌, refl, sym, ◌∙◌, ap, arith, inl, inr}
use Rattle.std.proofs.lemmas.Bool.{cases_lt}
use Rattle.node_words.specs.Places.{block_side, half_x, half_y, half_z}
use Rattle.node_words.specs.shapes.Shape.{Shape, octant_shape, has}
use Rattle.node_words.proofs.OfShapes.ShapeLaws.{block_side-suc, block_side_some, has-in_octant, halves, half_in}
use Rattle.node_words.specs.contents.CellShapes.{Cells, octant_cells, SameIn}

-- a place in a block: the octant's halves, and the place in the octant
record Split (side x : ℕ) : Type 0 where
  half : ℕ
  place : ℕ
  half_below : half < 2
  place_below : place < side
  whole : half * side + place ≡ x

split : (side x : ℕ) → 0 < side → x < 2 * side → Split side x
split side x p h = elim (cases_lt x side) [
  | inl l ↦ record { half = 0; place = x; half_below = omega arith; place_below = l; whole = omega arith }
  | inr r ↦ record { half = 1; place = x - side; half_below = omega arith; place_below = omega arith; whole = omega arith }
]

record NumberOf (i j k : ℕ) : Type 0 where
  below : i + 2 * j + 4 * k < 8
  x : half_x (i + 2 * j + 4 * k) ≡ i
  y : half_y (i + 2 * j + 4 * k) ≡ j
  z : half_z (i + 2 * j + 4 * k) ≡ k

number_of_halves : (i j k : ℕ) → i < 2 → j < 2 → k < 2 → NumberOf i j k
number_of_halves i j k p q r =
    record { below = omega arith; x = omega arith; y = omega arith; z = omega arith }

-- what holds of the cells of each octant holds of the block's
pub by_octants : (level : ℕ) (p q : Cells)
    → ((k : ℕ) → k < 8 → SameIn level (octant_cells level p k) (octant_cells level q k))
    → SameIn (suc level) p q
by_octants level p q h = record {
  each = λ x y z lx ly lz.
      let s : ℕ = block_side level in
      let two = block_side-suc level in
      let some = block_side_some level in
      let a = split s x some (omega (arith, two)) in
      let b = split s y some (omega (arith, two)) in
      let c = split s z some (omega (arith, two)) in
      let n = number_of_halves a.half b.half c.half a.half_below b.half_below c.half_below in
      let k : ℕ = a.half + 2 * b.half + 4 * c.half in
      let ex : half_x k * s + a.place ≡ x = ap (λ (i : ℕ). i * s + a.place) n.x ∙ a.whole in
      let ey : half_y k * s + b.place ≡ y = ap (λ (i : ℕ). i * s + b.place) n.y ∙ b.whole in
      let ez : half_z k * s + c.place ≡ z = ap (λ (i : ℕ). i * s + c.place) n.z ∙ c.whole in
      let at =
      λ (f : Cells).
      (ap (λ (i : ℕ). f i (half_y k * s + b.place) (half_z k * s + c.place)) ex
      ∙ ap (λ (i : ℕ). f x i (half_z k * s + c.place)) ey
      ∙ ap (λ (i : ℕ). f x y i) ez) in
      sym (at p) ∙
      (h k n.below).each a.place b.place c.place a.place_below b.place_below c.place_below
      ∙ at q;
}

-- the octants of the same cells have the same cells
pub octant_same : (level : ℕ) (p q : Cells) (k : ℕ) → k < 8 → SameIn (suc level) p q
    → SameIn level (octant_cells level p k) (octant_cells level q k)
octant_same level p q k h s = record {
  each = λ x y z lx ly lz. let f = halves k h in s.each _ _ _ (half_in level (half_x k) x f.x lx)
      (half_in level (half_y k) y f.y ly) (half_in level (half_z k) z f.z lz);
}

-- the octants of a shape have its cells
pub octant_has : (level : ℕ) (s : Shape) (k : ℕ) → k < 8
    → SameIn level (octant_cells level (has (suc level) s) k) (has level (octant_shape s k))
octant_has level s k h =
    record { each = λ x y z lx ly lz. has-in_octant level s k x y z h lx ly lz }

pub same_back : (level : ℕ) (p q : Cells) → SameIn level p q → SameIn level q p
same_back level p q s = record { each = λ x y z lx ly lz. sym (s.each x y z lx ly lz) }

pub same_on : (level : ℕ) (p q r : Cells) → SameIn level p q → SameIn level q r → SameIn level p r
same_on level p q r s t =
    record { each = λ x y z lx ly lz. s.each x y z lx ly lz ∙ t.each x y z lx ly lz }

pub same_itself : (level : ℕ) (p : Cells) → SameIn level p p
same_itself level p = record { each = λ x y z lx ly lz. refl }
