-- Bare cells of a block are those of its octants.
use Rattle.std.proofs.Common.{◌≡◌, ℕ, zero, suc, ◌+◌, ◌-◌, ◌*◌, ◌<◌, ◌≤◌, Bool, true, false, refl, sym, ap, subst, ◌∙◌, arith, inl, inr}
use Rattle.std.specs.Prelude.{◌&&◌, not, if◌then◌else◌}
use Rattle.std.proofs.lemmas.Bool.{cases_Bool, ltb-true, lt-ltb, le-ltb, ltb-false}
use Rattle.vw_cell.specs.declared.cells.Cell.{Cell}
use Rattle.vw_cell.specs.Places.{block_side, half_x, half_y, half_z, IsInWorld}
use Rattle.vw_cell.specs.Counts.{cell_at}
use Rattle.node_words.specs.shapes.Shape.{Shape, octant_shape}
use Rattle.node_words.proofs.OfShapes.ShapeLaws.{has-in_octant, block_side-suc, block_side_some}
use Rattle.node_words.specs.descent.Roots.{cells_of}
use Rattle.node_words.specs.descent.Parts.{placed}
use Rattle.vw_cell.specs.declared.directions.Direction.{Direction}
use Rattle.vw_cell.specs.declared.directions.Direction.TheVariants.{LowX, HighX, LowY, HighY, LowZ, HighZ}
use Rattle.measure.specs.Exposed.{is_inside, next_place, place_beside, is_next_set, exposed_of, other_half, is_low, across, stays, beside_shape}
use Rattle.measure.proofs.AxisLaws.{up_one, up_in, up_stay, up_over, up_out, up_first, down_one, down_in, down_stay, down_over, down_out, down_last}

alike : (x y z x' y' z' : ℕ) → x ≡ x' → y ≡ y' → z ≡ z' → cell_at x y z ≡ cell_at x' y' z'
alike x y z x' y' z' p q r = rw (p, q, r) refl

low_is : (i : ℕ) → is_low i ≡ true → i ≡ 0
low_is zero e = refl
low_is (suc i) e = cc

high_is : (i : ℕ) → i < 2 → is_low i ≡ false → i ≡ 1
high_is zero lt e = cc
high_is (suc zero) lt e = refl
high_is (suc (suc i)) lt e = absurd (omega arith)

not_true : (b : Bool) → not b ≡ true → b ≡ false
not_true true e = cc
not_true false e = refl

not_false : (b : Bool) → not b ≡ false → b ≡ true
not_false true e = refl
not_false false e = cc

-- the octant across differs in one half
record Flips (i step o : ℕ) (half rest rest' : ℕ → ℕ) : Type 0 where
  turned : half (other_half i step o) ≡ 1 - i
  kept : rest (other_half i step o) ≡ rest o
  kept' : rest' (other_half i step o) ≡ rest' o
  below : other_half i step o < 8

flip_x : (o i : ℕ) → o < 8 → half_x o ≡ i → i < 2 → Flips i 1 o half_x half_y half_z
flip_x o zero lt e two =
    record { turned = omega arith; kept = omega arith; kept' = omega arith; below = omega arith }
flip_x o (suc zero) lt e two =
    record { turned = omega arith; kept = omega arith; kept' = omega arith; below = omega arith }
flip_x o (suc (suc i)) lt e two = absurd (omega arith)

flip_y : (o i : ℕ) → o < 8 → half_y o ≡ i → i < 2 → Flips i 2 o half_y half_x half_z
flip_y o zero lt e two =
    record { turned = omega arith; kept = omega arith; kept' = omega arith; below = omega arith }
flip_y o (suc zero) lt e two =
    record { turned = omega arith; kept = omega arith; kept' = omega arith; below = omega arith }
flip_y o (suc (suc i)) lt e two = absurd (omega arith)

flip_z : (o i : ℕ) → o < 8 → half_z o ≡ i → i < 2 → Flips i 4 o half_z half_x half_y
flip_z o zero lt e two =
    record { turned = omega arith; kept = omega arith; kept' = omega arith; below = omega arith }
flip_z o (suc zero) lt e two =
    record { turned = omega arith; kept = omega arith; kept' = omega arith; below = omega arith }
flip_z o (suc (suc i)) lt e two = absurd (omega arith)

on_x : (o : ℕ) → o < 8 → Flips (half_x o) 1 o half_x half_y half_z
on_x o lt = flip_x o (half_x o) lt refl (omega arith)

on_y : (o : ℕ) → o < 8 → Flips (half_y o) 2 o half_y half_x half_z
on_y o lt = flip_y o (half_y o) lt refl (omega arith)

on_z : (o : ℕ) → o < 8 → Flips (half_z o) 4 o half_z half_x half_y
on_z o lt = flip_z o (half_z o) lt refl (omega arith)

pub across_below : (d : Direction) (o : ℕ) → o < 8 → across d o < 8
across_below LowX o lt = (on_x o lt).below
across_below HighX o lt = (on_x o lt).below
across_below LowY o lt = (on_y o lt).below
across_below HighY o lt = (on_y o lt).below
across_below LowZ o lt = (on_z o lt).below
across_below HighZ o lt = (on_z o lt).below

-- the same half at the same place
moved : (half i j x : ℕ) → i ≡ j → i * half + x ≡ j * half + x
moved half i j x e = ap (λ (n : ℕ). n * half + x) e

-- next to a place of an octant that isn't at its side
record Inside (d : Direction) (side half o : ℕ) (c : Cell) : Type 0 where
  inner : IsInWorld half (next_place d c)
  place : next_place d (placed half o c) ≡ placed half o (next_place d c)
  still : is_inside d side (placed half o c) ≡ true

inside_octant : (d : Direction) (side half o : ℕ) (c : Cell) → side ≡ 2 * half → o < 8
    → IsInWorld half c → is_inside d half c ≡ true → Inside d side half o c
inside_octant LowX side half o c w lt i e =
    let h = ltb-true 0 c.x e in
    record {
      inner = record { x = omega (arith, i.x); y = i.y; z = i.z };
      place = alike _ _ _ _ _ _
          (down_one (half_x o * half) c.x h) refl refl;
      still = lt-ltb _ _
          (down_in (half_x o * half) c.x h);
    }
inside_octant HighX side half o c w lt i e =
    let h = ltb-true (c.x + 1) half e in
    record {
      inner = record { x = h; y = i.y; z = i.z };
      place = alike _ _ _ _ _ _
          (up_one (half_x o * half) c.x) refl refl;
      still = lt-ltb _ _
          (up_in side half (half_x o) c.x w (omega arith) h);
    }
inside_octant LowY side half o c w lt i e =
    let h = ltb-true 0 c.y e in
    record {
      inner = record
          { x = i.x; y = omega (arith, i.y); z = i.z };
      place = alike _ _ _ _ _ _ refl
          (down_one (half_y o * half) c.y h) refl;
      still = lt-ltb _ _
          (down_in (half_y o * half) c.y h);
    }
inside_octant HighY side half o c w lt i e =
    let h = ltb-true (c.y + 1) half e in
    record {
      inner = record { x = i.x; y = h; z = i.z };
      place = alike _ _ _ _ _ _ refl
          (up_one (half_y o * half) c.y) refl;
      still = lt-ltb _ _
          (up_in side half (half_y o) c.y w (omega arith) h);
    }
inside_octant LowZ side half o c w lt i e =
    let h = ltb-true 0 c.z e in
    record {
      inner = record
          { x = i.x; y = i.y; z = omega (arith, i.z) };
      place = alike _ _ _ _ _ _ refl refl
          (down_one (half_z o * half) c.z h);
      still = lt-ltb _ _
          (down_in (half_z o * half) c.z h);
    }
inside_octant HighZ side half o c w lt i e =
    let h = ltb-true (c.z + 1) half e in
    record {
      inner = record { x = i.x; y = i.y; z = h };
      place = alike _ _ _ _ _ _ refl refl
          (up_one (half_z o * half) c.z);
      still = lt-ltb _ _
          (up_in side half (half_z o) c.z w (omega arith) h);
    }

beside_in : (d : Direction) (half : ℕ) (c : Cell) → 0 < half → IsInWorld half c
    → IsInWorld half (place_beside d half c)
beside_in LowX half c some i = record { x = omega arith; y = i.y; z = i.z }
beside_in HighX half c some i = record { x = some; y = i.y; z = i.z }
beside_in LowY half c some i = record { x = i.x; y = omega arith; z = i.z }
beside_in HighY half c some i = record { x = i.x; y = some; z = i.z }
beside_in LowZ half c some i = record { x = i.x; y = i.y; z = omega arith }
beside_in HighZ half c some i = record { x = i.x; y = i.y; z = some }

-- next to a place at an octant's side, in an octant of the same block
record Over (d : Direction) (side half o : ℕ) (c : Cell) : Type 0 where
  place : next_place d (placed half o c) ≡ placed half (across d o) (place_beside d half c)
  still : is_inside d side (placed half o c) ≡ true

over_octant : (d : Direction) (side half o : ℕ) (c : Cell) → 0 < half → side ≡ 2 * half → o < 8
    → IsInWorld half c → is_inside d half c ≡ false → stays d o ≡ true → Over d side half o c
over_octant LowX side half o c some w lt i e s =
    let f = on_x o lt in
    let one = high_is (half_x o) (omega arith) (not_true _ s) in
    record {
      place = alike _ _ _ _ _ _
          (down_over half (half_x o) _ c.x some one (f.turned ∙ omega arith) (ltb-false 0 c.x e))
          (moved half _ _ c.y (sym f.kept)) (moved half _ _ c.z (sym f.kept'));
      still = lt-ltb _ _ (down_stay half (half_x o) c.x some one);
    }
over_octant HighX side half o c some w lt i e s =
    let f = on_x o lt in
    let none = low_is (half_x o) s in
    record {
      place = alike _ _ _ _ _ _
          (up_over half (half_x o) _ c.x none (f.turned ∙ omega arith) i.x
          (ltb-false (c.x + 1) half e)) (moved half _ _ c.y (sym f.kept))
          (moved half _ _ c.z (sym f.kept'));
      still = lt-ltb _ _ (up_stay side half (half_x o) c.x w none i.x);
    }
over_octant LowY side half o c some w lt i e s =
    let f = on_y o lt in
    let one = high_is (half_y o) (omega arith) (not_true _ s) in
    record {
      place = alike _ _ _ _ _ _ (moved half _ _ c.x (sym f.kept))
          (down_over half (half_y o) _ c.y some one (f.turned ∙ omega arith) (ltb-false 0 c.y e))
          (moved half _ _ c.z (sym f.kept'));
      still = lt-ltb _ _ (down_stay half (half_y o) c.y some one);
    }
over_octant HighY side half o c some w lt i e s =
    let f = on_y o lt in
    let none = low_is (half_y o) s in
    record {
      place = alike _ _ _ _ _ _ (moved half _ _ c.x (sym f.kept))
          (up_over half (half_y o) _ c.y none (f.turned ∙ omega arith) i.y
          (ltb-false (c.y + 1) half e)) (moved half _ _ c.z (sym f.kept'));
      still = lt-ltb _ _ (up_stay side half (half_y o) c.y w none i.y);
    }
over_octant LowZ side half o c some w lt i e s =
    let f = on_z o lt in
    let one = high_is (half_z o) (omega arith) (not_true _ s) in
    record {
      place = alike _ _ _ _ _ _ (moved half _ _ c.x (sym f.kept))
          (moved half _ _ c.y (sym f.kept'))
          (down_over half (half_z o) _ c.z some one (f.turned ∙ omega arith)
          (ltb-false 0 c.z e));
      still = lt-ltb _ _ (down_stay half (half_z o) c.z some one);
    }
over_octant HighZ side half o c some w lt i e s =
    let f = on_z o lt in
    let none = low_is (half_z o) s in
    record {
      place = alike _ _ _ _ _ _ (moved half _ _ c.x (sym f.kept))
          (moved half _ _ c.y (sym f.kept'))
          (up_over half (half_z o) _ c.z none (f.turned ∙ omega arith) i.z
          (ltb-false (c.z + 1) half e));
      still = lt-ltb _ _ (up_stay side half (half_z o) c.z w none i.z);
    }

-- next to a place at an octant's side, in an octant of the block beside
record Beyond (d : Direction) (side half o : ℕ) (c : Cell) : Type 0 where
  place : place_beside d side (placed half o c) ≡ placed half (across d o) (place_beside d half c)
  out : is_inside d side (placed half o c) ≡ false

beyond_octant : (d : Direction) (side half o : ℕ) (c : Cell) → side ≡ 2 * half → o < 8
    → IsInWorld half c → is_inside d half c ≡ false → stays d o ≡ false → Beyond d side half o c
beyond_octant LowX side half o c w lt i e s =
    let f = on_x o lt in
    let none = low_is (half_x o) (not_false _ s) in
    record {
      place = alike _ _ _ _ _ _ (down_last side half _ w (f.turned ∙ omega arith))
          (moved half _ _ c.y (sym f.kept)) (moved half _ _ c.z (sym f.kept'));
      out = le-ltb _ _ (down_out half (half_x o) c.x none (ltb-false 0 c.x e));
    }
beyond_octant HighX side half o c w lt i e s =
    let f = on_x o lt in
    let one = high_is (half_x o) (omega arith) s in
    record {
      place = alike _ _ _ _ _ _ (up_first half _ (f.turned ∙ omega arith))
          (moved half _ _ c.y (sym f.kept)) (moved half _ _ c.z (sym f.kept'));
      out = le-ltb _ _ (up_out side half (half_x o) c.x w one (ltb-false (c.x + 1) half e));
    }
beyond_octant LowY side half o c w lt i e s =
    let f = on_y o lt in
    let none = low_is (half_y o) (not_false _ s) in
    record {
      place = alike _ _ _ _ _ _ (moved half _ _ c.x (sym f.kept))
          (down_last side half _ w (f.turned ∙ omega arith)) (moved half _ _ c.z (sym f.kept'));
      out = le-ltb _ _ (down_out half (half_y o) c.y none (ltb-false 0 c.y e));
    }
beyond_octant HighY side half o c w lt i e s =
    let f = on_y o lt in
    let one = high_is (half_y o) (omega arith) s in
    record {
      place = alike _ _ _ _ _ _ (moved half _ _ c.x (sym f.kept))
          (up_first half _ (f.turned ∙ omega arith)) (moved half _ _ c.z (sym f.kept'));
      out = le-ltb _ _ (up_out side half (half_y o) c.y w one (ltb-false (c.y + 1) half e));
    }
beyond_octant LowZ side half o c w lt i e s =
    let f = on_z o lt in
    let none = low_is (half_z o) (not_false _ s) in
    record {
      place = alike _ _ _ _ _ _ (moved half _ _ c.x (sym f.kept))
          (moved half _ _ c.y (sym f.kept')) (down_last side half _ w (f.turned ∙ omega arith));
      out = le-ltb _ _ (down_out half (half_z o) c.z none (ltb-false 0 c.z e));
    }
beyond_octant HighZ side half o c w lt i e s =
    let f = on_z o lt in
    let one = high_is (half_z o) (omega arith) s in
    record {
      place = alike _ _ _ _ _ _ (moved half _ _ c.x (sym f.kept))
          (moved half _ _ c.y (sym f.kept')) (up_first half _ (f.turned ∙ omega arith));
      out = le-ltb _ _ (up_out side half (half_z o) c.z w one (ltb-false (c.z + 1) half e));
    }

pick_first : (b : Bool) (x y : Bool) → b ≡ true → (if b then x else y) ≡ x
pick_first true x y e = refl
pick_first false x y e = cc

pick_second : (b : Bool) (x y : Bool) → b ≡ false → (if b then x else y) ≡ y
pick_second true x y e = cc
pick_second false x y e = refl

pub next_inside : (d : Direction) (level : ℕ) (s u : Shape) (c : Cell)
    → is_inside d (block_side level) c ≡ true
    → is_next_set d level s u c ≡ cells_of level s (next_place d c)
next_inside d level s u c e =
    pick_first (is_inside d (block_side level) c) (cells_of level s (next_place d c))
    (cells_of level u (place_beside d (block_side level) c)) e

pub next_beside : (d : Direction) (level : ℕ) (s u : Shape) (c : Cell)
    → is_inside d (block_side level) c ≡ false
    → is_next_set d level s u c ≡ cells_of level u (place_beside d (block_side level) c)
next_beside d level s u c e =
    pick_second (is_inside d (block_side level) c) (cells_of level s (next_place d c))
    (cells_of level u (place_beside d (block_side level) c)) e

in_octant_set : (level : ℕ) (s : Shape) (o : ℕ) (c : Cell) → o < 8 → IsInWorld (block_side level) c
    → cells_of (suc level) s (placed (block_side level) o c) ≡ cells_of level (octant_shape s o) c
in_octant_set level s o c lt i = has-in_octant level s o c.x c.y c.z lt i.x i.y i.z

-- the block that has the octant across
which : (v : Bool) (s u : Shape) (o : ℕ) (level : ℕ) (c : Cell) → v ≡ true
    → cells_of level (octant_shape (if v then s else u) o) c ≡ cells_of level (octant_shape s o) c
which true s u o level c e = refl
which false s u o level c e = cc

other : (v : Bool) (s u : Shape) (o : ℕ) (level : ℕ) (c : Cell) → v ≡ false
    → cells_of level (octant_shape (if v then s else u) o) c ≡ cells_of level (octant_shape u o) c
other true s u o level c e = cc
other false s u o level c e = refl

next_in : (d : Direction) (level : ℕ) (s u : Shape) (o : ℕ) (c : Cell) → o < 8
    → IsInWorld (block_side level) c
    → is_next_set d (suc level) s u (placed (block_side level) o c) ≡ is_next_set d level
    (octant_shape s o) (beside_shape d s u o) c
next_in d level s u o c lt i =
    let half : ℕ = block_side level in
    let w = block_side-suc level in
    let some = block_side_some level in
    let near : Cell = place_beside d half c in
    let within = beside_in d half c some i in
    elim (cases_Bool (is_inside d half c)) [
      | inl e ↦
          let a = inside_octant d (block_side (suc level)) half o c w lt i e in
          next_inside d (suc level) s u (placed half o c) a.still
          ∙ ap (cells_of (suc level) s) a.place
          ∙ in_octant_set level s o (next_place d c) lt a.inner
          ∙ sym (next_inside d level (octant_shape s o) (beside_shape d s u o) c e)
      | inr e ↦ elim (cases_Bool (stays d o)) [
        | inl v ↦
            let a = over_octant d (block_side (suc level)) half o c some w lt i e v in
            next_inside d (suc level) s u (placed half o c) a.still
            ∙ ap (cells_of (suc level) s) a.place
            ∙ in_octant_set level s (across d o) near (across_below d o lt) within
            ∙ sym (which (stays d o) s u (across d o) level near v)
            ∙ sym (next_beside d level (octant_shape s o)
            (beside_shape d s u o) c e)
        | inr v ↦
            let a = beyond_octant d (block_side (suc level)) half o c w lt i e v in
            next_beside d (suc level) s u (placed half o c) a.out
            ∙ ap (cells_of (suc level) u) a.place
            ∙ in_octant_set level u (across d o) near (across_below d o lt) within
            ∙ sym (other (stays d o) s u (across d o) level near v)
            ∙ sym (next_beside d level (octant_shape s o)
            (beside_shape d s u o) c e)
      ]
    ]

bare_below : (d : Direction) (level : ℕ) (s u : Shape) (o : ℕ) (c : Cell) → o < 8
    → IsInWorld (block_side level) c
    → exposed_of d (suc level) s u (placed (block_side level) o c) ≡ exposed_of d level (octant_shape s o)
    (beside_shape d s u o) c
bare_below d level s u o c lt i =
    ap (λ (set : Bool). set && not (is_next_set d (suc level) s u (placed (block_side level) o c)))
    (in_octant_set level s o c lt i)
    ∙ ap (λ (next : Bool). cells_of level (octant_shape s o) c && not next)
    (next_in d level s u o c lt i)

-- the exposed cells of a block are those of its octants
pub bare_in : (d : Direction) (level : ℕ) (s u : Shape) (o : ℕ) (c : Cell) → 1 ≤ level → o < 8
    → IsInWorld (block_side (level - 1)) c
    → exposed_of d level s u (placed (block_side (level - 1)) o c) ≡ exposed_of d (level - 1)
    (octant_shape s o) (beside_shape d s u o) c
bare_in d level s u o c h lt i =
    let e : suc (level - 1) ≡ level = omega arith in
    let P : ℕ → Type 0 =
    λ l. exposed_of d l s u (placed (block_side (level - 1)) o c)
    ≡ exposed_of d (level - 1) (octant_shape s o) (beside_shape d s u o) c in
    subst P e (bare_below d (level - 1) s u o c lt i)
