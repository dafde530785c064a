-- The exposed cells of a leaf.
use Rattle.std.proofs.Common.{◌≡◌, ℕ, zero, suc, ◌+◌, ◌-◌, ◌%◌, ◌^◌, ◌<◌, Bool, min, List, [], ◌∷◌, refl, sym, ap, ◌∙◌, arith, inl, inr}
use Rattle.std.specs.Prelude.{◌==◌, ◌&&◌, not, bit_and, slice_index}
use Rattle.std.specs.Int.{bit_at, w64}
use Rattle.std.proofs.lemmas.Bool.{cases_lt, lt-ltb, le-ltb}
use Rattle.std.proofs.lemmas.Nat.Bits.{bit_at_and, bit_at_not, bit_at-lt}
use Rattle.vw_cell.specs.declared.cells.Cell.{Cell}
use Rattle.vw_cell.specs.Counts.{cell_at}
use Rattle.node_words.specs.shapes.Shape.{Shape, bits_of, bit_number, octant_number, has}
use Rattle.node_words.specs.kernels.Leaves.{LiesAcross}
use Rattle.node_words.specs.descent.Roots.{cells_of}
use Rattle.node_words.proofs.OfDescent.LookLaws.{leaf_tells}
use Rattle.vw_cell.specs.declared.directions.Direction.{Direction}
use Rattle.vw_cell.specs.declared.directions.Direction.TheVariants.{LowX, HighX, LowY, HighY, LowZ, HighZ}
use Rattle.measure.specs.Leaves.{BitsPassTest}
use Rattle.measure.specs.Exposed.{exposed_of, is_next_set}
use Rattle.measure.proofs.BareLaws.{next_inside, next_beside}

-- a bit that is set here and not there
but : (a b : ℕ) → a < 2 → b < 2 → (min a (1 - b) == 1) ≡ ((a == 1) && not (b == 1))
but zero zero p h = refl
but (suc zero) zero p h = refl
but (suc (suc a)) zero p h = absurd (omega arith)
but zero (suc zero) p h = refl
but (suc zero) (suc zero) p h = refl
but (suc (suc a)) (suc zero) p h = absurd (omega arith)
but a (suc (suc b)) p h = absurd (omega arith)

-- the bit of a window is that of the cell which stands there
window_shows : (leaves : List ℕ) (dx dy dz window x y z k : ℕ) (p : Cell) (v : Shape)
    → LiesAcross leaves dx dy dz window → x < 4 → y < 4 → z < 4
    → octant_number 4 (x + dx) (y + dy) (z + dz) ≡ k
    → bit_number ((x + dx) % 4) ((y + dy) % 4) ((z + dz) % 4) ≡ bit_number p.x p.y p.z
    → slice_index leaves k ≡ bits_of v
    → (bit_at window (bit_number x y z) == 1) ≡ cells_of 0 v p
unfolding has
window_shows leaves dx dy dz window x y z k p v across lx ly lz e f g =
    ap (λ (b : ℕ). b == 1) (across.each x y z lx ly lz
    ∙ ap
    (λ (i : ℕ). bit_at (slice_index leaves i)
    (bit_number ((x + dx) % 4) ((y + dy) % 4) ((z + dz) % 4))) e
    ∙ ap (λ (n : ℕ). bit_at (slice_index leaves k) n) f
    ∙ ap (λ (b : ℕ). bit_at b (bit_number p.x p.y p.z)) g)

pub low_x_tells : (bits beside window : ℕ) (s u : Shape)
    → LiesAcross (beside ∷ bits ∷ 0 ∷ 0 ∷ 0 ∷ 0 ∷ 0 ∷ 0 ∷ []) 3 0 0 window → bits ≡ bits_of s
    → beside ≡ bits_of u → BitsPassTest window (is_next_set LowX 0 s u)
low_x_tells bits beside window s u across e f = record {
  each = λ x y z lx ly lz. elim (cases_lt 0 x) [
    | inl h ↦ window_shows _ 3 0 0 window x y z 1 (cell_at (x - 1) y z) s across lx ly lz
        (omega arith) (omega arith) e ∙ sym (next_inside LowX 0 s u (cell_at x y z) (lt-ltb 0 x h))
    | inr h ↦ window_shows _ 3 0 0 window x y z 0 (cell_at 3 y z) u across lx ly lz (omega arith)
        (omega arith) f ∙ sym (next_beside LowX 0 s u (cell_at x y z) (le-ltb 0 x h))
  ];
}

pub high_x_tells : (bits beside window : ℕ) (s u : Shape)
    → LiesAcross (bits ∷ beside ∷ 0 ∷ 0 ∷ 0 ∷ 0 ∷ 0 ∷ 0 ∷ []) 1 0 0 window → bits ≡ bits_of s
    → beside ≡ bits_of u → BitsPassTest window (is_next_set HighX 0 s u)
high_x_tells bits beside window s u across e f = record {
  each = λ x y z lx ly lz. elim (cases_lt (x + 1) 4) [
    | inl h ↦ window_shows _ 1 0 0 window x y z 0 (cell_at (x + 1) y z) s across lx ly lz
        (omega arith) (omega arith) e
        ∙ sym (next_inside HighX 0 s u (cell_at x y z) (lt-ltb (x + 1) 4 h))
    | inr h ↦ window_shows _ 1 0 0 window x y z 1 (cell_at 0 y z) u across lx ly lz (omega arith)
        (omega arith) f ∙ sym (next_beside HighX 0 s u (cell_at x y z) (le-ltb (x + 1) 4 h))
  ];
}

pub low_y_tells : (bits beside window : ℕ) (s u : Shape)
    → LiesAcross (beside ∷ 0 ∷ bits ∷ 0 ∷ 0 ∷ 0 ∷ 0 ∷ 0 ∷ []) 0 3 0 window → bits ≡ bits_of s
    → beside ≡ bits_of u → BitsPassTest window (is_next_set LowY 0 s u)
low_y_tells bits beside window s u across e f = record {
  each = λ x y z lx ly lz. elim (cases_lt 0 y) [
    | inl h ↦ window_shows _ 0 3 0 window x y z 2 (cell_at x (y - 1) z) s across lx ly lz
        (omega arith) (omega arith) e ∙ sym (next_inside LowY 0 s u (cell_at x y z) (lt-ltb 0 y h))
    | inr h ↦ window_shows _ 0 3 0 window x y z 0 (cell_at x 3 z) u across lx ly lz (omega arith)
        (omega arith) f ∙ sym (next_beside LowY 0 s u (cell_at x y z) (le-ltb 0 y h))
  ];
}

pub high_y_tells : (bits beside window : ℕ) (s u : Shape)
    → LiesAcross (bits ∷ 0 ∷ beside ∷ 0 ∷ 0 ∷ 0 ∷ 0 ∷ 0 ∷ []) 0 1 0 window → bits ≡ bits_of s
    → beside ≡ bits_of u → BitsPassTest window (is_next_set HighY 0 s u)
high_y_tells bits beside window s u across e f = record {
  each = λ x y z lx ly lz. elim (cases_lt (y + 1) 4) [
    | inl h ↦ window_shows _ 0 1 0 window x y z 0 (cell_at x (y + 1) z) s across lx ly lz
        (omega arith) (omega arith) e
        ∙ sym (next_inside HighY 0 s u (cell_at x y z) (lt-ltb (y + 1) 4 h))
    | inr h ↦ window_shows _ 0 1 0 window x y z 2 (cell_at x 0 z) u across lx ly lz (omega arith)
        (omega arith) f ∙ sym (next_beside HighY 0 s u (cell_at x y z) (le-ltb (y + 1) 4 h))
  ];
}

pub low_z_tells : (bits beside window : ℕ) (s u : Shape)
    → LiesAcross (beside ∷ 0 ∷ 0 ∷ 0 ∷ bits ∷ 0 ∷ 0 ∷ 0 ∷ []) 0 0 3 window → bits ≡ bits_of s
    → beside ≡ bits_of u → BitsPassTest window (is_next_set LowZ 0 s u)
low_z_tells bits beside window s u across e f = record {
  each = λ x y z lx ly lz. elim (cases_lt 0 z) [
    | inl h ↦ window_shows _ 0 0 3 window x y z 4 (cell_at x y (z - 1)) s across lx ly lz
        (omega arith) (omega arith) e ∙ sym (next_inside LowZ 0 s u (cell_at x y z) (lt-ltb 0 z h))
    | inr h ↦ window_shows _ 0 0 3 window x y z 0 (cell_at x y 3) u across lx ly lz (omega arith)
        (omega arith) f ∙ sym (next_beside LowZ 0 s u (cell_at x y z) (le-ltb 0 z h))
  ];
}

pub high_z_tells : (bits beside window : ℕ) (s u : Shape)
    → LiesAcross (bits ∷ 0 ∷ 0 ∷ 0 ∷ beside ∷ 0 ∷ 0 ∷ 0 ∷ []) 0 0 1 window → bits ≡ bits_of s
    → beside ≡ bits_of u → BitsPassTest window (is_next_set HighZ 0 s u)
high_z_tells bits beside window s u across e f = record {
  each = λ x y z lx ly lz. elim (cases_lt (z + 1) 4) [
    | inl h ↦ window_shows _ 0 0 1 window x y z 0 (cell_at x y (z + 1)) s across lx ly lz
        (omega arith) (omega arith) e
        ∙ sym (next_inside HighZ 0 s u (cell_at x y z) (lt-ltb (z + 1) 4 h))
    | inr h ↦ window_shows _ 0 0 1 window x y z 4 (cell_at x y 0) u across lx ly lz (omega arith)
        (omega arith) f ∙ sym (next_beside HighZ 0 s u (cell_at x y z) (le-ltb (z + 1) 4 h))
  ];
}

-- the bits that are set while their next ones aren't
pub bare_tells : (d : Direction) (bits next : ℕ) (s u : Shape) → next < 2 ^ 64 → bits ≡ bits_of s
    → BitsPassTest next (is_next_set d 0 s u)
    → BitsPassTest (bit_and bits (2 ^ 64 - 1 - next)) (exposed_of d 0 s u)
bare_tells d bits next s u small e tells = record {
  each = λ x y z lx ly lz.
      let n : ℕ = bit_number x y z in
      let within : n < 64 = omega arith in
      let off = bit_at_not w64 next n small within in
      ap (λ (b : ℕ). b == 1)
      (bit_at_and bits (2 ^ 64 - 1 - next) n ∙ ap (λ (m : ℕ). min (bit_at bits n) m) off)
      ∙ but (bit_at bits n) (bit_at next n) (bit_at-lt bits n) (bit_at-lt next n)
      ∙ ap (λ (set : Bool). set && not (bit_at next n == 1)) (leaf_tells s bits (cell_at x y z) e)
      ∙ ap (λ (set : Bool). cells_of 0 s (cell_at x y z) && not set) (tells.each x y z lx ly lz);
}
