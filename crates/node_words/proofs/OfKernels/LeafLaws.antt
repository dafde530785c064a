-- Bits of a leaf and the cells that a shape shows.
use Rattle.std.proofs.Common.{◌≡◌, ℕ, ◌+◌, ◌-◌, ◌%◌, ◌<◌, Bool, List, ◌==◌, refl, ap, sym, ◌∙◌, arith}
use Rattle.std.specs.Prelude.{slice_index}
use Rattle.std.specs.Int.{bit_at}
use Rattle.node_words.specs.Cell.{Cell}
use Rattle.node_words.specs.Block.{Block}
use Rattle.node_words.specs.Counts.{cell_at}
use Rattle.node_words.specs.Places.{block_side, IsInBlock}
use Rattle.node_words.specs.shapes.Shape.{Shape, Leaf, bits_of, bit_number, octant_number, branch_of, has, ShowsCells}
use Rattle.node_words.proofs.OfShapes.ShapeLaws.{octant_shape-branch_of}
use Rattle.node_words.specs.kernels.Leaves.{LeafShows, LiesAcross}

in_side : (level : ℕ) → level ≡ 0 → block_side level ≡ 4
in_side level e = ap (λ (l : ℕ). block_side l) e

same_cell : (test : Cell → Bool) (x y z x' y' z' : ℕ) → x ≡ x' → y ≡ y' → z ≡ z'
    → test (cell_at x y z) ≡ test (cell_at x' y' z')
same_cell test x y z x' y' z' p q r = rw (p, q, r) refl

pub leaf_shows : (bits : ℕ) (block : Block) (test : Cell → Bool) → block.level ≡ 0
    → LeafShows bits block test → ShowsCells block (Leaf bits) test
unfolding has
leaf_shows bits block test e shows = record {
  each = λ c i.
      let s = in_side block.level e in
      let w = i.x in
      let v = i.y in
      let u = i.z in
      let px : c.x - block.at.x < 4 = omega (arith, s, w) in
      let py : c.y - block.at.y < 4 = omega (arith, s, v) in
      let pz : c.z - block.at.z < 4 = omega (arith, s, u) in
      ap (λ (l : ℕ). has l (Leaf bits) (c.x - block.at.x) (c.y - block.at.y) (c.z - block.at.z)) e
      ∙ shows.each (c.x - block.at.x) (c.y - block.at.y) (c.z - block.at.z) px py pz
      ∙ same_cell test _ _ _ c.x c.y c.z (omega (arith, w)) (omega (arith, v)) (omega (arith, u));
}

pub leaf_shown : (bits : ℕ) (block : Block) (test : Cell → Bool) → block.level ≡ 0
    → ShowsCells block (Leaf bits) test → LeafShows bits block test
unfolding has
leaf_shown bits block test e shown = record {
  each = λ x y z lx ly lz.
      let s = in_side block.level e in
      let c : Cell = cell_at (block.at.x + x) (block.at.y + y) (block.at.z + z) in
      let i : IsInBlock block c =
      record {
        x = (omega arith, omega (arith, s));
        y = (omega arith, omega (arith, s));
        z =
            (omega arith, omega (arith, s));
      } in
      let place : bit_number x y z ≡ bit_number (c.x - block.at.x) (c.y - block.at.y) (c.z - block.at.z) = omega arith in
      ap (λ (n : ℕ). bit_at bits n == 1) place
      ∙ ap (λ (l : ℕ). has l (Leaf bits) (c.x - block.at.x) (c.y - block.at.y) (c.z - block.at.z))
      (sym e)
      ∙ shown.each c i;
}

pub across_has : (leaves : List ℕ) (dx dy dz bits x y z : ℕ) → LiesAcross leaves dx dy dz bits
    → dx < 4 → dy < 4 → dz < 4 → x < 4 → y < 4 → z < 4
    → has 0 (Leaf bits) x y z ≡ has 1 (branch_of (λ k. Leaf (slice_index leaves k))) (x + dx)
    (y + dy) (z + dz)
unfolding has
across_has leaves dx dy dz bits x y z across px py pz qx qy qz =
    let row : ℕ → Shape = λ k. Leaf (slice_index leaves k) in
    let k : ℕ = octant_number 4 (x + dx) (y + dy) (z + dz) in
    let below : k < 8 = omega arith in
    let at : ℕ = bit_number ((x + dx) % 4) ((y + dy) % 4) ((z + dz) % 4) in
    ap (λ (n : ℕ). n == 1) (across.each x y z qx qy qz)
    ∙ sym (ap (λ (s : Shape). bit_at (bits_of s) at == 1) (octant_shape-branch_of row k below))
