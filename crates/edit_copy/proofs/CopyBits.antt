-- The bits of a leaf that a copy makes.
use Rattle.std.proofs.Common.{◌≡◌, ℕ, zero, suc, ◌+◌, ◌-◌, ◌%◌, ◌^◌, ◌<◌, ◌==◌, Bool, List, refl, sym, ◌∙◌, ap, arith, min, max}
use Rattle.std.specs.Prelude.{if◌then◌else◌}
use Rattle.std.specs.Prelude.{bit_or, bit_and, slice_index}
use Rattle.std.specs.Int.{bit_at, bit_not, w64}
use Rattle.std.proofs.lemmas.Nat.Bits.{bit_at_or, bit_at_and, bit_at_not, bit_at-lt}
use Rattle.node_words.specs.kernels.Leaves.{LeafShows, LiesAcross}
use Rattle.node_words.proofs.OfKernels.LeafLaws.{across_has}
use Rattle.edit_walk.proofs.OfCells.WorldLaws.{leaf_places}
use Rattle.vw_cell.specs.Places.{is_in_box}
use Rattle.node_words.specs.shapes.Shape.{Shape, Leaf, bits_of, bit_number, octant_number, branch_of, has}
use Rattle.node_words.specs.shapes.Tree.{Tree, shape_of}
use Rattle.node_words.proofs.OfShapes.ShapeLaws.{octant_shape-branch_of}
use Rattle.node_words.specs.contents.CellShapes.{Cells, SameIn}
use Rattle.edit_walk.specs.cells.Worlds.{block_at_origin}
use Rattle.edit_copy.specs.declared.copies.CopyTask.{CopyTask}
use Rattle.edit_copy.specs.Copies.{cube_of, moved, MakesCopy}

picked : (a a' v v' w w' : Bool) → a ≡ a' → v ≡ v' → w ≡ w'
    → (if a then v else w) ≡ (if a' then v' else w')
picked a a' v v' w w' p q r = rw (p, q, r) refl

mix_test : (p q i : ℕ) → p < 2 → q < 2 → i < 2
    → (max (min p (1 - i)) (min q i) == 1) ≡ (if i == 1 then q == 1 else (p == 1))
mix_test zero zero zero h k l = refl
mix_test zero zero (suc zero) h k l = refl
mix_test zero (suc zero) zero h k l = refl
mix_test zero (suc zero) (suc zero) h k l = refl
mix_test (suc zero) zero zero h k l = refl
mix_test (suc zero) zero (suc zero) h k l = refl
mix_test (suc zero) (suc zero) zero h k l = refl
mix_test (suc zero) (suc zero) (suc zero) h k l = refl
mix_test (suc (suc p)) q i h k l = absurd (omega arith)
mix_test p (suc (suc q)) i h k l = absurd (omega arith)
mix_test p q (suc (suc i)) h k l = absurd (omega arith)

mix_bit : (old moved inside i : ℕ) → inside < 2 ^ 64 → i < 64
    → (bit_at (bit_or (bit_and old (bit_not w64 inside)) (bit_and moved inside)) i == 1) ≡
    (if bit_at inside i == 1 then bit_at moved i == 1 else (bit_at old i == 1))
mix_bit old moved inside i small lt =
    ap (λ (n : ℕ). n == 1) (bit_at_or (bit_and old (bit_not w64 inside)) (bit_and moved inside) i)
    ∙ ap (λ (n : ℕ). max n (bit_at (bit_and moved inside) i) == 1)
    (bit_at_and old (bit_not w64 inside) i
    ∙ ap (min (bit_at old i)) (bit_at_not w64 inside i small lt))
    ∙ ap (λ (n : ℕ). max (min (bit_at old i) (1 - bit_at inside i)) n == 1)
    (bit_at_and moved inside i)
    ∙ mix_test (bit_at old i) (bit_at moved i) (bit_at inside i) (bit_at-lt old i)
    (bit_at-lt moved i) (bit_at-lt inside i)

leaf_cube : (leaves : List ℕ) (row : ℕ → Tree)
    → ((j : ℕ) → j < 8 → slice_index leaves j ≡ bits_of (shape_of (row j))) → (x y z : ℕ) → x < 8
    → y < 8 → z < 8
    → has 1 (branch_of (λ k. Leaf (slice_index leaves k))) x y z ≡ has 1 (cube_of row) x y z
unfolding has
leaf_cube leaves row h x y z p q r =
    let n : ℕ = octant_number 4 x y z in
    let below : n < 8 = omega arith in
    let i : ℕ = bit_number (x % 4) (y % 4) (z % 4) in
    ap (λ (s : Shape). bit_at (bits_of s) i == 1)
    (octant_shape-branch_of (λ k. Leaf (slice_index leaves k)) n below)
    ∙ ap (λ (b : ℕ). bit_at b i == 1) (h n below)
    ∙ sym
    (ap (λ (s : Shape). bit_at (bits_of s) i == 1)
    (octant_shape-branch_of (λ j. shape_of (row j)) n below))

bits_has : (bits x y z : ℕ) → has 0 (Leaf bits) x y z ≡ (bit_at bits (bit_number x y z) == 1)
unfolding has
bits_has bits x y z = refl

tree_has : (t : Tree) (x y z : ℕ)
    → (bit_at (bits_of (shape_of t)) (bit_number x y z) == 1) ≡ has 0 (shape_of t) x y z
unfolding has
tree_has t x y z = refl

bit_below : (x y z : ℕ) → x < 4 → y < 4 → z < 4 → bit_number x y z < 64
bit_below x y z p q r = omega arith

-- the bits of a leaf
pub copy_bits : (base : List Tree) (task : CopyTask) (cells : Cells) (old inside across bits : ℕ)
    (leaves : List ℕ) → (m : MakesCopy task base 0 cells) → inside < 2 ^ 64
    → old ≡ bits_of (shape_of m.tree)
    → ((j : ℕ) → j < 8 → slice_index leaves j ≡ bits_of (shape_of (m.row j)))
    → LiesAcross leaves task.offset.x task.offset.y task.offset.z across
    → LeafShows inside (block_at_origin 0) (is_in_box task.part)
    → bits ≡ bit_or (bit_and old (bit_not w64 inside)) (bit_and across inside)
    → SameIn 0 (has 0 (Leaf bits)) cells
copy_bits base task cells old inside across bits leaves m small e l a shows q = record {
  each = λ x y z lx ly lz.
      let i : ℕ = bit_number x y z in
      ap (λ (n : ℕ). has 0 (Leaf n) x y z) q
      ∙ bits_has _ x y z
      ∙ mix_bit old across inside i small (bit_below x y z lx ly lz)
      ∙ picked _ _ _ _ _ _
      (sym (bits_has inside x y z)
      ∙ (leaf_places inside (is_in_box task.part) shows).each x y z lx ly lz)
      (sym (bits_has across x y z)
      ∙ across_has leaves task.offset.x task.offset.y task.offset.z across x y z a m.offset.x m.offset.y m.offset.z lx ly lz
      ∙ leaf_cube leaves m.row l (x + task.offset.x) (y + task.offset.y) (z + task.offset.z)
      (omega (arith, m.offset.x, lx)) (omega (arith, m.offset.y, ly))
      (omega (arith, m.offset.z, lz)))
      (ap (λ (n : ℕ). bit_at n i == 1) e ∙ tree_has m.tree x y z)
      ∙ sym (m.shows.each x y z lx ly lz);
}
