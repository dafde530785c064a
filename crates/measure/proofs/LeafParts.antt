-- The cells of a part of a block of eight leaves, leaf by leaf.
use Rattle.std.proofs.Common.{◌≡◌, ℕ, zero, suc, ◌+◌, ◌-◌, ◌^◌, ◌<◌, Bool, true, false, List, [], ◌∷◌, refl, sym, ap, subst, ◌∙◌, arith}
use Rattle.std.specs.Prelude.{◌==◌, bit_and, slice_index}
use Rattle.std.specs.Int.{bit_at}
use Rattle.std.specs.Int.RustNames.{count_ones}
use Rattle.std.proofs.lemmas.Nat.Bits.{bit_at-zero}
use Rattle.vw_cell.specs.declared.cells.Cell.{Cell}
use Rattle.vw_cell.specs.declared.boxes.Boxed.{Boxed}
use Rattle.vw_cell.specs.declared.blocks.Block.{Block}
use Rattle.vw_cell.specs.Places.{block_side, is_in_box}
use Rattle.vw_cell.specs.Tests.{is_in_box_holds}
use Rattle.vw_cell.specs.Counts.{cell_at, number_in, number_below-same, number_below-none}
use Rattle.node_words.specs.kernels.Leaves.{LeafShows}
use Rattle.node_words.specs.Held.{StoreState}
use Rattle.node_words.specs.shapes.Tree.{Tree}
use Rattle.node_words.specs.descent.Parts.{EndsBy, part_in}
use Rattle.node_words.proofs.OfDescent.PartLaws.{part_has_cells}
use Rattle.node_words.proofs.OfDescent.LookLaws.{same_cell}
use Rattle.measure.specs.declared.tallies.Part.{Part}
use Rattle.measure.specs.Leaves.{BitsPassTest, octant_leaf}
use Rattle.measure.specs.Tallies.{Counting, in_octant, IsOctantTally}
use Rattle.measure.proofs.LeafCounts.{leaf_number}
use Rattle.measure.proofs.TallyLaws.{part_ends}

-- which of eight words it is
pub words_show : (b : Boxed) (m n o p q r s t : ℕ)
    → LeafShows m (octant_leaf 0) (is_in_box b) → LeafShows n (octant_leaf 1) (is_in_box b)
    → LeafShows o (octant_leaf 2) (is_in_box b) → LeafShows p (octant_leaf 3) (is_in_box b)
    → LeafShows q (octant_leaf 4) (is_in_box b) → LeafShows r (octant_leaf 5) (is_in_box b)
    → LeafShows s (octant_leaf 6) (is_in_box b) → LeafShows t (octant_leaf 7) (is_in_box b)
    → (k : ℕ) → k < 8
    → LeafShows (slice_index (m ∷ n ∷ o ∷ p ∷ q ∷ r ∷ s ∷ t ∷ []) k) (octant_leaf k) (is_in_box b)
words_show b m n o p q r s t c d e f g h i j zero lt = c
words_show b m n o p q r s t c d e f g h i j (suc zero) lt = d
words_show b m n o p q r s t c d e f g h i j (suc (suc zero)) lt = e
words_show b m n o p q r s t c d e f g h i j (suc (suc (suc zero))) lt = f
words_show b m n o p q r s t c d e f g h i j (suc (suc (suc (suc zero)))) lt = g
words_show b m n o p q r s t c d e f g h i j (suc (suc (suc (suc (suc zero))))) lt = h
words_show b m n o p q r s t c d e f g h i j (suc (suc (suc (suc (suc (suc zero)))))) lt = i
words_show b m n o p q r s t c d e f g h i j (suc (suc (suc (suc (suc (suc (suc zero))))))) lt = j
words_show b m n o p q r s t c d e f g h i j (suc (suc (suc (suc (suc (suc (suc (suc k)))))))) lt =
    absurd (omega arith)

pub shows_there : (bits : ℕ) (block there : Block) (test : Cell → Bool) → block ≡ there
    → LeafShows bits block test → LeafShows bits there test
shows_there bits block there test e shows = subst (λ (d : Block). LeafShows bits d test) e shows

-- the part of a box in a leaf, told from the leaf's corner
abbrev corner_block : Block
corner_block = record { level = 0; at = cell_at 0 0 0 }

at_corner : (x y z : ℕ)
    → cell_at (corner_block.at.x + x) (corner_block.at.y + y)
    (corner_block.at.z + z) ≡ cell_at x y z
at_corner x y z =
    same_cell
    (cell_at (corner_block.at.x + x) (corner_block.at.y + y) (corner_block.at.z + z)) x y z
    (omega arith) (omega arith) (omega arith)

part_shown : (mask k : ℕ) (b : Boxed) → LeafShows mask (octant_leaf k) (is_in_box b)
    → LeafShows mask corner_block (is_in_box (part_in 4 b k))
part_shown mask k b shows = record {
  each = λ x y z p q r. shows.each x y z p q r
      ∙ sym ((part_has_cells 4 k b).each (cell_at x y z) (record { x = p; y = q; z = r }))
      ∙ ap (is_in_box (part_in 4 b k)) (sym (at_corner x y z));
}

pub counted_within : {S : Type 0} (counts : Counting S) (a c : StoreState) (of : Part S)
    (k n bits mask : ℕ) (inner : S) → of.level ≡ 1 → c ≡ a → bits < 2 ^ 64
    → ((u : Cell → Bool) → counts a.held 1 of.subject u → counts a.held 0 inner (in_octant 1 k u))
    → ((u : Cell → Bool) → counts c.held 0 inner u → BitsPassTest bits u)
    → LeafShows mask (octant_leaf k) (is_in_box of.part) → n ≡ count_ones (bit_and bits mask)
    → IsOctantTally counts a.held of k n
counted_within {S =
    S} counts a c of k n bits mask inner level same small down bits_are shows is test p =
    let P : ℕ → Type 0 =
    λ l. n ≡ number_in (part_in (block_side (l - 1)) of.part k) (in_octant l k test) in
    let there : counts a.held 1 of.subject test =
    subst (λ (l : ℕ). counts a.held l of.subject test) level p in
    let tells =
    bits_are (in_octant 1 k test)
    (subst (λ (s : StoreState). counts s.held 0 inner (in_octant 1 k test)) (sym same)
    (down test there)) in
    let one : P 1 =
    is ∙ leaf_number bits mask (part_in 4 of.part k) corner_block (in_octant 1 k test) small
    (part_ends 4 of.part k) refl (part_shown mask k of.part shows) tells in
    subst P (sym level) one

-- where no bit is shown, none of the part lies there
no_bit : (n : ℕ) (b : Bool) → (bit_at 0 n == 1) ≡ b → b ≡ true → ⊥
no_bit n b e t =
    let is : (bit_at 0 n == 1) ≡ true = e ∙ t in
    let not : (bit_at 0 n == 1) ≡ false = ap (λ (i : ℕ). i == 1) (bit_at-zero n) in
    cc

none_there : (part : Boxed) (test : Cell → Bool) → EndsBy 4 part
    → LeafShows 0 corner_block (is_in_box part) → 0 ≡ number_in part test
none_there part test ends shows =
    sym (number_below-same part.size
    (λ c. test (cell_at (part.at.x + c.x) (part.at.y + c.y) (part.at.z + c.z))) (λ _. false)
    (λ c b. absurd
    (no_bit _ _ (shows.each (part.at.x + c.x) (part.at.y + c.y) (part.at.z + c.z)
    (omega (arith, ends.x, b.x)) (omega (arith, ends.y, b.y)) (omega (arith, ends.z, b.z)))
    (ap (is_in_box part) (at_corner (part.at.x + c.x) (part.at.y + c.y) (part.at.z + c.z))
    ∙ is_in_box_holds part (cell_at (part.at.x + c.x) (part.at.y + c.y) (part.at.z + c.z))
    (record {
      x = (omega arith, omega (arith, b.x));
      y =
          (omega arith, omega (arith, b.y));
      z = (omega arith, omega (arith, b.z));
    }))))
    ∙ number_below-none part.size (λ _. false) (λ _. refl))

pub none_within : {S : Type 0} (counts : Counting S) (held : List Tree) (of : Part S) (k mask : ℕ)
    → of.level ≡ 1 → mask ≡ 0 → LeafShows mask (octant_leaf k) (is_in_box of.part)
    → IsOctantTally counts held of k 0
none_within {S = S} counts held of k mask level none shows test p =
    let P : ℕ → Type 0 =
    λ l. 0 ≡ number_in (part_in (block_side (l - 1)) of.part k) (in_octant l k test) in
    let one : P 1 =
    none_there (part_in 4 of.part k) (in_octant 1 k test) (part_ends 4 of.part k)
    (subst (λ (m : ℕ). LeafShows m corner_block (is_in_box (part_in 4 of.part k))) none
    (part_shown mask k of.part shows)) in
    subst P (sym level) one
