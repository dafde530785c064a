-- The leaves of a block of eight with those beside it, and what is remembered of blocks alike.
use Rattle.std.proofs.Common.{◌≡◌, ℕ, ◌-◌, ◌<◌, ◌≤◌, ◌^◌, Bool, true, false, List, Option, length, refl, sym, ap, subst, ◌∙◌, arith}
use Rattle.std.specs.Prelude.{if◌then◌else◌, bit_and, slice_set}
use Rattle.vw_cell.specs.declared.cells.Cell.{Cell}
use Rattle.vw_cell.specs.declared.boxes.Boxed.{Boxed}
use Rattle.vw_cell.specs.declared.blocks.Block.{Block}
use Rattle.vw_cell.specs.declared.directions.Direction.{Direction}
use Rattle.vw_cell.specs.Counts.{cell_at}
use Rattle.vw_cell.specs.Places.{IsInWorld, block_side, octant_of}
use Rattle.node_words.specs.declared.shapes.names.Name.{Name}
use Rattle.node_words.specs.shapes.Shape.{Shape, bits_of, octant_shape}
use Rattle.node_words.specs.shapes.Tree.{Tree, shape_of}
use Rattle.node_words.specs.Held.{StoreState, bits_of_leaf}
use Rattle.node_words.specs.descent.Parts.{placed}
use Rattle.node_words.specs.descent.Roots.{ForBlock}
use Rattle.node_words.proofs.OfDescent.PartLaws.{placed_in}
use Rattle.measure.specs.Exposed.{PassesExposed, across, beside_shape, exposed_of, is_next_set, stays}
use Rattle.measure.specs.Faces.{passes_exposed}
use Rattle.measure.specs.Leaves.{BitsPassTest}
use Rattle.measure.specs.Tallies.{Counting, PassesNone, in_octant}
use Rattle.measure.specs.Widening.{ForCounted}
use Rattle.measure.proofs.BareLaws.{bare_in}
use Rattle.measure.proofs.BareLeaves.{bare_tells}
use Rattle.measure.proofs.WideningLaws.{octant_passed}
use Rattle.extract.specs.Filling.{Fills}
use Rattle.extract.specs.Layers.{IsSmallLayer, leaf_corner}
use Rattle.extract.specs.Sides.{AreFound, AreNearLeaves, HaveBits, beside_of, hides_alike, leaves_towards, sided}
use Rattle.extract.specs.declared.alike.Found.{Found}
use Rattle.extract.specs.declared.near_leaves.NearLeaves.{NearLeaves}
use Rattle.extract.specs.declared.surrounded.Surrounded.{Surrounded}
use Rattle.extract.proofs.FillLaws.{LiesAmong, leaf_fills}
use Rattle.extract.proofs.SideLaws.{across_below}

-- what is told of a block's leaves stays so while what is seen stays
pub bits_still : (a b : StoreState) (block : Option Name) (bits : List ℕ) → b ≡ a
    → ForBlock a.held 1 block (HaveBits bits) → ForBlock b.held 1 block (HaveBits bits)
bits_still a b block bits e told =
    subst (λ (st : StoreState). ForBlock st.held 1 block (HaveBits bits)) (sym e) told

-- the bare cells of a leaf, by its bits and those of the leaf next to it
bits_next : (v : Bool) (block beside : List ℕ) (s u : Shape) (j : ℕ) → j < 8 → HaveBits block s
    → HaveBits beside u
    → bits_of_leaf (if v then block else beside) j ≡ bits_of (octant_shape (if v then s else u) j)
bits_next true block beside s u j lt here there = here j lt
bits_next false block beside s u j lt here there = there j lt

pub bare_leaf : (d : Direction) (k bits next word other : ℕ) (block beside : List ℕ) (s u : Shape)
    → k < 8 → word < 2 ^ 64 → other ≡ 2 ^ 64 - 1 - word → bits ≡ bits_of_leaf block k
    → next ≡ bits_of_leaf (if stays d k then block else beside) (across d k)
    → ((s u : Shape) → bits ≡ bits_of s → next ≡ bits_of u
    → BitsPassTest word (is_next_set d 0 s u))
    → HaveBits block s → HaveBits beside u
    → BitsPassTest (bit_and bits other)
    (exposed_of d 0 (octant_shape s k) (beside_shape d s u k))
bare_leaf d k bits next word other block beside s u lt small w e f told here there =
    let is = e ∙ here k lt in
    let is' =
    f ∙ bits_next (stays d k) block beside s u (across d k) (across_below d k lt) here there in
    subst (λ (v : ℕ). BitsPassTest (bit_and bits v)
    (exposed_of d 0 (octant_shape s k) (beside_shape d s u k))) (sym w)
    (bare_tells d bits word (octant_shape s k) (beside_shape d s u k) small is
    (told (octant_shape s k) (beside_shape d s u k) is is'))

pub near_leaf : (held : List Tree) (s : Surrounded) (near : NearLeaves) (k bits : ℕ) (d : Direction)
    → k < 8 → AreNearLeaves held s near
    → ((t u : Shape) → HaveBits near.block t → HaveBits (leaves_towards near d) u
    → BitsPassTest bits (exposed_of d 0 (octant_shape t k) (beside_shape d t u k)))
    → (test : Cell → Bool) → passes_exposed held 1 (sided s d) test
    → BitsPassTest bits (in_octant 1 k test)
near_leaf held s near k bits d lt are told test p =
    let t : Shape = shape_of p.tree in
    let u : Shape = shape_of p.next in
    let is = told t u (are.block p.tree p.is_block) (are.beside d p.next p.is_beside) in
    record {
      each = λ x y z lx ly lz.
          let c : Cell = cell_at x y z in
          let i : IsInWorld (block_side (1 - 1)) c = record { x = lx; y = ly; z = lz } in
          is.each x y z lx ly lz
          ∙ sym (p.shows (placed (block_side (1 - 1)) k c) (placed_in 1 k c (omega arith) lt i)
          ∙ bare_in d 1 t u k c (omega arith) lt i);
    }

-- a leaf in an octant is put
abbrev pub only_test : Counting (Cell → Bool)
only_test held level these test = these ≡ test

pub leaf_octant_fills : (held : List Tree) (s : Surrounded) (place inner : Block) (k : ℕ) (b : Boxed)
    (layer m : ℕ) (d : Direction) (bits : ℕ) (old new : List ℕ) → place.level ≡ 1 → k < 8
    → inner ≡ octant_of place k → IsSmallLayer b → m < length old
    → leaf_corner b layer m ≡ inner.at → new ≡ slice_set old m bits
    → ((test : Cell → Bool) → passes_exposed held 1 (sided s d) test
    → BitsPassTest bits (in_octant 1 k test))
    → ForCounted passes_exposed held (sided s d) place
    (λ cells. Fills (LiesAmong b layer (octant_of place k)) b layer cells old new)
leaf_octant_fills held s place inner k b layer m d bits old new one lt is small inside corner put told cells test p shows =
    let u : Cell → Bool = in_octant place.level k test in
    let told' : BitsPassTest bits u =
    subst (λ (l : ℕ). (test : Cell → Bool) → passes_exposed held l (sided s d) test
    → BitsPassTest bits (in_octant l k test)) (sym one) told test p in
    let at : leaf_corner b layer m ≡ (octant_of place k).at =
    corner ∙ ap (λ (q : Block). q.at) is in
    let low : (octant_of place k).level ≡ 0 = omega (arith, one) in
    subst (λ (words : List ℕ). Fills (LiesAmong b layer (octant_of place k)) b layer cells old words)
    (sym put)
    (leaf_fills only_test held u (octant_of place k) b layer m bits old low small inside at
    (λ v e. subst (λ (w : Cell → Bool). BitsPassTest bits w) e told')
    cells u refl (octant_passed place test cells k (omega (arith, one)) lt shows))

-- what was found stays right while what is seen stays
pub found_before : (a b : StoreState) (found : Found) → b ≡ a → AreFound b.held found
    → AreFound a.held found
found_before a b found e are = subst (λ (st : StoreState). AreFound st.held found) e are

-- a block beside which the same stands everywhere
pub alike_hides : (held : List Tree) (s : Surrounded) (level number : ℕ)
    → ((d : Direction) → beside_of s d ≡ s.block)
    → hides_alike held (record { block = s.block; level = level }) number → 1 ≤ number
    → (d : Direction) (test : Cell → Bool) → passes_exposed held level (sided s d) test
    → PassesNone level test
alike_hides held s level number even told some d test p =
    told some d test
    (subst (λ (n : Option Name). PassesExposed d held level s.block n test) (even d) p)

pub hides_so : (held : List Tree) (s : Surrounded) (level number : ℕ) (hidden : Bool)
    → ((d : Direction) → beside_of s d ≡ s.block) → (1 ≤ number → hidden ≡ true)
    → (hidden ≡ true → (d : Direction) (test : Cell → Bool)
    → passes_exposed held level (sided s d) test → PassesNone level test)
    → hides_alike held (record { block = s.block; level = level }) number
hides_so held s level number hidden even is none some d test p =
    none (is some) d test
    (subst (λ (n : Option Name). PassesExposed d held level s.block n test) (sym (even d)) p)
