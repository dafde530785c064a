-- The leaves of a layer, filled in for all directions at once.
use Rattle.std.proofs.Common.{◌≡◌, ℕ, zero, suc, ◌+◌, ◌-◌, ◌/◌, ◌<◌, ◌≤◌, Bool, true, false, List, Option, None, refl, sym, ap, subst, ◌∙◌, arith}
use Rattle.std.specs.Prelude.{◌&&◌, not, if◌then◌else◌, slice_index, slice_set}
use Rattle.vw_cell.specs.declared.cells.Cell.{Cell}
use Rattle.vw_cell.specs.declared.boxes.Boxed.{Boxed}
use Rattle.vw_cell.specs.declared.blocks.Block.{Block}
use Rattle.vw_cell.specs.declared.directions.Direction.{Direction}
use Rattle.vw_cell.specs.declared.directions.Direction.TheVariants.{LowX, HighX, LowY, HighY, LowZ, HighZ}
use Rattle.vw_cell.specs.Counts.{cell_at}
use Rattle.vw_cell.specs.Faces.{is_exposed}
use Rattle.vw_cell.specs.Places.{block_side, octant_of}
use Rattle.node_words.specs.declared.shapes.names.Name.{Name}
use Rattle.node_words.specs.shapes.Shape.{Shape}
use Rattle.node_words.specs.shapes.Tree.{Tree, shape_of, child_of}
use Rattle.node_words.specs.Held.{StoreState, name_in}
use Rattle.node_words.specs.descent.Roots.{IsBlockOf, IsOctantOf, HasBlock, ForBlock, cells_of}
use Rattle.node_words.specs.descent.Parts.{EndsBy, placed}
use Rattle.node_words.proofs.OfShapes.ShapeLaws.{has-clear}
use Rattle.node_words.proofs.OfShapes.TreeLaws.{shape_of-child}
use Rattle.node_words.proofs.OfDescent.BlockLaws.{clear_block}
use Rattle.node_words.proofs.OfDescent.LookLaws.{placed_set}
use Rattle.node_words.proofs.OfDescent.PartLaws.{placed_in}
use Rattle.measure.specs.declared.exposed_sides.ExposedSides.{ExposedSides}
use Rattle.measure.specs.Exposed.{PassesExposed, across, is_next_set, stays}
use Rattle.measure.specs.Faces.{passes_exposed}
use Rattle.measure.specs.Tallies.{PassesNone, in_octant}
use Rattle.measure.specs.Widening.{ForCounted}
use Rattle.measure.proofs.FaceLaws.{octant_bare, some_bare}
use Rattle.measure.proofs.WideningLaws.{child_counts, octant_passed, still_counts}
use Rattle.extract.specs.Filling.{Fills, IsInFirst}
use Rattle.extract.specs.Layers.{HoldsLayer, IsLeafCorner, IsSmallLayer, leaf_corner, leaves_in}
use Rattle.extract.specs.Sides.{AreNear, HasSides, beside_of, names_towards, sided, words_towards}
use Rattle.extract.specs.declared.bare_layers.BareLayer.{BareLayer}
use Rattle.extract.specs.declared.nearby.Nearby.{Nearby}
use Rattle.extract.specs.declared.surrounded.Surrounded.{Surrounded}
use Rattle.extract.proofs.FillLaws.{LiesAmong, bare_filled, fills_block, fills_more, fills_none, nothing_fills}

-- what holds of each direction holds of all
pub each_way : (P : Direction → Type 0) → P LowX → P HighX → P LowY → P HighY → P LowZ → P HighZ
    → (d : Direction) → P d
each_way P a b c d e f LowX = a
each_way P a b c d e f HighX = b
each_way P a b c d e f LowY = c
each_way P a b c d e f HighY = d
each_way P a b c d e f LowZ = e
each_way P a b c d e f HighZ = f

-- what may be read stays so while what is seen stays
pub sides_still : (a b : StoreState) (level : ℕ) (s : Surrounded) → b ≡ a → HasSides a.held level s
    → HasSides b.held level s
sides_still a b level s e has = subst (λ (st : StoreState). HasSides st.held level s) (sym e) has

pub sides_at : (held : List Tree) (level other : ℕ) (s : Surrounded) → level ≡ other
    → HasSides held level s → HasSides held other s
sides_at held level other s e has = subst (λ (l : ℕ). HasSides held l s) e has

-- the block may be read
pub block_of_sides : (held : List Tree) (level : ℕ) (s : Surrounded) → HasSides held level s
    → HasBlock held level s.block
block_of_sides held level s has =
    let p = (has.each LowX).1 in record { tree = p.tree; is_block = p.is_block }

-- one direction of it
pub one_side : (held : List Tree) (level : ℕ) (s : Surrounded) (d : Direction) (x : ExposedSides)
    → x ≡ sided s d → HasSides held level s → (test : Cell → Bool) × passes_exposed held level x test
one_side held level s d x e has =
    subst (λ (y : ExposedSides). (test : Cell → Bool) × passes_exposed held level y test) (sym e)
    (has.each d)

-- a world's block, beside which nothing stands
pub world_sides : (held : List Tree) (level : ℕ) (block : Option Name) (s : Surrounded)
    → ((d : Direction) → sided s d ≡ record { direction = d; block = block; beside = None })
    → HasBlock held level block → HasSides held level s
world_sides held level block s is has = record {
  each = λ d.
      subst (λ (x : ExposedSides). (test : Cell → Bool) × passes_exposed held level x test)
      (sym (is d)) (some_bare d held level block has);
}

-- what a call for an octant needs
pub octant_sides : (a b : StoreState) (place inner : Block) (k : ℕ) (s child : Surrounded) → b ≡ a
    → inner ≡ octant_of place k
    → ((d : Direction) (test : Cell → Bool)
    → passes_exposed a.held place.level (sided s d) test
    → passes_exposed a.held (place.level - 1) (sided child d) (in_octant place.level k test))
    → HasSides a.held place.level s → HasSides b.held inner.level child
octant_sides a b place inner k s child e is down has = record {
  each = λ d.
      child_counts passes_exposed a b place inner k (sided s d) (sided child d) (has.each d).0 e is
      (down d) (has.each d).1;
}

-- what stands beside an octant, by the names that are near
below_eight : (P : ℕ → Type 0) → P 0 → P 1 → P 2 → P 3 → P 4 → P 5 → P 6 → P 7 → (k : ℕ) → k < 8
    → P k
below_eight P a b c d e f g h zero lt = a
below_eight P a b c d e f g h (suc zero) lt = b
below_eight P a b c d e f g h (suc (suc zero)) lt = c
below_eight P a b c d e f g h (suc (suc (suc zero))) lt = d
below_eight P a b c d e f g h (suc (suc (suc (suc zero)))) lt = e
below_eight P a b c d e f g h (suc (suc (suc (suc (suc zero))))) lt = f
below_eight P a b c d e f g h (suc (suc (suc (suc (suc (suc zero)))))) lt = g
below_eight P a b c d e f g h (suc (suc (suc (suc (suc (suc (suc zero))))))) lt = h
below_eight P a b c d e f g h (suc (suc (suc (suc (suc (suc (suc (suc k)))))))) lt =
    absurd (omega arith)

pub across_below : (d : Direction) (k : ℕ) → k < 8 → across d k < 8
across_below LowX =
    below_eight (λ k. across LowX k < 8) (omega arith) (omega arith) (omega arith) (omega arith) (omega arith) (omega arith) (omega arith) (omega arith)
across_below HighX =
    below_eight (λ k. across HighX k < 8) (omega arith) (omega arith) (omega arith) (omega arith) (omega arith) (omega arith) (omega arith) (omega arith)
across_below LowY =
    below_eight (λ k. across LowY k < 8) (omega arith) (omega arith) (omega arith) (omega arith) (omega arith) (omega arith) (omega arith) (omega arith)
across_below HighY =
    below_eight (λ k. across HighY k < 8) (omega arith) (omega arith) (omega arith) (omega arith) (omega arith) (omega arith) (omega arith) (omega arith)
across_below LowZ =
    below_eight (λ k. across LowZ k < 8) (omega arith) (omega arith) (omega arith) (omega arith) (omega arith) (omega arith) (omega arith) (omega arith)
across_below HighZ =
    below_eight (λ k. across HighZ k < 8) (omega arith) (omega arith) (omega arith) (omega arith) (omega arith) (omega arith) (omega arith) (omega arith)

from_near : (d : Direction) (held : List Tree) (level j : ℕ) (s : Surrounded) (near : Nearby)
    (v : Bool) → j < 8 → AreNear held level s near
    → IsOctantOf held level (if v then s.block else beside_of s d) j
    (name_in (if v then near.block else names_towards near d) j)
from_near d held level j s near true lt are = are.block j lt
from_near d held level j s near false lt are = are.beside d j lt

pub near_octant : (st : StoreState) (level k : ℕ) (s child : Surrounded) (near : Nearby)
    → 1 ≤ level → k < 8 → AreNear st.held level s near → child.block ≡ name_in near.block k
    → ((d : Direction) → beside_of child d
    ≡ name_in (if stays d k then near.block else names_towards near d) (across d k))
    → (d : Direction) (test : Cell → Bool) → passes_exposed st.held level (sided s d) test
    → passes_exposed st.held (level - 1) (sided child d) (in_octant level k test)
near_octant st level k s child near h lt are block beside d test p =
    let name : Option Name = name_in near.block k in
    let next : Option Name =
    name_in (if stays d k then near.block else names_towards near d) (across d k) in
    let bare =
    octant_bare d st st level k (across d k) s.block (beside_of s d)
    (if stays d k then s.block else beside_of s d) name next (stays d k) test refl refl refl refl h
    lt (are.block k lt)
    (from_near d st.held level (across d k) s near (stays d k) (across_below d k lt) are) p in
    subst (λ (n : Option Name). PassesExposed d st.held (level - 1) n (beside_of child d)
    (in_octant level k test)) (sym block)
    (subst (λ (n : Option Name). PassesExposed d st.held (level - 1) name n
    (in_octant level k test)) (sym (beside d)) bare)

pub near_name : (held : List Tree) (level k : ℕ) (s child : Surrounded) (near : Nearby) → k < 8
    → AreNear held level s near → child.block ≡ name_in near.block k
    → IsOctantOf held level s.block k child.block
near_name held level k s child near lt are e =
    subst (λ (n : Option Name). IsOctantOf held level s.block k n) (sym e) (are.block k lt)

-- what is near stays so while what is seen stays
pub near_still : (a b : StoreState) (level : ℕ) (s : Surrounded) (near : Nearby) → b ≡ a
    → AreNear a.held level s near → AreNear b.held level s near
near_still a b level s near e are =
    subst (λ (st : StoreState). AreNear st.held level s near) (sym e) are

-- a block's octants, each looked at once
pub octants_still : (a b : StoreState) (level : ℕ) (block : Option Name) (names : List (Option Name))
    → b ≡ a → ((k : ℕ) → k < 8 → IsOctantOf b.held level block k (name_in names k))
    → (k : ℕ) → k < 8 → IsOctantOf a.held level block k (name_in names k)
octants_still a b level block names e told =
    subst (λ (st : StoreState). (k : ℕ) → k < 8
    → IsOctantOf st.held level block k (name_in names k)) e told

pub names_still : (a b : StoreState) (level : ℕ) (block : Option Name) (names : List (Option Name))
    → b ≡ a → ((k : ℕ) → k < 8 → IsOctantOf a.held level block k (name_in names k))
    → (k : ℕ) → k < 8 → IsOctantOf b.held level block k (name_in names k)
names_still a b level block names e told = octants_still b a level block names (sym e) told

pub beside_block : (held : List Tree) (level : ℕ) (s : Surrounded) (d : Direction)
    → HasSides held level s → HasBlock held level (beside_of s d)
beside_block held level s d has =
    let p = (has.each d).1 in record { tree = p.next; is_block = p.is_beside }

pub beside_still : (a b : StoreState) (level : ℕ) (s : Surrounded) (d : Direction) → b ≡ a
    → HasSides a.held level s → HasBlock b.held level (beside_of s d)
beside_still a b level s d e has = beside_block b.held level s d (sides_still a b level s e has)

-- one octant more is filled in
abbrev pub FillsFirst : List Tree → Surrounded → Block → Boxed → ℕ → ℕ → BareLayer → BareLayer
    → Type 0
FillsFirst held s place b layer n old new =
    (d : Direction) → ForCounted passes_exposed held (sided s d) place
    (λ cells. Fills (λ m. IsInFirst place n (leaf_corner b layer m)) b layer cells
    (words_towards old d) (words_towards new d))

abbrev pub FillsNth : List Tree → Surrounded → Block → Boxed → ℕ → ℕ → BareLayer → BareLayer
    → Type 0
FillsNth held s place b layer n old new =
    (d : Direction) → ForCounted passes_exposed held (sided s d) place
    (λ cells. Fills (LiesAmong b layer (octant_of place n)) b layer cells (words_towards old d)
    (words_towards new d))

pub first_filled : (held : List Tree) (s : Surrounded) (place : Block) (b : Boxed) (layer : ℕ)
    (words : BareLayer) → FillsFirst held s place b layer 0 words words
first_filled held s place b layer words d cells test p shows =
    fills_none _ b layer cells (words_towards words d)
    (λ f m lt i. (let below = i.below in absurd (omega (arith, below))))

pub next_filled : (a st : StoreState) (s : Surrounded) (place : Block) (b : Boxed) (layer n : ℕ)
    (old mid new : BareLayer) → st ≡ a → FillsFirst a.held s place b layer n old mid
    → FillsNth st.held s place b layer n mid new
    → FillsFirst a.held s place b layer (n + 1) old new
next_filled a st s place b layer n old mid new e first nth d cells test p shows =
    fills_more place b layer n cells (words_towards old d) (words_towards mid d)
    (words_towards new d) (first d cells test p shows)
    (nth d cells test (still_counts passes_exposed a st place.level (sided s d) test e p) shows)

pub all_filled : (held : List Tree) (s : Surrounded) (place : Block) (b : Boxed) (layer : ℕ)
    (old new : BareLayer) → 1 ≤ place.level → FillsFirst held s place b layer 8 old new
    → (d : Direction) → ForCounted passes_exposed held (sided s d) place
    (λ cells. Fills (LiesAmong b layer place) b layer cells (words_towards old d)
    (words_towards new d))
all_filled held s place b layer old new h first d cells test p shows =
    fills_block place b layer 8 cells (words_towards old d) (words_towards new d) h refl
    (first d cells test p shows)

-- an octant in which nothing stands has no bare cell
none_in_octant : (d : Direction) (held : List Tree) (level k : ℕ) (block beside child : Option Name)
    (test : Cell → Bool) → child ≡ None → 1 ≤ level → k < 8 → IsOctantOf held level block k child
    → PassesExposed d held level block beside test → PassesNone (level - 1) (in_octant level k test)
none_in_octant d held level k block beside child test e h lt octant p = record {
  each = λ c i.
      p.shows (placed (block_side (level - 1)) k c) (placed_in level k c h lt i)
      ∙ ap (λ (set : Bool). set
      && not (is_next_set d level (shape_of p.tree) (shape_of p.next)
      (placed (block_side (level - 1)) k c)))
      (placed_set level (shape_of p.tree) k c h lt i
      ∙ ap (λ (s : Shape). cells_of (level - 1) s c)
      (sym (shape_of-child p.tree k)
      ∙ clear_block held (level - 1) (child_of p.tree k)
      (subst (λ (n : Option Name). IsBlockOf held (level - 1) n (child_of p.tree k)) e
      (octant p.tree p.is_block)))
      ∙ has-clear (level - 1) c.x c.y c.z);
}

pub blank_octant : (d : Direction) (held : List Tree) (place inner : Block) (k : ℕ) (s : Surrounded)
    (child : Option Name) (b : Boxed) (layer : ℕ) (words : List ℕ) → child ≡ None
    → 1 ≤ place.level → k < 8 → inner ≡ octant_of place k → IsLeafCorner inner.at
    → IsOctantOf held place.level s.block k child
    → ForCounted passes_exposed held (sided s d) place
    (λ cells. Fills (LiesAmong b layer (octant_of place k)) b layer cells words words)
blank_octant d held place inner k s child b layer words none h lt is corner octant cells test p shows =
    nothing_fills (λ held level (x : Option Name) test. PassesNone level test) held child
    (octant_of place k) b layer words (λ u n. n)
    (subst (λ (q : Block). IsLeafCorner q.at) is corner) cells (in_octant place.level k test)
    (none_in_octant d held place.level k s.block (beside_of s d) child test none h lt octant p)
    (octant_passed place test cells k h lt shows)

-- a leaf's words are put
pub put_fills : (d : Direction) (held : List Tree) (s : Surrounded) (place : Block) (b : Boxed)
    (layer m bits : ℕ) (old new : List ℕ) → new ≡ slice_set old m bits
    → ForCounted passes_exposed held (sided s d) place
    (λ cells. Fills (LiesAmong b layer place) b layer cells old (slice_set old m bits))
    → ForCounted passes_exposed held (sided s d) place
    (λ cells. Fills (LiesAmong b layer place) b layer cells old new)
put_fills d held s place b layer m bits old new e fills =
    subst (λ (words : List ℕ). ForCounted passes_exposed held (sided s d) place
    (λ cells. Fills (LiesAmong b layer place) b layer cells old words)) (sym e) fills

-- a layer of a world that was filled in
pub world_filled : (d : Direction) (held : List Tree) (level layer z : ℕ) (block : Option Name)
    (s : Surrounded) (b : Boxed) (old new : List ℕ)
    → sided s d ≡ record { direction = d; block = block; beside = None } → IsSmallLayer b
    → EndsBy (block_side level) b → z < b.size.z → layer ≡ (b.at.z + z) / 4
    → ((m : ℕ) → m < leaves_in b → slice_index old m ≡ 0)
    → ForCounted passes_exposed held (sided s d) (record { level = level; at = cell_at 0 0 0 })
    (λ cells. Fills (LiesAmong b layer (record { level = level; at = cell_at 0 0 0 })) b layer cells
    old new)
    → ForBlock held level block
    (λ t. HoldsLayer new b layer (leaves_in b) (is_exposed d (block_side level) (cells_of level t)))
world_filled d held level layer z block s b old new is small ends lt e none fills =
    bare_filled d held level layer z block b old new small ends lt e none
    (subst (λ (x : ExposedSides). ForCounted passes_exposed held x
    (record { level = level; at = cell_at 0 0 0 })
    (λ cells. Fills (LiesAmong b layer (record { level = level; at = cell_at 0 0 0 })) b layer cells
    old new)) is fills)
