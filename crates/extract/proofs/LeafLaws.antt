-- Leaves of a layer of a box.
use Rattle.std.proofs.Common.{◌≡◌, ℕ, ◌+◌, ◌-◌, ◌*◌, ◌/◌, ◌%◌, ◌^◌, ◌<◌, ◌≤◌, Bool, List, length, Option, refl, sym, ap, subst, ◌∙◌, arith}
use Rattle.std.specs.Prelude.{slice_index}
use Rattle.std.proofs.lemmas.Nat.{mod-mul-add, div-mul-add, div_below, mod_below}
use Rattle.vw_cell.specs.declared.cells.Cell.{Cell}
use Rattle.vw_cell.specs.declared.boxes.Boxed.{Boxed}
use lib.Pow.{pow_mono}
use Rattle.std.specs.declared.vec.Vec.{Vec}
use Rattle.vw_cell.specs.Counts.{cell_at, number_in}
use Rattle.vw_cell.specs.Places.{IsInWorld, FitsAt}
use Rattle.vox_read.specs.declared.voxels.Voxel.{Voxel}
use Rattle.node_words.specs.declared.shapes.names.Name.{Name}
use Rattle.node_words.specs.shapes.Tree.{shape_of}
use Rattle.node_words.specs.kernels.Leaves.{LeafShows}
use Rattle.node_words.specs.Held.{StoreState}
use Rattle.node_words.specs.descent.Roots.{IsBlockOf, HasBlock, HoldsRoot, ForBlock, ForWorld, cells_of}
use Rattle.node_words.specs.descent.Parts.{EndsBy}
use Rattle.node_words.proofs.OfDescent.BlockLaws.{root_block}
use Rattle.node_words.proofs.OfDescent.LookLaws.{block_still, same_cell}
use Rattle.extract.specs.Listing.{voxels_joined, voxel_if, row_voxels, voxels_of_box}
use Rattle.extract.specs.Layers.{leaves_met, leaves_along, leaves_in, leaf_block, leaf_corner, HoldsLayer, IsSmallLayer, HasRoom, bits_show}
use Rattle.extract.proofs.ListingLaws.{joined-same, length-voxels}

-- the corners of a layer's leaves
met_in : (at size side w : ℕ) → w < leaves_met at size → at + size ≤ side → 4 * (at / 4 + w) < side
met_in at size side w lt fits = omega arith

some_met : (at size : ℕ) → 1 ≤ size → 1 ≤ leaves_met at size
some_met at size h = omega arith

pub corner_in : (b : Boxed) (side z m : ℕ) → IsSmallLayer b → EndsBy side b → z < b.size.z
    → m < leaves_in b → IsInWorld side (leaf_corner b ((b.at.z + z) / 4) m)
corner_in b side z m small ends lt inside =
    let some = some_met b.at.x b.size.x small.x.0 in
    let ez = ends.z in
    record {
      x = met_in b.at.x b.size.x side (m % leaves_along b)
          (mod_below m (leaves_along b) some) ends.x;
      y = met_in b.at.y b.size.y side (m / leaves_along b)
          (div_below m (leaves_along b) (leaves_met b.at.y b.size.y) some inside) ends.y;
      z = omega arith;
    }

-- a run of a row lies in one leaf
run_place : (at p i x0 : ℕ) → x0 ≤ (at + p) / 4
    → 4 * (x0 + ((at + p) / 4 - x0)) + ((at + p) % 4 + i) ≡ at + (p + i)
run_place at p i x0 h = omega arith

row_place : (at y0 : ℕ) → y0 ≤ at / 4 → 4 * (y0 + (at / 4 - y0)) + at % 4 ≡ at
row_place at y0 h = omega arith

pub run_shows : (words : List ℕ) (b : Boxed) (z y p n m bits : ℕ) (cells : Cell → Bool)
    → IsSmallLayer b → y < b.size.y → p + n ≤ b.size.x → (b.at.x + p) % 4 + n ≤ 4
    → m ≡ ((b.at.y + y) / 4 - b.at.y / 4) * leaves_along b + ((b.at.x + p) / 4 - b.at.x / 4)
    → m < leaves_in b → bits ≡ slice_index words m → 1 ≤ n
    → HoldsLayer words b ((b.at.z + z) / 4) (leaves_in b) cells → (i : ℕ) → i < n
    → bits_show bits
    (cell_at ((b.at.x + p) % 4 + i) ((b.at.y + y) % 4) ((b.at.z + z) % 4))
    ≡ cells (cell_at (b.at.x + (p + i)) (b.at.y + y) (b.at.z + z))
run_shows words b z y p n m bits cells small ly fits leaf is inside word some held i lt =
    let along : ℕ = leaves_along b in
    let down : ℕ = (b.at.y + y) / 4 - b.at.y / 4 in
    let right : ℕ = (b.at.x + p) / 4 - b.at.x / 4 in
    let near : right < along = omega arith in
    let col : m % along ≡ right =
    ap (λ (j : ℕ). j % along) is ∙ mod-mul-add down along right near in
    let line : m / along ≡ down =
    ap (λ (j : ℕ). j / along) is ∙ div-mul-add down along right near in
    let shows =
    subst (λ (w : ℕ). LeafShows w (leaf_block (leaf_corner b ((b.at.z + z) / 4) m)) cells)
    (sym word) (held.each m inside) in
    let place : cell_at (4 * (b.at.x / 4 + m % along) + ((b.at.x + p) % 4 + i)) (4 * (b.at.y / 4 + m / along) + (b.at.y + y) % 4) (4 * ((b.at.z + z) / 4) + (b.at.z + z) % 4) ≡ cell_at (b.at.x + (p + i)) (b.at.y + y) (b.at.z + z) =
    same_cell _ _ _ _
    (ap (λ (j : ℕ). 4 * (b.at.x / 4 + j) + ((b.at.x + p) % 4 + i)) col
    ∙ run_place b.at.x p i (b.at.x / 4) (omega arith))
    (ap (λ (j : ℕ). 4 * (b.at.y / 4 + j) + (b.at.y + y) % 4) line
    ∙ row_place (b.at.y + y) (b.at.y / 4) (omega arith))
    (omega arith)
    in
    shows.each ((b.at.x + p) % 4 + i) ((b.at.y + y) % 4) ((b.at.z + z) % 4) (omega arith)
    (omega arith) (omega arith) ∙ ap cells place

-- the same of one cell
pub cell_shows : (words : List ℕ) (b : Boxed) (z y p m : ℕ) (cells : Cell → Bool)
    → IsSmallLayer b → y < b.size.y → p < b.size.x
    → m ≡ ((b.at.y + y) / 4 - b.at.y / 4) * leaves_along b + ((b.at.x + p) / 4 - b.at.x / 4)
    → m < leaves_in b → HoldsLayer words b ((b.at.z + z) / 4) (leaves_in b) cells
    → bits_show (slice_index words m)
    (cell_at ((b.at.x + p) % 4) ((b.at.y + y) % 4) ((b.at.z + z) % 4))
    ≡ cells (cell_at (b.at.x + p) (b.at.y + y) (b.at.z + z))
cell_shows words b z y p m cells small ly lp is inside held =
    let from : (b.at.x + p) % 4 ≡ (b.at.x + p) % 4 + 0 = omega arith in
    let to : b.at.x + (p + 0) ≡ b.at.x + p = omega arith in
    ap (λ (x : ℕ). bits_show (slice_index words m)
    (cell_at x ((b.at.y + y) % 4) ((b.at.z + z) % 4))) from
    ∙ run_shows words b z y p 1 m (slice_index words m) cells small ly (omega arith) (omega arith) is
    inside refl (omega arith) held 0 (omega arith)
    ∙ ap (λ (x : ℕ). cells (cell_at x (b.at.y + y) (b.at.z + z))) to

pub run_is_row : (words : List ℕ) (b : Boxed) (z y p n m bits : ℕ) (cells : Cell → Bool)
    → IsSmallLayer b → y < b.size.y → p + n ≤ b.size.x → (b.at.x + p) % 4 + n ≤ 4
    → m ≡ ((b.at.y + y) / 4 - b.at.y / 4) * leaves_along b + ((b.at.x + p) / 4 - b.at.x / 4)
    → m < leaves_in b → bits ≡ slice_index words m → 1 ≤ n
    → HoldsLayer words b ((b.at.z + z) / 4) (leaves_in b) cells
    → row_voxels (bits_show bits)
    (cell_at ((b.at.x + p) % 4) ((b.at.y + y) % 4) ((b.at.z + z) % 4)) n (cell_at p y z)
    ≡ voxels_joined n
    (λ i. voxel_if (cells (cell_at (b.at.x + (p + i)) (b.at.y + y) (b.at.z + z)))
    (0 + (p + i)) y z)
run_is_row words b z y p n m bits cells small ly fits leaf is inside word some held =
    joined-same n _ _ (λ i lt.
    let set = run_shows words b z y p n m bits cells small ly fits leaf is inside word some held i lt in
    let to : p + i ≡ 0 + (p + i) = omega arith in
    ap (λ (v : Bool). voxel_if v (p + i) y z) set
    ∙ ap (λ (x : ℕ). voxel_if
    (cells (cell_at (b.at.x + (p + i)) (b.at.y + y) (b.at.z + z))) x y z) to)

-- the leaf's number lies in the layer
pub run_inside : (b : Boxed) (y p row m : ℕ) → IsSmallLayer b → y < b.size.y → p < b.size.x
    → row + leaves_along b ≤ leaves_in b → m ≡ row + ((b.at.x + p) / 4 - b.at.x / 4)
    → m < leaves_in b
run_inside b y p row m small ly lp fits e =
    let near : (b.at.x + p) / 4 - b.at.x / 4 < leaves_along b = omega arith in omega
    (arith, near, fits)

pub run_index : (row start right right' : ℕ) → row ≡ start → right ≡ right'
    → row + right ≡ start + right'
run_index row start right right' p q = rw (p, q) refl

-- a box of the root's world, and the room that its cells take
pub small_box : (side : ℕ) (b : Boxed) → side ≤ 12 → FitsAt b.at b.size (2 ^ side) → b.size.x ≤ 256
    → b.size.y ≤ 256 → b.size.z ≤ 256 → IsSmallLayer b
small_box side b h fits x y z =
    let most : 2 ^ side ≤ 2 ^ 12 = pow_mono h in
    record {
      x = (fits.x.0, x, omega (arith, fits.x.1));
      y =
          (fits.y.0, y, omega (arith, fits.y.1));
      z = (fits.z.0, z, omega (arith, fits.z.1));
    }

pub root_there : (a b : StoreState) (side level : ℕ) (root name : Option Name) → b ≡ a → level ≡ side - 2
    → name ≡ root → HoldsRoot a.held side root → HasBlock b.held level name
root_there a b side level root name e f n h =
    let block = root_block a.held side root h in
    let there =
    subst (λ (m : Option Name). IsBlockOf a.held level m block.tree) (sym n)
    (subst (λ (l : ℕ). IsBlockOf a.held l root block.tree) (sym f) block.is_block) in
    record { tree = block.tree; is_block = block_still a b level name block.tree e there }

pub world_room : {Z : Type 0} (a b : StoreState) (side level : ℕ) (root name : Option Name) (box : Boxed)
    (number : ℕ) (v : Vec Voxel Z) → b ≡ a → level ≡ side - 2 → name ≡ root
    → ForWorld a.held side root (λ cells. number ≡ number_in box cells) → HasRoom v number
    → ForBlock b.held level name (λ s. HasRoom v (length (voxels_of_box box (cells_of level s))))
world_room a b side level root name box number v e f n told room t o =
    let in_a = block_still b a level name t (sym e) o in
    let in_root =
    subst (λ (l : ℕ). IsBlockOf a.held l root t) f
    (subst (λ (m : Option Name). IsBlockOf a.held level m t) n in_a) in
    let is : number ≡ number_in box (cells_of level (shape_of t)) =
    told t in_root ∙ ap (λ (l : ℕ). number_in box (cells_of l (shape_of t))) (sym f) in
    let all = length-voxels box (cells_of level (shape_of t)) in
    omega (arith, is, all, room)
