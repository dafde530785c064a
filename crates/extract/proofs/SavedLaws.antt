-- The voxels of a box as those of a model, and its file.
use Rattle.std.proofs.Common.{◌≡◌, ℕ, zero, suc, ◌+◌, ◌*◌, ◌^◌, ◌<◌, ◌≤◌, Bool, true, false, List, [], ◌++◌, length, Option, ◌-◌, All, sym, ap, subst, ◌∙◌, arith}
use Rattle.std.proofs.lemmas.List.Elements.{All-nil, All-cons, All-append}
use Rattle.vw_cell.specs.declared.cells.Cell.{Cell}
use Rattle.vw_cell.specs.declared.boxes.Boxed.{Boxed}
use Rattle.vw_cell.specs.Counts.{cell_at, number_in, number_below-le}
use Rattle.vw_cell.specs.Places.{IsInWorld, FitsAt}
use Rattle.vox_read.specs.declared.voxels.Voxel.{Voxel}
use Rattle.vox_read.specs.Contents.{IsSize, IsInsideModel}
use Rattle.vox_write.specs.Written.{model_file}
use Rattle.node_words.specs.declared.shapes.names.Name.{Name}
use Rattle.node_words.specs.shapes.Tree.{Tree, shape_of}
use Rattle.node_words.specs.descent.Roots.{HoldsRoot, ForWorld, cells_of}
use Rattle.node_words.proofs.OfDescent.BlockLaws.{root_block}
use Rattle.extract.specs.Listing.{voxels_joined, voxel_if, box_row, box_layer, voxels_of_box}
use Rattle.extract.specs.Saved.{file_of_box}
use Rattle.extract.proofs.ListingLaws.{joined-same, length-voxels}

-- a box with cells has a model's size, where none of its sizes is over 256
pub is_size : (side : ℕ) (b : Boxed) → FitsAt b.at b.size side
    → (b.size.x ≤ 256) × (b.size.y ≤ 256) × (b.size.z ≤ 256) → IsSize b.size
is_size side b fits small =
    record { x = (fits.x.0, small.0); y = (fits.y.0, small.1); z = (fits.z.0, small.2) }

-- ---- each voxel stands inside

joined_all : (P : Voxel → Type 0) (n : ℕ) (f : ℕ → List Voxel) → ((i : ℕ) → i < n → All P (f i))
    → All P (voxels_joined n f)
unfolding voxels_joined
joined_all P zero f each = All-nil P
joined_all P (suc n) f each =
    All-append P (voxels_joined n f) (f n) (joined_all P n f (λ i lt. each i (omega arith)))
    (each n (omega arith))

voxel_inside : (size : Cell) (set : Bool) (x y z : ℕ) → x < size.x → y < size.y → z < size.z
    → All (IsInsideModel size) (voxel_if set x y z)
voxel_inside size true x y z a b c =
    All-cons (IsInsideModel size) (record { x = x; y = y; z = z; colour = 1 }) []
    (record { x = a; y = b; z = c }) (All-nil (IsInsideModel size))
voxel_inside size false x y z a b c = All-nil (IsInsideModel size)

pub voxels_inside : (b : Boxed) (cells : Cell → Bool)
    → All (IsInsideModel b.size) (voxels_of_box b cells)
voxels_inside b cells =
    joined_all (IsInsideModel b.size) b.size.z (box_layer cells b)
    (λ z of_z. joined_all (IsInsideModel b.size) b.size.y (λ y. box_row cells b z y b.size.x)
    (λ y of_y. joined_all (IsInsideModel b.size) b.size.x _
    (λ x of_x. voxel_inside b.size (cells (cell_at (b.at.x + x) (b.at.y + y) (b.at.z + z)))
    (0 + x) y z (omega arith) of_y of_z)))

-- ---- and they are few

times : (a b x y : ℕ) → a ≤ x → b ≤ y → a * b ≤ x * y
times zero b x y a_x b_y = omega arith
times (suc a) b zero y a_x b_y = absurd (omega arith)
times (suc a) b (suc x) y a_x b_y =
    let rest = times a b x y (omega arith) b_y in omega (arith, rest)

pub few_voxels : (b : Boxed) (cells : Cell → Bool)
    → (b.size.x ≤ 256) × (b.size.y ≤ 256) × (b.size.z ≤ 256)
    → length (voxels_of_box b cells) ≤ 2 ^ 24
few_voxels b cells small =
    let all : number_in b cells ≤ b.size.z * (b.size.y * b.size.x) =
    number_below-le b.size
    (λ q. cells (cell_at (b.at.x + q.x) (b.at.y + q.y) (b.at.z + q.z))) in
    let rows : b.size.y * b.size.x ≤ 256 * 256 = times b.size.y b.size.x 256 256 small.1 small.0 in
    let layers : b.size.z * (b.size.y * b.size.x) ≤ 256 * (256 * 256) =
    times b.size.z (b.size.y * b.size.x) 256 (256 * 256) small.2 rows in
    let number = length-voxels b cells in
    omega (arith, all, layers, number)

-- ---- of a root

module _ (held : List Tree) (side : ℕ) (root : Option Name) (b : Boxed) (voxels : List Voxel)
    (told : ForWorld held side root (λ cells. voxels ≡ [] ++ voxels_of_box b cells)) where
  pub told_inside : HoldsRoot held side root → All (IsInsideModel b.size) voxels
  told_inside holds =
      let block = root_block held side root holds in
      subst (λ (vs : List Voxel). All (IsInsideModel b.size) vs)
      (sym (told block.tree block.is_block))
      (voxels_inside b (cells_of (side - 2) (shape_of block.tree)))

  pub told_few : HoldsRoot held side root → (b.size.x ≤ 256) × (b.size.y ≤ 256) × (b.size.z ≤ 256)
      → length voxels ≤ 2 ^ 24
  told_few holds small =
      let block = root_block held side root holds in
      let same = ap length (told block.tree block.is_block) in
      let few = few_voxels b (cells_of (side - 2) (shape_of block.tree)) small in
      omega (arith, same, few)

  pub told_file : (file : List ℕ)
      → file ≡ [] ++ model_file (record { size = b.size; voxels = voxels })
      → ForWorld held side root (λ cells. file ≡ file_of_box b cells)
  told_file file is t block = is
      ∙ ap (λ (vs : List Voxel). model_file (record { size = b.size; voxels = vs })) (told t block)

-- ---- cells that are alike in the world

-- the same cells have the same file
pub file_same : (side : ℕ) (b : Boxed) (v w : Cell → Bool) → FitsAt b.at b.size side
    → ((c : Cell) → IsInWorld side c → v c ≡ w c) → file_of_box b v ≡ file_of_box b w
file_same side b v w fits each =
    let fx = fits.x in let fy = fits.y in let fz = fits.z in
    ap (λ (vs : List Voxel). model_file (record { size = b.size; voxels = vs }))
    (joined-same b.size.z _ _
    (λ z of_z. joined-same b.size.y _ _ (λ y of_y. joined-same b.size.x _ _
    (λ x of_x. ap (λ (set : Bool). voxel_if set (0 + x) y z)
    (each (cell_at (b.at.x + x) (b.at.y + y) (b.at.z + z))
    (record { x = omega arith; y = omega arith; z = omega arith }))))))
