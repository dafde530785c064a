-- The voxels and the file of a box go by the cells of the store's world alone.
use Rattle.std.proofs.Common.{◌≡◌, ℕ, zero, suc, ◌+◌, ◌-◌, ◌*◌, ◌/◌, ◌^◌, ◌<◌, ◌≤◌, Bool, true, false, Option, List, [], ◌∷◌, ◌++◌, All, length, map, refl, sym, ◌∙◌, ap, subst, arith}
use Rattle.std.proofs.lemmas.List.Elements.{All-head, All-map, All-tail, All-weaker}
use Rattle.vw_cell.specs.declared.boxes.Boxed.{Boxed}
use Rattle.vw_cell.specs.declared.cells.Cell.{Cell}
use Rattle.vw_cell.specs.Counts.{cell_at}
use Rattle.vw_cell.specs.Places.{FitsAt, IsInWorld, half_x, half_y, half_z}
use Rattle.node_words.specs.Sums.{one_if}
use Rattle.vox_read.specs.declared.voxels.Voxel.{Voxel}
use Rattle.vox_read.specs.Contents.{IsSize, IsInsideModel}
use Rattle.vox_write.specs.Written.{model_file}
use Rattle.node_words.specs.contents.CellShapes.{bits_below}
use Rattle.node_words.specs.declared.shapes.names.Name.{Name}
use Rattle.node_words.specs.shapes.Tree.{Tree, shape_of}
use Rattle.node_words.specs.descent.Roots.{ForWorld, HoldsRoot, cells_of}
use Rattle.node_words.proofs.OfDescent.BlockLaws.{root_block}
use Rattle.history_model.specs.Logs.{side_of_world}
use Rattle.history_model.specs.Planes.{plane_at}
use Rattle.history_model.specs.Worlds.{World, plus}
use Rattle.core_laws.specs.tints.Planes.{tint_in}
use Rattle.extract.specs.Listing.{voxels_of_box}
use Rattle.extract.proofs.SavedLaws.{few_voxels, is_size, voxels_inside}
use Rattle.act_rebuilds.specs.Reading.{voxel_cell, with_tint}
use Rattle.act_rebuilds.proofs.Quarters.{four_quarters, quarter_is}
use Rattle.act_rebuilds.proofs.OfQuestions.TintTells.{box_within}
use Rattle.session.proofs.FileLaws.{SameIn, same_voxels}
use Rattle.session.specs.Roots.{stored_file, stored_voxels}

-- where cells have tints, the store's side is 16 at least
abbrev pub IsLarge : Bool → ℕ → Type 0
IsLarge tint side = tint ≡ true → 4 ≤ side

-- a box of the world is one of the store's
pub box_of_store : (tint : Bool) (side : ℕ) (b : Boxed)
    → FitsAt b.at b.size (side_of_world tint (2 ^ side)) → FitsAt b.at b.size (2 ^ side)
box_of_store false side b fits = fits
box_of_store true side b fits = box_within side b fits

-- cells that agree in the store's world agree in a box of it
pub same_in_box : (side : ℕ) (b : Boxed) (f g : World) → FitsAt b.at b.size (2 ^ side)
    → ((c : Cell) → IsInWorld (2 ^ side) c → f c ≡ g c) → SameIn b f g
same_in_box side b f g fits same x y z of_x of_y of_z =
    same (cell_at (b.at.x + x) (b.at.y + y) (b.at.z + z))
    (record {
      x = omega (arith, of_x, fits.x);
      y = omega (arith, of_y, fits.y);
      z = omega (arith, of_z, fits.z);
    })

-- ---- the tint of a cell

half_below : (n h x : ℕ) → h < 2 → x < n → n * h + x < 2 * n
half_below n zero x lt below = omega arith
half_below n (suc zero) x lt below = omega arith
half_below n (suc (suc h)) x lt below = absurd (omega arith)

in_store : (n b : ℕ) (p : Cell) → IsInWorld n p → IsInWorld (4 * n) (plus (plane_at n (suc b)) p)
in_store n b p i =
    let x = half_below n (half_x b) p.x (omega arith) i.x in
    let y = half_below n (half_y b) p.y (omega arith) i.y in
    let z = half_below n (half_z b) p.z (omega arith) i.z in
    record { x = omega (arith, x); y = omega (arith, y); z = omega (arith, z) }

bits_same : (f g : ℕ → Bool) (k : ℕ) → ((b : ℕ) → f b ≡ g b) → bits_below f k ≡ bits_below g k
unfolding bits_below
bits_same f g zero same = refl
bits_same f g (suc k) same =
    ap (λ (x : Bool). one_if x * 2 ^ k + bits_below f k) (same k)
    ∙ ap (λ (m : ℕ). one_if (g k) * 2 ^ k + m) (bits_same f g k same)

tint_same : (n : ℕ) (f g : World) (p : Cell) → IsInWorld n p
    → ((q : Cell) → IsInWorld (4 * n) q → f q ≡ g q) → tint_in n f p ≡ tint_in n g p
tint_same n f g p i same =
    bits_same (λ b. f (plus (plane_at n (suc b)) p)) (λ b. g (plus (plane_at n (suc b)) p)) 8
    (λ b. same (plus (plane_at n (suc b)) p) (in_store n b p i))

-- ---- the voxels of a box

abbrev coloured_voxel : Voxel → ℕ → Voxel
coloured_voxel v c = record { x = v.x; y = v.y; z = v.z; colour = c }

mapped_same : (f g : Voxel → Voxel) (vs : List Voxel) → All (λ v. f v ≡ g v) vs
    → map f vs ≡ map g vs
mapped_same f g [] all = refl
mapped_same f g (v ∷ vs) all =
    ap (λ (u : Voxel). u ∷ map f vs) (All-head (λ u. f u ≡ g u) v vs all)
    ∙ ap (λ (us : List Voxel). g v ∷ us)
    (mapped_same f g vs (All-tail (λ u. f u ≡ g u) v vs all))

-- a world with a box in it has a cell, so that its store's side is 4 at least
four_wide : (side : ℕ) (b : Boxed) → FitsAt b.at b.size (2 ^ side / 4) → 2 ≤ side
four_wide zero b fits = absurd (omega (arith, fits.x.0, fits.x.1))
four_wide (suc zero) b fits = absurd (omega (arith, fits.x.0, fits.x.1))
four_wide (suc (suc n)) b fits = omega arith

tinted_same : (side : ℕ) (b : Boxed) (f g : World)
    → FitsAt b.at b.size (2 ^ side / 4) → ((c : Cell) → IsInWorld (2 ^ side) c → f c ≡ g c)
    → stored_voxels true side b f ≡ stored_voxels true side b g
tinted_same side b f g fits same =
    let n : ℕ = 2 ^ (side - 2) in
    let wide : 2 ≤ side = four_wide side b fits in
    let four : 2 ^ side ≡ 4 * n = four_quarters side wide in
    let near : FitsAt b.at b.size n =
    subst (λ (k : ℕ). FitsAt b.at b.size k) (quarter_is side (2 ^ side) wide refl) fits
    in
    let all : (q : Cell) → IsInWorld (4 * n) q → f q ≡ g q =
    λ q i. same q (record {
      x = omega (arith, i.x, four);
      y = omega (arith, i.y, four);
      z = omega (arith, i.z, four);
    })
    in
    ap (map (with_tint n f b.at))
    (same_voxels b f g (same_in_box side b f g (box_within side b fits) same))
    ∙ mapped_same (with_tint n f b.at) (with_tint n g b.at) (voxels_of_box b g)
    (All-weaker (IsInsideModel b.size) (λ v. with_tint n f b.at v ≡ with_tint n g b.at v)
    (λ v i. ap (coloured_voxel v) (tint_same n f g (voxel_cell b.at v) (record {
      x = omega (arith, i.x, near.x);
      y = omega (arith, i.y, near.y);
      z = omega (arith, i.z, near.z);
    }) all)) (voxels_of_box b g) (voxels_inside b g))

pub kept_same : (tint : Bool) (side : ℕ) (b : Boxed) (f g : World)
    → FitsAt b.at b.size (side_of_world tint (2 ^ side))
    → ((c : Cell) → IsInWorld (2 ^ side) c → f c ≡ g c)
    → stored_voxels tint side b f ≡ stored_voxels tint side b g
kept_same false side b f g fits same =
    same_voxels b f g (same_in_box side b f g fits same)
kept_same true side b f g fits same = tinted_same side b f g fits same

pub file_same : (tint : Bool) (side : ℕ) (b : Boxed) (f g : World)
    → FitsAt b.at b.size (side_of_world tint (2 ^ side))
    → ((c : Cell) → IsInWorld (2 ^ side) c → f c ≡ g c)
    → stored_file tint side b f ≡ stored_file tint side b g
file_same tint side b f g fits same =
    ap (λ (voxels : List Voxel). model_file (record { size = b.size; voxels = voxels }))
    (kept_same tint side b f g fits same)

-- ---- voxels that a file can hold

mapped_long : (f : Voxel → Voxel) (vs : List Voxel) → length (map f vs) ≡ length vs
mapped_long f [] = refl
mapped_long f (v ∷ vs) = (let rest = mapped_long f vs in omega arith)

kept_inside : (tint : Bool) (side : ℕ) (b : Boxed) (cells : World)
    → All (IsInsideModel b.size) (stored_voxels tint side b cells)
kept_inside false side b cells = voxels_inside b cells
kept_inside true side b cells =
    All-map (IsInsideModel b.size) (with_tint (2 ^ (side - 2)) cells b.at) (voxels_of_box b cells)
    (All-weaker (IsInsideModel b.size)
    (λ v. IsInsideModel b.size (with_tint (2 ^ (side - 2)) cells b.at v))
    (λ v i. record { x = i.x; y = i.y; z = i.z }) (voxels_of_box b cells) (voxels_inside b cells))

kept_long : (tint : Bool) (side : ℕ) (b : Boxed) (cells : World)
    → length (stored_voxels tint side b cells) ≡ length (voxels_of_box b cells)
kept_long false side b cells = refl
kept_long true side b cells =
    mapped_long (with_tint (2 ^ (side - 2)) cells b.at) (voxels_of_box b cells)

-- a box of the world has a model's size
pub kept_size : (tint : Bool) (side : ℕ) (b : Boxed)
    → FitsAt b.at b.size (side_of_world tint (2 ^ side))
    → (b.size.x ≤ 256) × (b.size.y ≤ 256) × (b.size.z ≤ 256) → IsSize b.size
kept_size tint side b fits small = is_size (side_of_world tint (2 ^ side)) b fits small

module _ (tint : Bool) (held : List Tree) (side : ℕ) (root : Option Name) (b : Boxed)
    (voxels : List Voxel)
    (told : ForWorld held side root (λ cells. voxels ≡ [] ++ stored_voxels tint side b cells)) where
  pub told_inside : HoldsRoot held side root → All (IsInsideModel b.size) voxels
  told_inside holds =
      let block = root_block held side root holds in
      subst (λ (vs : List Voxel). All (IsInsideModel b.size) vs)
      (sym (told block.tree block.is_block))
      (kept_inside tint side b (cells_of (side - 2) (shape_of block.tree)))

  pub told_few : HoldsRoot held side root
      → (b.size.x ≤ 256) × (b.size.y ≤ 256) × (b.size.z ≤ 256) → length voxels ≤ 2 ^ 24
  told_few holds small =
      let block = root_block held side root holds in
      let cells : World = cells_of (side - 2) (shape_of block.tree) in
      let same = ap length (told block.tree block.is_block) in
      let long = kept_long tint side b cells in
      let few = few_voxels b cells small in
      omega (arith, same, long, few)
