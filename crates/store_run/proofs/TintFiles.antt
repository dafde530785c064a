-- The file of a box of a version whose cells have tints.
use Rattle.std.proofs.Common.{◌≡◌, ℕ, ◌+◌, ◌-◌, ◌/◌, ◌^◌, ◌≤◌, Bool, true, Option, List, [], ◌∷◌, ◌++◌, All, length, map, refl, sym, ◌∙◌, ap, subst, arith}
use Rattle.std.specs.Prelude.{Result, Ok, Err, IfOk}
use Rattle.std.specs.declared.vec.Vec.{Vec}
use Rattle.std.proofs.lemmas.List.Elements.{All-head, All-map, All-tail, All-weaker}
use Rattle.vw_cell.specs.declared.boxes.Boxed.{Boxed}
use Rattle.vw_cell.specs.declared.cells.Cell.{Cell}
use Rattle.vw_cell.specs.Counts.{cell_at}
use Rattle.vw_cell.specs.Places.{FitsAt, IsInWorld}
use Rattle.vox_read.specs.declared.voxels.Voxel.{Voxel}
use Rattle.vox_read.specs.Contents.{Content, IsSize, IsInsideModel}
use Rattle.vox_write.specs.Written.{model_file}
use Rattle.history_model.specs.Logs.{Log}
use Rattle.history_model.specs.Moments.{world_has, world_tint}
use Rattle.history_model.specs.Planes.{StoresTints}
use Rattle.history_model.specs.Worlds.{World}
use Rattle.history_model.proofs.MarkLaws.{whole_again}
use Rattle.node_words.specs.declared.shapes.names.Name.{Name}
use Rattle.node_words.specs.shapes.Tree.{Tree, shape_of}
use Rattle.node_words.specs.descent.Roots.{ForWorld, HoldsRoot, cells_of}
use Rattle.node_words.proofs.OfDescent.BlockLaws.{root_block as some_block}
use Rattle.edit_walk.specs.cells.Worlds.{ShowsWorld}
use Rattle.extract.specs.Listing.{voxel_if, box_row, box_layer, voxels_of_box}
use Rattle.extract.proofs.SavedLaws.{few_voxels, is_size, voxels_inside}
use Rattle.core_laws.specs.contents.Versions.{HoldsVersion, SameWorld}
use Rattle.core_laws.specs.tints.Planes.{tint_in}
use Rattle.core_laws.proofs.OfTints.TintLaws.{stored_tint}
use Rattle.act_rebuilds.specs.Reading.{tinted_voxels, voxel_cell, with_tint}
use Rattle.act_rebuilds.proofs.OfQuestions.RootTells.{root_block, root_same}
use Rattle.act_rebuilds.proofs.OfQuestions.PlaneTells.{here, kept_here}
use Rattle.act_rebuilds.proofs.OfQuestions.TintTells.{quarter_same}
use Rattle.one_store.specs.Known.{stored_root}
use Rattle.store_run.specs.declared.stored_versions.Versions.{Versions}
use Rattle.store_run.specs.Kept.{log_of, stored_of, world_of, tints_of, AreStoredVersions, HoldsTree}
use Rattle.store_run.specs.Steps.{StayVersions}
use Rattle.store_run.specs.TintFiles.{file_of_tints, file_of_kept_tints, with_its_tint}
use Rattle.store_run.specs.Worlds.{WorldState, world_state, AreStoredAtRest}
use Rattle.store_run.proofs.Files.{SameIn, joined-same}
use Rattle.store_run.proofs.KeptWorlds.{keeps_tints, set_tints, small_tints}
use Rattle.store_run.proofs.Rebuilding.{large_tints, share_shows}

-- ---- voxels

same_voxels : (b : Boxed) (f g : World) → SameIn b f g → voxels_of_box b f ≡ voxels_of_box b g
same_voxels b f g same =
    joined-same b.size.z (box_layer f b) (box_layer g b) (λ z of_z.
    joined-same b.size.y (λ y. box_row f b z y b.size.x) (λ y. box_row g b z y b.size.x) (λ y of_y.
    joined-same b.size.x _ _ (λ x of_x.
    ap (λ (set : Bool). voxel_if set (0 + x) y z) (same x y z of_x of_y of_z))))

pub mapped_same : {X : Type 0} (f g : Voxel → X) (vs : List Voxel) → All (λ v. f v ≡ g v) vs
    → map f vs ≡ map g vs
mapped_same f g [] all = refl
mapped_same {X} f g (v ∷ vs) all =
    ap (λ (u : X). u ∷ map f vs) (All-head (λ u. f u ≡ g u) v vs all)
    ∙ ap (λ (us : List X). g v ∷ us)
    (mapped_same f g vs (All-tail (λ u. f u ≡ g u) v vs all))

mapped_long : (f : Voxel → Voxel) (vs : List Voxel) → length (map f vs) ≡ length vs
mapped_long f [] = refl
mapped_long f (v ∷ vs) = (let rest = mapped_long f vs in omega arith)

abbrev coloured_voxel : Voxel → ℕ → Voxel
coloured_voxel v c = record { x = v.x; y = v.y; z = v.z; colour = c }

kept_inside : (n : ℕ) (b : Boxed) (cells : World)
    → All (IsInsideModel b.size) (tinted_voxels n b cells)
kept_inside n b cells =
    All-map (IsInsideModel b.size) (with_tint n cells b.at) (voxels_of_box b cells)
    (All-weaker (IsInsideModel b.size)
    (λ v. IsInsideModel b.size (with_tint n cells b.at v))
    (λ v i. record { x = i.x; y = i.y; z = i.z }) (voxels_of_box b cells) (voxels_inside b cells))

-- a box of the world has a model's size
pub is_tint_size : (side : ℕ) (b : Boxed) → FitsAt b.at b.size (2 ^ (side - 2))
    → (b.size.x ≤ 256) × (b.size.y ≤ 256) × (b.size.z ≤ 256) → IsSize b.size
is_tint_size side b fits small = is_size (2 ^ (side - 2)) b fits small

module _ (held : List Tree) (side : ℕ) (root : Option Name) (b : Boxed) (voxels : List Voxel)
    (told : ForWorld held side root
    (λ cells. voxels ≡ [] ++ tinted_voxels (2 ^ (side - 2)) b cells)) where
  pub tints_inside : HoldsRoot held side root → All (IsInsideModel b.size) voxels
  tints_inside holds =
      let block = some_block held side root holds in
      subst (λ (vs : List Voxel). All (IsInsideModel b.size) vs)
      (sym (told block.tree block.is_block))
      (kept_inside (2 ^ (side - 2)) b (cells_of (side - 2) (shape_of block.tree)))

  pub tints_few : HoldsRoot held side root
      → (b.size.x ≤ 256) × (b.size.y ≤ 256) × (b.size.z ≤ 256) → length voxels ≤ 2 ^ 24
  tints_few holds small =
      let block = some_block held side root holds in
      let cells : World = cells_of (side - 2) (shape_of block.tree) in
      let same = ap length (told block.tree block.is_block) in
      let long = mapped_long (with_tint (2 ^ (side - 2)) cells b.at) (voxels_of_box b cells) in
      let few = few_voxels b cells small in
      omega (arith, same, long, few)

  pub told_tints : (file : List ℕ)
      → file ≡ [] ++ model_file (record { size = b.size; voxels = voxels })
      → ForWorld held side root (λ cells. file ≡ file_of_kept_tints side b cells)
  told_tints file is t block = is
      ∙ ap (λ (vs : List Voxel). model_file (record { size = b.size; voxels = vs })) (told t block)

-- a box of the world lies in a quarter of the store's side
pub box_of_quarter : (v : Versions) (b : Boxed) → AreStoredVersions v → v.models.tint ≡ true
    → FitsAt b.at b.size (2 ^ v.side / 4) → FitsAt b.at b.size (2 ^ (v.side - 2))
box_of_quarter v b are tinted fits =
    subst (λ (n : ℕ). FitsAt b.at b.size n) (quarter_same v.side (large_tints v are tinted)) fits

-- ---- of a version

module _ (v : Versions) (version : ℕ) (base : Option Name) (are : AreStoredVersions v)
    (tinted : v.models.tint ≡ true) (kept : HoldsVersion (log_of v) version)
    (holds : HoldsTree v.store base) (is : base ≡ stored_root v.store.roots version) where
  pub shown : ShowsWorld v.store.told.held (v.side - 2) base (stored_of v version)
  shown = share_shows v version base are kept holds is

  abbrev cells : World
  cells = cells_of (v.side - 2) (shape_of shown.tree)

  abbrev quarter : ℕ
  quarter = 2 ^ v.side / 4

  large : 4 ≤ v.side
  large = large_tints v are tinted

  pub same_root : SameWorld (2 ^ v.side) cells (stored_of v version)
  same_root = root_same v.store.told.held v.side base (stored_of v version) shown

  pub same_cells : SameWorld quarter cells (world_of v version)
  same_cells =
      here quarter (2 ^ v.side) (sym (whole_again v.side large)) cells (stored_of v version)
      (world_of v version) (tints_of v version) same_root (keeps_tints v are tinted version)
      (λ c i. set_tints v are version c)

  pub keeps : StoresTints quarter (tints_of v version) cells
  keeps =
      kept_here quarter (2 ^ v.side) (sym (whole_again v.side large)) cells (stored_of v version)
      (world_of v version) (tints_of v version) same_root (keeps_tints v are tinted version)
      (λ c i. set_tints v are version c)

  -- the tint of a cell is read from its places
  pub kept_tint : (c : Cell) → IsInWorld quarter c
      → tint_in (2 ^ (v.side - 2)) cells c ≡ tints_of v version c
  kept_tint c inside =
      ap (λ (m : ℕ). tint_in m cells c) (sym (quarter_same v.side large))
      ∙ stored_tint quarter (tints_of v version) cells c keeps inside
      (small_tints v are tinted version c)

  module _ (part : Boxed) (fits : FitsAt part.at part.size (2 ^ v.side / 4)) where
    same_box : voxels_of_box part cells ≡ voxels_of_box part (world_of v version)
    same_box =
        same_voxels part cells (world_of v version) (λ x y z of_x of_y of_z.
        same_cells.each (cell_at (part.at.x + x) (part.at.y + y) (part.at.z + z)) (record {
          x = omega (arith, of_x, fits.x);
          y = omega (arith, of_y, fits.y);
          z = omega (arith, of_z, fits.z);
        }))

    same_tint : (w : Voxel) → IsInsideModel part.size w
        → with_tint (2 ^ (v.side - 2)) cells part.at w
        ≡ with_its_tint (tints_of v version) part.at w
    same_tint w inside =
        let c : Cell = voxel_cell part.at w in
        ap (coloured_voxel w) (kept_tint c (record {
          x = omega (arith, inside.x, fits.x);
          y = omega (arith, inside.y, fits.y);
          z = omega (arith, inside.z, fits.z);
        }))

    same_list : tinted_voxels (2 ^ (v.side - 2)) part cells
        ≡ map (with_its_tint (tints_of v version) part.at) (voxels_of_box part (world_of v version))
    same_list =
        mapped_same (with_tint (2 ^ (v.side - 2)) cells part.at)
        (with_its_tint (tints_of v version) part.at) (voxels_of_box part cells)
        (All-weaker (IsInsideModel part.size)
        (λ w. with_tint (2 ^ (v.side - 2)) cells part.at w
        ≡ with_its_tint (tints_of v version) part.at w)
        same_tint (voxels_of_box part cells) (voxels_inside part cells))
        ∙ ap (map (with_its_tint (tints_of v version) part.at)) same_box

    pub root_tinted : {E Z : Type 0} (result : Result (Vec ℕ Z) E)
        → IfOk result (λ file. ForWorld v.store.told.held v.side base
        (λ cs. file.items ≡ file_of_kept_tints v.side part cs))
        → IfOk result (λ file. file.items
        ≡ file_of_tints part (world_of v version) (tints_of v version))
    root_tinted (Err e) told = tt
    root_tinted (Ok file) told =
        told shown.tree (root_block v.store.told.held v.side base (stored_of v version) shown)
        ∙ ap (λ (vs : List Voxel). model_file (record { size = part.size; voxels = vs })) same_list

pub tints_still : {E Z : Type 0} (a v : Versions) (version : ℕ) (part : Boxed)
    (result : Result (Vec ℕ Z) E) → StayVersions a v
    → IfOk result (λ file. file.items
    ≡ file_of_tints part (world_of v version) (tints_of v version))
    → IfOk result (λ file. file.items
    ≡ file_of_tints part (world_of a version) (tints_of a version))
tints_still {E} {Z} a v version part result stay told =
    subst (λ (l : Log). IfOk result (λ file. file.items ≡ file_of_tints part
    (world_has a.models.models l.records version)
    (world_tint a.models.models l.records version))) stay.log
    (subst (λ (ms : List Content). IfOk result (λ file. file.items ≡ file_of_tints part
    (world_has ms v.records.items version) (world_tint ms v.records.items version)))
    stay.models told)

-- ---- of a world that stands open

pub rests_tinted : (v : Versions) (s : WorldState) → world_state v ≡ s → s.log.coloured ≡ true
    → v.models.tint ≡ true
rests_tinted v s is tinted = ap (λ (t : WorldState). t.log.coloured) is ∙ tinted

pub part_here : (v : Versions) (s : WorldState) (part : Boxed) → world_state v ≡ s
    → AreStoredAtRest v → FitsAt part.at part.size (2 ^ s.plan.side / 4)
    → FitsAt part.at part.size (2 ^ v.side / 4)
part_here v s part is rest fits =
    subst (λ (l : ℕ). FitsAt part.at part.size (2 ^ l / 4)) (sym rest.are.side)
    (subst (λ (t : WorldState). FitsAt part.at part.size (2 ^ t.plan.side / 4)) (sym is) fits)
