-- What can be seen of a box of a version.
use Rattle.std.proofs.Common.{◌≡◌, ℕ, ◌+◌, ◌-◌, ◌^◌, ◌++◌, Bool, true, false, ◌&&◌, not, Option, List, [], ◌∷◌, refl, sym, ◌∙◌, ap, subst, arith}
use Rattle.std.specs.Prelude.{Result, Ok, Err, IfOk, nat_lt}
use Rattle.std.proofs.lemmas.Bool.{ltb-true}
use Rattle.std.specs.declared.vec.Vec.{Vec}
use Rattle.vw_cell.specs.declared.boxes.Boxed.{Boxed}
use Rattle.vw_cell.specs.declared.cells.Cell.{Cell}
use Rattle.vw_cell.specs.declared.directions.Direction.{Direction}
use Rattle.vw_cell.specs.declared.directions.Direction.TheVariants.{LowX, HighX, LowY, HighY, LowZ, HighZ}
use Rattle.vw_cell.specs.Counts.{cell_at}
use Rattle.vw_cell.specs.Faces.{has_next, is_exposed}
use Rattle.vw_cell.specs.Places.{IsInBox, IsInWorld, FitsAt}
use Rattle.vox_read.specs.Contents.{Content}
use Rattle.vox_read.specs.declared.voxels.Voxel.{Voxel}
use Rattle.history_model.specs.Logs.{Log}
use Rattle.history_model.specs.Moments.{world_has}
use Rattle.history_model.specs.Worlds.{World}
use Rattle.node_words.specs.declared.shapes.names.Name.{Name}
use Rattle.node_words.specs.shapes.Tree.{shape_of}
use Rattle.node_words.specs.descent.Roots.{ForWorld, cells_of}
use Rattle.flood.specs.Paths.{IsPath, IsJoined}
use Rattle.flood.specs.Regions.{IsClearIn, FilesRegion}
use Rattle.flood.specs.declared.files.RegionFile.{RegionFile}
use Rattle.extract.specs.Surface.{sides_number, bare_sides_of, voxel_of_sides, row_of_sides, layer_of_sides, surface_of_box}
use Rattle.core_laws.specs.contents.Versions.{HoldsVersion, SameWorld}
use Rattle.one_store.specs.Known.{stored_root}
use Rattle.store_run.specs.declared.stored_versions.Versions.{Versions}
use Rattle.store_run.specs.Kept.{log_of, world_of, AreVersions, HoldsTree}
use Rattle.store_run.specs.Steps.{StayVersions}
use Rattle.store_run.specs.Worlds.{WorldState, world_state}
use Rattle.store_run.proofs.Comparing.{root_cells}
use Rattle.store_run.proofs.Files.{joined-same}

-- ---- worlds with the same cells show the same

-- what counts only where a test passes
where_passed : (test x y : Bool) → (test ≡ true → x ≡ y) → (test && x) ≡ (test && y)
where_passed true x y same = same refl
where_passed false x y same = refl

module _ (side : ℕ) (v w : World) (same : SameWorld side v w) where
  next_same : (d : Direction) (c : Cell) → IsInWorld side c
      → has_next d side v c ≡ has_next d side w c
  next_same LowX c i = where_passed (nat_lt 0 c.x) _ _
      (λ e. let x = i.x in let y = i.y in let z = i.z in same.each (cell_at (c.x - 1) c.y c.z)
      (record { x = omega arith; y = y; z = z }))
  next_same HighX c i = where_passed (nat_lt (c.x + 1) side) _ _
      (λ e. let x = ltb-true (c.x + 1) side e in let y = i.y in let z = i.z in same.each
      (cell_at (c.x + 1) c.y c.z) (record { x = x; y = y; z = z }))
  next_same LowY c i = where_passed (nat_lt 0 c.y) _ _
      (λ e. let x = i.x in let y = i.y in let z = i.z in same.each (cell_at c.x (c.y - 1) c.z)
      (record { x = x; y = omega arith; z = z }))
  next_same HighY c i = where_passed (nat_lt (c.y + 1) side) _ _
      (λ e. let x = i.x in let y = ltb-true (c.y + 1) side e in let z = i.z in same.each
      (cell_at c.x (c.y + 1) c.z) (record { x = x; y = y; z = z }))
  next_same LowZ c i = where_passed (nat_lt 0 c.z) _ _
      (λ e. let x = i.x in let y = i.y in let z = i.z in same.each (cell_at c.x c.y (c.z - 1))
      (record { x = x; y = y; z = omega arith }))
  next_same HighZ c i = where_passed (nat_lt (c.z + 1) side) _ _
      (λ e. let x = i.x in let y = i.y in let z = ltb-true (c.z + 1) side e in same.each
      (cell_at c.x c.y (c.z + 1)) (record { x = x; y = y; z = z }))

  exposed_same : (d : Direction) (c : Cell) → IsInWorld side c
      → is_exposed d side v c ≡ is_exposed d side w c
  exposed_same d c inside =
      ap (λ (set : Bool). set && not (has_next d side v c)) (same.each c inside)
      ∙ ap (λ (next : Bool). w c && not next) (next_same d c inside)

  sides_same : (c : Cell) → IsInWorld side c → bare_sides_of side v c ≡ bare_sides_of side w c
  sides_same c inside = λ i.
      sides_number (exposed_same LowX c inside i) (exposed_same HighX c inside i)
      (exposed_same LowY c inside i) (exposed_same HighY c inside i)
      (exposed_same LowZ c inside i) (exposed_same HighZ c inside i)

  pub surface_same : (b : Boxed) → FitsAt b.at b.size side
      → surface_of_box side v b ≡ surface_of_box side w b
  surface_same b fits =
      joined-same b.size.z (layer_of_sides (bare_sides_of side v) b)
      (layer_of_sides (bare_sides_of side w) b) (λ z of_z.
      joined-same b.size.y (λ y. row_of_sides (bare_sides_of side v) b z y b.size.x)
      (λ y. row_of_sides (bare_sides_of side w) b z y b.size.x) (λ y of_y.
      joined-same b.size.x _ _ (λ x of_x.
      let fx = fits.x in let fy = fits.y in let fz = fits.z in
      ap (λ (sides : ℕ). voxel_of_sides sides x y z)
      (sides_same (cell_at (b.at.x + x) (b.at.y + y) (b.at.z + z))
      (record { x = omega arith; y = omega arith; z = omega arith })))))

-- ---- of a version

pub root_surface : (v : Versions) (version : ℕ) (base : Option Name) (part : Boxed)
    (before : List Voxel) (after : List Voxel) → AreVersions v → HoldsVersion (log_of v) version
    → HoldsTree v.store base → base ≡ stored_root v.store.roots version
    → FitsAt part.at part.size (2 ^ v.side) → before ≡ []
    → ForWorld v.store.told.held v.side base
    (λ cells. after ≡ before ++ surface_of_box (2 ^ v.side) cells part)
    → after ≡ surface_of_box (2 ^ v.side) (world_of v version) part
root_surface v version base part before after are kept holds is fits nothing told =
    let s = root_cells v version base are kept holds is in
    told s.0 s.1
    ∙ ap (λ (first : List Voxel). first
    ++ surface_of_box (2 ^ v.side) (cells_of (v.side - 2) (shape_of s.0)) part) nothing
    ∙ surface_same (2 ^ v.side) (cells_of (v.side - 2) (shape_of s.0)) (world_of v version) s.2
    part fits

-- ---- regions

-- a way through cells is one through what they are among
path_among : (P Q : Cell → Type 0) → ((c : Cell) → P c → Q c) → (a : Cell) (more : List Cell)
    (q : Cell) → IsPath P a more q → IsPath Q a more q
path_among P Q f a [] q p = (f a p.0, p.1)
path_among P Q f a (b ∷ more) q p = (f a p.0, p.1, path_among P Q f b more q p.2)

joined_among : (P Q : Cell → Type 0) → ((c : Cell) → P c → Q c) → (a q : Cell) → IsJoined P a q
    → IsJoined Q a q
joined_among P Q f a q j = record { more = j.more; way = path_among P Q f a j.more q j.way }

pub region_same : (side : ℕ) (v w : World) → SameWorld side v w → (b : Boxed) (from : Cell)
    (number : ℕ) (file : List ℕ) → FitsAt b.at b.size side → FilesRegion b from number file v
    → FilesRegion b from number file w
region_same side v w same b from number file fits files =
    let inside : (c : Cell) → IsInBox b c → IsInWorld side c =
    λ c i. (
    let x = i.x in let y = i.y in let z = i.z in
    let fx = fits.x in let fy = fits.y in let fz = fits.z in
    record { x = omega arith; y = omega arith; z = omega arith }) in
    let there : (c : Cell) → IsClearIn b v c → IsClearIn b w c =
    λ c k. record { inside = k.inside; clear = sym (same.each c (inside c k.inside)) ∙ k.clear } in
    let back : (c : Cell) → IsClearIn b w c → IsClearIn b v c =
    λ c k. record { inside = k.inside; clear = same.each c (inside c k.inside) ∙ k.clear } in
    record {
      region = files.region;
      is_region = record {
        only = λ c is. joined_among (IsClearIn b v) (IsClearIn b w) there from c (files.is_region.only c is);
        all = λ c j. files.is_region.all c (joined_among (IsClearIn b w) (IsClearIn b v) back from c j);
      };
      counted = files.counted;
      filed = files.filed;
    }

pub root_region : {E : Type 0} (v : Versions) (version : ℕ) (base : Option Name) (part : Boxed)
    (from : Cell) (result : Result RegionFile E) → AreVersions v → HoldsVersion (log_of v) version
    → HoldsTree v.store base → base ≡ stored_root v.store.roots version
    → FitsAt part.at part.size (2 ^ v.side)
    → IfOk result
    (λ r. ForWorld v.store.told.held v.side base (FilesRegion part from r.cells r.file.items))
    → IfOk result (λ r. FilesRegion part from r.cells r.file.items (world_of v version))
root_region v version base part from (Err e) are kept holds is fits told = tt
root_region v version base part from (Ok r) are kept holds is fits told =
    let s = root_cells v version base are kept holds is in
    region_same (2 ^ v.side) (cells_of (v.side - 2) (shape_of s.0)) (world_of v version) s.2 part
    from r.cells r.file.items fits (told s.0 s.1)

pub region_still : {E : Type 0} (a v : Versions) (version : ℕ) (part : Boxed) (from : Cell)
    (result : Result RegionFile E) → StayVersions a v
    → IfOk result (λ r. FilesRegion part from r.cells r.file.items (world_of v version))
    → IfOk result (λ r. FilesRegion part from r.cells r.file.items (world_of a version))
region_still a v version part from result stay told =
    subst (λ (l : Log). IfOk result
    (λ r. FilesRegion part from r.cells r.file.items
    (world_has a.models.models l.records version))) stay.log
    (subst (λ (ms : List Content). IfOk result
    (λ r. FilesRegion part from r.cells r.file.items
    (world_has ms v.records.items version))) stay.models told)
