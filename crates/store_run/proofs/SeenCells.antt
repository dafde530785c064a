-- What can be seen of a box of a version, whether cells have tints or not, and the tints of cells
-- that are listed.
use Rattle.std.proofs.Common.{◌≡◌, ℕ, ◌+◌, ◌-◌, ◌/◌, ◌^◌, ◌&&◌, All, Bool, true, false, not, Option, List, [], ◌++◌, map, refl, sym, ◌∙◌, ap, subst, arith}
use Rattle.std.specs.Prelude.{Result, Ok, Err, IfOk}
use Rattle.std.specs.declared.vec.Vec.{Vec}
use Rattle.std.proofs.lemmas.List.Elements.{All-weaker}
use Rattle.vw_cell.specs.declared.boxes.Boxed.{Boxed}
use Rattle.vw_cell.specs.declared.cells.Cell.{Cell}
use Rattle.vw_cell.specs.declared.directions.Direction.{Direction}
use Rattle.vw_cell.specs.declared.directions.Direction.TheVariants.{LowX, HighX, LowY, HighY, LowZ, HighZ}
use Rattle.vw_cell.specs.Counts.{cell_at}
use Rattle.vw_cell.specs.Faces.{has_next, is_exposed}
use Rattle.vw_cell.specs.Places.{IsInWorld, FitsAt}
use Rattle.vox_read.specs.declared.voxels.Voxel.{Voxel}
use Rattle.vox_read.specs.Contents.{Content, IsInsideModel}
use Rattle.history_model.specs.Logs.{Log, side_of_world}
use Rattle.history_model.specs.Moments.{world_has, world_tint}
use Rattle.history_model.specs.Worlds.{World}
use Rattle.history_model.proofs.MarkLaws.{whole_again}
use Rattle.node_words.specs.declared.shapes.names.Name.{Name}
use Rattle.node_words.specs.shapes.Tree.{shape_of}
use Rattle.node_words.specs.descent.Roots.{ForWorld, cells_of}
use Rattle.extract.specs.Surface.{sides_number, bare_sides_of, voxel_of_sides, row_of_sides, layer_of_sides, surface_of_box}
use Rattle.core_laws.specs.contents.Versions.{HoldsVersion}
use Rattle.colour.specs.Reading.{tint_of_voxel, voxel_cell}
use Rattle.act_rebuilds.proofs.OfQuestions.PlaneTells.{next_here}
use Rattle.act_rebuilds.proofs.OfQuestions.RootTells.{root_block}
use Rattle.one_store.specs.Known.{stored_root}
use Rattle.store_run.specs.declared.stored_versions.Versions.{Versions}
use Rattle.store_run.specs.Kept.{log_of, stored_of, world_of, tints_of, AreStoredVersions, HoldsTree}
use Rattle.store_run.specs.Steps.{StayVersions, side_of}
use Rattle.store_run.specs.TintFiles.{its_tint}
use Rattle.store_run.specs.Worlds.{WorldState, world_state}
use Rattle.store_run.proofs.Files.{joined-same}
use Rattle.store_run.proofs.KeptWorlds.{keeps_tints, set_tints}
use Rattle.store_run.proofs.Rebuilding.{large_tints}
use Rattle.store_run.proofs.Seeing.{root_surface}
use Rattle.store_run.proofs.TintFiles.{kept_tint, mapped_same, same_cells, same_root, shown}

-- ---- of a root of a version whose cells have tints

module _ (v : Versions) (version : ℕ) (base : Option Name) (are : AreStoredVersions v)
    (tinted : v.models.tint ≡ true) (kept : HoldsVersion (log_of v) version)
    (holds : HoldsTree v.store base) (is : base ≡ stored_root v.store.roots version) where
  abbrev quarter : ℕ
  quarter = 2 ^ v.side / 4

  abbrev cells : World
  cells = cells_of (v.side - 2) (shape_of (shown v version base are tinted kept holds is).tree)

  next_kept : (d : Direction) (c : Cell) → IsInWorld quarter c
      → has_next d (2 ^ v.side) cells c ≡ has_next d quarter (world_of v version) c
  next_kept d c i =
      next_here quarter (2 ^ v.side) (sym (whole_again v.side (large_tints v are tinted))) cells
      (stored_of v version) (world_of v version) (tints_of v version)
      (same_root v version base are tinted kept holds is) (keeps_tints v are tinted version)
      (λ p j. set_tints v are version p) d c i

  exposed_kept : (d : Direction) (c : Cell) → IsInWorld quarter c
      → is_exposed d (2 ^ v.side) cells c ≡ is_exposed d quarter (world_of v version) c
  exposed_kept d c i =
      ap (λ (set : Bool). set && not (has_next d (2 ^ v.side) cells c))
      ((same_cells v version base are tinted kept holds is).each c i)
      ∙ ap (λ (next : Bool). world_of v version c && not next) (next_kept d c i)

  sides_kept : (c : Cell) → IsInWorld quarter c
      → bare_sides_of (2 ^ v.side) cells c ≡ bare_sides_of quarter (world_of v version) c
  sides_kept c i = λ j.
      sides_number (exposed_kept LowX c i j) (exposed_kept HighX c i j)
      (exposed_kept LowY c i j) (exposed_kept HighY c i j)
      (exposed_kept LowZ c i j) (exposed_kept HighZ c i j)

  module _ (part : Boxed) (fits : FitsAt part.at part.size quarter) where
    surface_kept : surface_of_box (2 ^ v.side) cells part
        ≡ surface_of_box quarter (world_of v version) part
    surface_kept =
        joined-same part.size.z (layer_of_sides (bare_sides_of (2 ^ v.side) cells) part)
        (layer_of_sides (bare_sides_of quarter (world_of v version)) part) (λ z of_z.
        joined-same part.size.y
        (λ y. row_of_sides (bare_sides_of (2 ^ v.side) cells) part z y part.size.x)
        (λ y. row_of_sides (bare_sides_of quarter (world_of v version)) part z y part.size.x)
        (λ y of_y.
        joined-same part.size.x _ _ (λ x of_x.
        ap (λ (sides : ℕ). voxel_of_sides sides x y z)
        (sides_kept (cell_at (part.at.x + x) (part.at.y + y) (part.at.z + z)) (record {
          x = omega (arith, of_x, fits.x.1);
          y = omega (arith, of_y, fits.y.1);
          z = omega (arith, of_z, fits.z.1);
        })))))

    pub tinted_surface : (before after : List Voxel) → before ≡ []
        → ForWorld v.store.told.held v.side base
        (λ cs. after ≡ before ++ surface_of_box (2 ^ v.side) cs part)
        → after ≡ surface_of_box quarter (world_of v version) part
    tinted_surface before after nothing told =
        told (shown v version base are tinted kept holds is).tree
        (root_block v.store.told.held v.side base (stored_of v version)
        (shown v version base are tinted kept holds is))
        ∙ ap (λ (first : List Voxel). first ++ surface_of_box (2 ^ v.side) cells part) nothing
        ∙ surface_kept

    tint_kept : (w : Voxel) → IsInsideModel part.size w
        → tint_of_voxel (2 ^ (v.side - 2)) cells part.at w
        ≡ its_tint (tints_of v version) part.at w
    tint_kept w inside =
        kept_tint v version base are tinted kept holds is (voxel_cell part.at w) (record {
          x = omega (arith, inside.x, fits.x.1);
          y = omega (arith, inside.y, fits.y.1);
          z = omega (arith, inside.z, fits.z.1);
        })

    pub root_tints : {E Z : Type 0} (voxels : List Voxel) (result : Result (Vec ℕ Z) E)
        → All (IsInsideModel part.size) voxels
        → IfOk result (λ tints. ForWorld v.store.told.held v.side base
        (λ cs. tints.items ≡ map (tint_of_voxel (2 ^ (v.side - 2)) cs part.at) voxels))
        → IfOk result
        (λ tints. tints.items ≡ map (its_tint (tints_of v version) part.at) voxels)
    root_tints voxels (Err e) inside told = tt
    root_tints voxels (Ok tints) inside told =
        told (shown v version base are tinted kept holds is).tree
        (root_block v.store.told.held v.side base (stored_of v version)
        (shown v version base are tinted kept holds is))
        ∙ mapped_same (tint_of_voxel (2 ^ (v.side - 2)) cells part.at)
        (its_tint (tints_of v version) part.at) voxels
        (All-weaker (IsInsideModel part.size)
        (λ w. tint_of_voxel (2 ^ (v.side - 2)) cells part.at w
        ≡ its_tint (tints_of v version) part.at w) tint_kept voxels inside)

-- ---- of a root of any version

module _ (v : Versions) (version : ℕ) (base : Option Name) (part : Boxed)
    (before after : List Voxel) (are : AreStoredVersions v)
    (kept : HoldsVersion (log_of v) version) (holds : HoldsTree v.store base)
    (is : base ≡ stored_root v.store.roots version) (nothing : before ≡ [])
    (told : ForWorld v.store.told.held v.side base
    (λ cells. after ≡ before ++ surface_of_box (2 ^ v.side) cells part)) where
  by_kind : (tint : Bool) → v.models.tint ≡ tint
      → FitsAt part.at part.size (side_of_world tint (2 ^ v.side))
      → after ≡ surface_of_box (side_of_world tint (2 ^ v.side)) (world_of v version) part
  by_kind true tinted fits =
      tinted_surface v version base are tinted kept holds is part fits before after nothing told
  by_kind false plain fits =
      root_surface v version base part before after (record { stored = are; plain = plain }) kept
      holds is fits nothing told

  pub root_seen : FitsAt part.at part.size (side_of v)
      → after ≡ surface_of_box (side_of v) (world_of v version) part
  root_seen fits = by_kind v.models.tint refl fits

-- ---- of a world that stands open

pub surface_still : {E Z : Type 0} (a v : Versions) (version : ℕ) (part : Boxed)
    (result : Result (Vec Voxel Z) E) → StayVersions a v
    → IfOk result
    (λ voxels. voxels.items ≡ surface_of_box (side_of v) (world_of v version) part)
    → IfOk result
    (λ voxels. voxels.items ≡ surface_of_box (side_of a) (world_of a version) part)
surface_still {E} {Z} a v version part result stay told =
    subst (λ (l : Log). IfOk result
    (λ voxels. voxels.items ≡ surface_of_box (side_of_world l.coloured (2 ^ l.side))
    (world_has a.models.models l.records version) part)) stay.log
    (subst (λ (ms : List Content). IfOk result
    (λ voxels. voxels.items
    ≡ surface_of_box (side_of v) (world_has ms v.records.items version) part)) stay.models told)

pub surface_told : {E Z : Type 0} (v : Versions) (s : WorldState) (version : ℕ) (part : Boxed)
    (result : Result (Vec Voxel Z) E) → world_state v ≡ s → AreStoredVersions v
    → IfOk result
    (λ voxels. voxels.items ≡ surface_of_box (side_of v) (world_of v version) part)
    → IfOk result
    (λ voxels. voxels.items ≡ surface_of_box (side_of_world s.log.coloured (2 ^ s.plan.side))
    (world_has s.models s.log.records version) part)
surface_told v s version part result is are told =
    subst (λ (t : WorldState). IfOk result
    (λ voxels. voxels.items ≡ surface_of_box (side_of_world t.log.coloured (2 ^ t.plan.side))
    (world_has t.models t.log.records version) part)) is
    (subst (λ (l : ℕ). IfOk result
    (λ voxels. voxels.items
    ≡ surface_of_box (side_of_world v.models.tint (2 ^ l)) (world_of v version) part))
    are.side told)

pub tints_still : {E Z : Type 0} (a v : Versions) (version : ℕ) (part : Boxed)
    (voxels : List Voxel) (result : Result (Vec ℕ Z) E) → StayVersions a v
    → IfOk result (λ tints. tints.items ≡ map (its_tint (tints_of v version) part.at) voxels)
    → IfOk result (λ tints. tints.items ≡ map (its_tint (tints_of a version) part.at) voxels)
tints_still {E} {Z} a v version part voxels result stay told =
    subst (λ (l : Log). IfOk result (λ tints. tints.items
    ≡ map (its_tint (world_tint a.models.models l.records version) part.at) voxels)) stay.log
    (subst (λ (ms : List Content). IfOk result (λ tints. tints.items
    ≡ map (its_tint (world_tint ms v.records.items version) part.at) voxels)) stay.models told)

pub tints_told : {E Z : Type 0} (v : Versions) (s : WorldState) (version : ℕ) (part : Boxed)
    (voxels : List Voxel) (result : Result (Vec ℕ Z) E) → world_state v ≡ s
    → IfOk result (λ tints. tints.items ≡ map (its_tint (tints_of v version) part.at) voxels)
    → IfOk result (λ tints. tints.items
    ≡ map (its_tint (world_tint s.models s.log.records version) part.at) voxels)
tints_told {E} {Z} v s version part voxels result is told =
    subst (λ (t : WorldState). IfOk result (λ tints. tints.items
    ≡ map (its_tint (world_tint t.models t.log.records version) part.at) voxels)) is told
