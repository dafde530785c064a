-- The region of a box of a version, whether cells have tints or not.
use Rattle.std.proofs.Common.{◌≡◌, ℕ, ◌-◌, ◌/◌, ◌^◌, Bool, true, false, Option, refl, sym, subst}
use Rattle.std.specs.Prelude.{Result, Ok, Err, IfOk}
use Rattle.vw_cell.specs.declared.boxes.Boxed.{Boxed}
use Rattle.vw_cell.specs.declared.cells.Cell.{Cell}
use Rattle.vw_cell.specs.Places.{FitsAt}
use Rattle.history_model.specs.Logs.{side_of_world}
use Rattle.node_words.specs.declared.shapes.names.Name.{Name}
use Rattle.node_words.specs.shapes.Tree.{shape_of}
use Rattle.node_words.specs.descent.Roots.{ForWorld, cells_of}
use Rattle.flood.specs.Regions.{FilesRegion}
use Rattle.flood.specs.declared.files.RegionFile.{RegionFile}
use Rattle.core_laws.specs.contents.Versions.{HoldsVersion}
use Rattle.act_rebuilds.proofs.OfQuestions.RootTells.{root_block}
use Rattle.act_rebuilds.proofs.OfQuestions.TintTells.{box_within}
use Rattle.one_store.specs.Known.{stored_root}
use Rattle.store_run.specs.declared.stored_versions.Versions.{Versions}
use Rattle.store_run.specs.Kept.{log_of, stored_of, world_of, AreStoredVersions, HoldsTree}
use Rattle.store_run.specs.Steps.{side_of}
use Rattle.store_run.specs.Worlds.{WorldState, world_state, AreStoredAtRest}
use Rattle.store_run.proofs.Seeing.{region_same, root_region}
use Rattle.store_run.proofs.TintFiles.{same_cells, shown}

-- a box of the world lies in the store's side
within : (tint : Bool) (side : ℕ) (b : Boxed)
    → FitsAt b.at b.size (side_of_world tint (2 ^ side)) → FitsAt b.at b.size (2 ^ side)
within true side b fits = box_within side b fits
within false side b fits = fits

pub box_in_store : (v : Versions) (b : Boxed) → FitsAt b.at b.size (side_of v)
    → FitsAt b.at b.size (2 ^ v.side)
box_in_store v b fits = within v.models.tint v.side b fits

pub box_here : (v : Versions) (s : WorldState) (b : Boxed) → world_state v ≡ s
    → AreStoredAtRest v
    → FitsAt b.at b.size (side_of_world s.log.coloured (2 ^ s.plan.side))
    → FitsAt b.at b.size (side_of v)
box_here v s b is rest fits =
    subst (λ (l : ℕ). FitsAt b.at b.size (side_of_world v.models.tint (2 ^ l)))
    (sym rest.are.side)
    (subst (λ (t : WorldState). FitsAt b.at b.size
    (side_of_world t.log.coloured (2 ^ t.plan.side))) (sym is) fits)

-- ---- of a version

module _ {E : Type 0} (v : Versions) (version : ℕ) (base : Option Name) (part : Boxed)
    (from : Cell) (are : AreStoredVersions v) (kept : HoldsVersion (log_of v) version)
    (holds : HoldsTree v.store base) (is : base ≡ stored_root v.store.roots version) where
  abbrev IsTold : Result RegionFile E → Type 0
  IsTold result = IfOk result
      (λ r. ForWorld v.store.told.held v.side base (FilesRegion part from r.cells r.file.items))

  abbrev IsOfWorld : Result RegionFile E → Type 0
  IsOfWorld result = IfOk result (λ r. FilesRegion part from r.cells r.file.items (world_of v version))

  tinted_region : (result : Result RegionFile E) → v.models.tint ≡ true
      → FitsAt part.at part.size (2 ^ v.side / 4) → IsTold result → IsOfWorld result
  tinted_region (Err e) tinted fits told = tt
  tinted_region (Ok r) tinted fits told =
      let whole = shown v version base are tinted kept holds is in
      region_same (2 ^ v.side / 4) (cells_of (v.side - 2) (shape_of whole.tree))
      (world_of v version) (same_cells v version base are tinted kept holds is) part
      from r.cells r.file.items fits
      (told whole.tree (root_block v.store.told.held v.side base (stored_of v version) whole))

  by_kind : (result : Result RegionFile E) (tint : Bool) → v.models.tint ≡ tint
      → FitsAt part.at part.size (side_of_world tint (2 ^ v.side)) → IsTold result
      → IsOfWorld result
  by_kind result true tinted fits told = tinted_region result tinted fits told
  by_kind result false plain fits told =
      root_region v version base part from result (record { stored = are; plain = plain }) kept
      holds is fits told

pub region_of_world : {E : Type 0} (v : Versions) (version : ℕ) (base : Option Name)
    (part : Boxed) (from : Cell) (result : Result RegionFile E) → AreStoredVersions v
    → HoldsVersion (log_of v) version → HoldsTree v.store base
    → base ≡ stored_root v.store.roots version → FitsAt part.at part.size (side_of v)
    → IfOk result
    (λ r. ForWorld v.store.told.held v.side base (FilesRegion part from r.cells r.file.items))
    → IfOk result (λ r. FilesRegion part from r.cells r.file.items (world_of v version))
region_of_world v version base part from result are kept holds is fits told =
    by_kind v version base part from are kept holds is result v.models.tint refl fits told
