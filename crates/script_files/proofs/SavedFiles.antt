-- The file that is made of a store's cells is that of the world that the store keeps.
use Rattle.std.proofs.Common.{◌≡◌, ℕ, ◌+◌, ◌-◌, ◌/◌, ◌<◌, ◌≤◌, ◌^◌, Bool, true, false, List, [], ◌∷◌, length, map, refl, ap, sym, subst, ◌∙◌, arith}
use Rattle.std.specs.Prelude.{All}
use Rattle.std.proofs.lemmas.List.Elements.{All-head, All-tail}
use Rattle.vw_cell.specs.declared.boxes.Boxed.{Boxed}
use Rattle.vw_cell.specs.declared.cells.Cell.{Cell}
use Rattle.vw_cell.specs.Counts.{cell_at}
use Rattle.vw_cell.specs.Places.{FitsAt, IsInWorld}
use Rattle.vox_read.specs.declared.voxels.Voxel.{Voxel}
use Rattle.vox_read.specs.Contents.{Content, IsInsideModel}
use Rattle.vox_write.specs.Written.{model_file}
use Rattle.history_model.specs.Logs.{Log, FitsWorld, IsPlain, side_of_world, suits_tints}
use Rattle.history_model.specs.Moments.{world_has, world_tint}
use Rattle.history_model.specs.Stores.{store_has}
use Rattle.history_model.specs.Tints.{Tints}
use Rattle.history_model.specs.Worlds.{World}
use Rattle.node_words.specs.Plans.{Layout}
use Rattle.extract.specs.Listing.{voxel_if, box_row, box_layer, voxels_of_box}
use Rattle.extract.specs.Saved.{file_of_box}
use Rattle.extract.proofs.ListingLaws.{joined-same}
use Rattle.extract.proofs.SavedLaws.{voxels_inside}
use Rattle.world_run.specs.Reading.{tinted_voxels, with_tint}
use Rattle.world_run.proofs.Quarters.{quarter_is}
use Rattle.core_laws.proofs.OfTints.TintLaws.{stored_tint}
use Rattle.core_laws.proofs.OfTints.VersionLaws.{versions_plain, versions_stored}
use Rattle.vox_scene.proofs.Ends.{same_exponent}
use Rattle.script.specs.Fitting.{SaveFits}
use Rattle.conformance.specs.declared.saves.SavedBox.{SavedBox}
use Rattle.conformance.specs.Answers.{ExtendsLog}
use Rattle.conformance.proofs.GoingOn.{tints_stay, world_stays}
use Rattle.conformance.specs.sessions.LoggedSaves.{logged_at}
use Rattle.conformance.specs.sessions.SessionViews.{SuitsWorld, log_as}
use Rattle.conformance.proofs.OfSessions.SuitLaws.{store_keeps}
use Rattle.core_laws.proofs.OfTints.TintBounds.{versions_small}
use Rattle.world_run.specs.Roots.{stored_file}
use Rattle.world_run.specs.Open.{file_of_save}
use Rattle.script_files.specs.Requests.{save_file}
use Rattle.script_files.specs.TintFiles.{file_of_tints, with_its_tint}

-- ---- the voxels of a box

-- they hang on the cells of the box alone
pub voxels_same : (b : Boxed) (v w : Cell → Bool)
    → ((x y z : ℕ) → x < b.size.x → y < b.size.y → z < b.size.z
    → v (cell_at (b.at.x + x) (b.at.y + y) (b.at.z + z))
    ≡ w (cell_at (b.at.x + x) (b.at.y + y) (b.at.z + z)))
    → voxels_of_box b v ≡ voxels_of_box b w
voxels_same b v w same =
    joined-same b.size.z (box_layer v b) (box_layer w b) (λ z of_z.
    joined-same b.size.y (λ y. box_row v b z y b.size.x) (λ y. box_row w b z y b.size.x) (λ y of_y.
    joined-same b.size.x _ _ (λ x of_x.
    ap (λ (set : Bool). voxel_if set (0 + x) y z) (same x y z of_x of_y of_z))))

-- the same of each item
map_same : {X Y : Type 0} (P : X → Type 0) (f g : X → Y) → ((x : X) → P x → f x ≡ g x)
    → (xs : List X) → All P xs → map f xs ≡ map g xs
map_same P f g same [] all = refl
map_same P f g same (x ∷ xs) all = λ i.
    same x (All-head P x xs all) i ∷ map_same P f g same xs (All-tail P x xs all) i

-- ---- a coloured history

module _ (p : Layout) (models : List Content) (log : Log) (suits : SuitsWorld true p models log)
    (v : ℕ) (b : Boxed) (fits : FitsAt b.at b.size (2 ^ log.side / 4)) where
  abbrev quarter : ℕ
  quarter = 2 ^ log.side / 4

  abbrev cells : World
  cells = store_has models log v

  abbrev here : World
  here = world_has models log.records v

  abbrev tints : Tints
  tints = world_tint models log.records v

  fit_here : All (λ r. FitsWorld (2 ^ log.side) models r.act) log.records
  fit_here =
      subst (λ (n : ℕ). All (λ r. FitsWorld n models r.act) log.records) (sym suits.keeps.side)
      suits.keeps.fit

  place_inside : (x y z : ℕ) → x < b.size.x → y < b.size.y → z < b.size.z
      → IsInWorld quarter (cell_at (b.at.x + x) (b.at.y + y) (b.at.z + z))
  place_inside x y z of_x of_y of_z = record {
    x = omega (arith, fits.x, of_x);
    y = omega (arith, fits.y, of_y);
    z = omega (arith, fits.z, of_z);
  }

  same_voxels : voxels_of_box b cells ≡ voxels_of_box b here
  same_voxels = voxels_same b cells here (λ x y z of_x of_y of_z.
      store_keeps true p models log suits v
      (cell_at (b.at.x + x) (b.at.y + y) (b.at.z + z)) (place_inside x y z of_x of_y of_z))

  same_colour : (w : Voxel) → IsInsideModel b.size w
      → with_tint quarter cells b.at w ≡ with_its_tint tints b.at w
  same_colour w inside =
      let c : Cell = cell_at (b.at.x + w.x) (b.at.y + w.y) (b.at.z + w.z) in
      ap (λ (n : ℕ). record { x = w.x; y = w.y; z = w.z; colour = n })
      (stored_tint quarter tints cells c
      (versions_stored models log suits.coloured suits.acts fit_here v)
      (place_inside w.x w.y w.z inside.x inside.y inside.z)
      (versions_small (2 ^ p.side) models log.records suits.keeps.can.colours suits.keeps.fit v c))

  tinted_same : tinted_voxels quarter b cells
      ≡ map (with_its_tint tints b.at) (voxels_of_box b here)
  tinted_same =
      map_same (IsInsideModel b.size) (with_tint quarter cells b.at) (with_its_tint tints b.at)
      same_colour (voxels_of_box b cells) (voxels_inside b cells)
      ∙ ap (map (with_its_tint tints b.at)) same_voxels

  quarter_same : 2 ^ log.side / 4 ≡ 2 ^ (log.side - 2)
  quarter_same =
      let exponent : log.side ≡ p.side = same_exponent log.side p.side suits.keeps.side in
      let large = suits.keeps.can.large in
      quarter_is log.side (2 ^ log.side) (omega (arith, exponent, large)) refl

  pub tinted_file : stored_file true log.side b cells ≡ file_of_tints b here tints
  tinted_file =
      ap (λ (n : ℕ). model_file (record { size = b.size; voxels = tinted_voxels n b cells }))
      (sym quarter_same)
      ∙ ap (λ (vs : List Voxel). model_file (record { size = b.size; voxels = vs })) tinted_same

-- ---- what sessions saved

-- the save fits the world
abbrev pub IsGood : Bool → Layout → SavedBox → Type 0
IsGood tint p save = SaveFits (side_of_world tint (2 ^ p.side)) save.name save.part

plain_acts : (p : Layout) (models : List Content) (log : Log) → SuitsWorld false p models log
    → IsPlain log
plain_acts p models log suits = record {
  coloured = suits.coloured;
  acts = subst (λ (c : Bool). All (λ r. suits_tints c r.act ≡ true) log.records) suits.coloured
      suits.acts;
}

-- the file of a save as its session saw the store is that of the save in the world of the history
pub save_same : (tint : Bool) (p : Layout) (models : List Content) (log : Log) (save : SavedBox)
    (s : Log) → SuitsWorld tint p models (log_as tint s) → ExtendsLog (log_as tint s) log
    → save.version ≤ length s.records → IsGood tint p save
    → file_of_save tint models (logged_at s save) ≡ save_file tint models (logged_at log save)
save_same false p models log save s suits g le good =
    let plain = plain_acts p models (log_as false s) suits in
    let cells : store_has models s save.version ≡ world_has models s.records save.version =
    λ i c. versions_plain models (log_as false s) plain save.version c i in
    let stays : world_has models log.records save.version
    ≡ world_has models s.records save.version =
    world_stays (log_as false s) log g (length s.records) (omega arith) models save.version le in
    ap (file_of_box save.part) (cells ∙ sym stays)
save_same true p models log save s suits g le good =
    let fits : FitsAt save.part.at save.part.size (2 ^ s.side / 4) =
    subst (λ (n : ℕ). FitsAt save.part.at save.part.size (n / 4)) (sym suits.keeps.side) good.inside
    in
    let stays : world_has models log.records save.version
    ≡ world_has models s.records save.version =
    world_stays (log_as true s) log g (length s.records) (omega arith) models save.version le in
    let tinted : world_tint models log.records save.version
    ≡ world_tint models s.records save.version =
    tints_stay (log_as true s) log g (length s.records) (omega arith) models save.version le in
    tinted_file p models (log_as true s) suits save.version save.part fits
    ∙ ap (λ (w : World). file_of_tints save.part w (world_tint models s.records save.version))
    (sym stays)
    ∙ ap (λ (t : Tints). file_of_tints save.part (world_has models log.records save.version) t)
    (sym tinted)
