-- What a world takes whose cells have tints, and one whose cells have none.
use Rattle.std.proofs.Common.{◌≡◌, ◌≢◌, ℕ, ◌/◌, ◌^◌, ◌≤◌, ◌↔◌, Bool, true, false, Option, Some, None, List, refl, sym, ◌∙◌, ap, subst, arith}
use Rattle.std.specs.Prelude.{Result, IfOk, IsSome, IsTrue}
use Rattle.std.specs.List.{slice_get}
use Rattle.std.specs.declared.vec.Vec.{Vec}
use Rattle.std.proofs.lemmas.Bool.{false≢true}
use Rattle.vw_cell.specs.declared.balls.Ball as balls
use Rattle.vw_cell.specs.declared.boxes.Boxed.{Boxed}
use Rattle.vw_cell.specs.declared.cells.Cell.{Cell}
use Rattle.vw_cell.specs.Extents.{IsExtent}
use Rattle.vw_cell.specs.Places.{FitsAt, IsInWorld}
use Rattle.vox_read.specs.Contents.{Content}
use Rattle.history_model.specs.declared.acts.Act.{Act}
use Rattle.history_model.specs.declared.acts.Act.TheVariants.{Fill, Erase, Ball, Carve, Copy, Stamp, Tint, Undo, Redo}
use Rattle.history_model.specs.declared.acts.TintAct.TheVariants as tints
use Rattle.history_model.specs.Logs.{FitsWorld, side_of_world, suits_tints}
use Rattle.history_model.specs.Tints.{IsTint}
use Rattle.core_laws.specs.contents.Versions.{SameWorld}
use Rattle.measure.specs.Changes.{differs}
use Rattle.extract.specs.Saved.{file_of_box}
use Rattle.store_run.specs.TintFiles.{file_of_tints}
use Rattle.voxdag_c.specs.declared.held.worlds.CWorld.{CWorld}
use Rattle.voxdag_c.specs.declared.held.places.CBox.{CBox}
use Rattle.voxdag_c.specs.declared.held.places.CPlace.{CPlace}
use Rattle.voxdag_c.specs.held.Places.{box_of, cell_of_c_place}
use Rattle.voxdag_c.specs.held.Calls.{HasItsModel, WorldChanges, WorldTints, act_here, act_of_kind, cells_of_version, file_by_kind, file_of_version, held_side, store_side, tints_at}

-- ---- a plain act, as a world takes it

suits_kind : (coloured : Bool) (act : Act) → suits_tints false act ≡ true
    → suits_tints coloured (act_of_kind coloured act) ≡ true
suits_kind false act plain = plain
suits_kind true (Fill b) plain = refl
suits_kind true (Erase b) plain = refl
suits_kind true (Ball b) plain = refl
suits_kind true (Carve b) plain = refl
suits_kind true (Copy b to) plain = refl
suits_kind true (Stamp m at) plain = refl
suits_kind true (Tint t) plain = refl
suits_kind true Undo plain = refl
suits_kind true Redo plain = refl

fits_kind : (coloured : Bool) (cells : ℕ) (models : List Content) (act : Act)
    → suits_tints false act ≡ true → FitsWorld (side_of_world coloured cells) models act
    → FitsWorld cells models (act_of_kind coloured act)
fits_kind false cells models act plain fits = fits
fits_kind true cells models (Fill b) plain fits = (fits, (omega arith, omega arith))
fits_kind true cells models (Erase b) plain fits = fits
fits_kind true cells models (Ball b) plain fits = (fits.0, fits.1, (omega arith, omega arith))
fits_kind true cells models (Carve b) plain fits = fits
fits_kind true cells models (Copy b to) plain fits = fits
fits_kind true cells models (Stamp m at) plain fits = fits
fits_kind true cells models (Tint t) plain fits = absurd (false≢true plain)
fits_kind true cells models Undo plain fits = tt
fits_kind true cells models Redo plain fits = tt

lies_kind : (coloured : Bool) (cells : ℕ) (models : List Content) (act : Act)
    → suits_tints false act ≡ true → FitsWorld cells models (act_of_kind coloured act)
    → FitsWorld (side_of_world coloured cells) models act
lies_kind false cells models act plain fits = fits
lies_kind true cells models (Fill b) plain fits = fits.0
lies_kind true cells models (Erase b) plain fits = fits
lies_kind true cells models (Ball b) plain fits = (fits.0, fits.1)
lies_kind true cells models (Carve b) plain fits = fits
lies_kind true cells models (Copy b to) plain fits = fits
lies_kind true cells models (Stamp m at) plain fits = fits
lies_kind true cells models (Tint t) plain fits = absurd (false≢true plain)
lies_kind true cells models Undo plain fits = tt
lies_kind true cells models Redo plain fits = tt

model_kind : (coloured : Bool) (models : List Content) (act : Act)
    → suits_tints false act ≡ true → HasItsModel models act
    → HasItsModel models (act_of_kind coloured act)
model_kind false models act plain has = has
model_kind true models (Fill b) plain has = tt
model_kind true models (Erase b) plain has = tt
model_kind true models (Ball b) plain has = tt
model_kind true models (Carve b) plain has = tt
model_kind true models (Copy b to) plain has = tt
model_kind true models (Stamp m at) plain has = has
model_kind true models (Tint t) plain has = absurd (false≢true plain)
model_kind true models Undo plain has = tt
model_kind true models Redo plain has = tt

no_model_kind : (coloured : Bool) (models : List Content) (number : ℕ) (at : Cell)
    → slice_get models number ≡ None
    → ¬ HasItsModel models (act_of_kind coloured (Stamp number at))
no_model_kind false models number at none there = there none
no_model_kind true models number at none there = there none

module _ (w : CWorld) (tint : Bool) (act made : Act) (is : tint ≡ w.open.log.coloured)
    (same : made ≡ act_of_kind tint act) where
  made_here : made ≡ act_here w act
  made_here = same ∙ ap (λ (c : Bool). act_of_kind c act) is

  pub suits_here : suits_tints false act ≡ true → suits_tints w.open.log.coloured made ≡ true
  suits_here plain =
      ap (suits_tints w.open.log.coloured) made_here ∙ suits_kind w.open.log.coloured act plain

  pub fits_here : suits_tints false act ≡ true → FitsWorld (held_side w) w.open.models act
      → FitsWorld (store_side w) w.open.models made
  fits_here plain fits =
      subst (λ (a : Act). FitsWorld (store_side w) w.open.models a) (sym made_here)
      (fits_kind w.open.log.coloured (store_side w) w.open.models act plain fits)

  pub changed_here : (status : ℕ) (v : CWorld) → WorldChanges w made status v
      → WorldChanges w (act_here w act) status v
  changed_here status v changes =
      subst (λ (a : Act). WorldChanges w a status v) made_here changes

pub copied : (w v : CWorld) (status : ℕ) (part : CBox) (to : CPlace) (b there : Boxed)
    → b ≡ box_of part → there ≡ box_of (record { at = to; size = part.size })
    → WorldChanges w (act_here w (Copy b there.at)) status v
    → WorldChanges w (act_here w (Copy (box_of part) (cell_of_c_place to))) status v
copied w v status part to b there same is changes =
    subst (λ (x : Boxed). WorldChanges w (act_here w (Copy x (cell_of_c_place to))) status v) same
    (subst (λ (x : Boxed). WorldChanges w (act_here w (Copy b x.at)) status v) is changes)

pub outside_here : (w : CWorld) (act : Act) → suits_tints false act ≡ true
    → HasItsModel w.open.models act → ¬ FitsWorld (held_side w) w.open.models act
    → WorldChanges w (act_here w act) 3 w
outside_here w act plain has leaves =
    WorldChanges.outside (model_kind w.open.log.coloured w.open.models act plain has)
    (λ f. leaves (lies_kind w.open.log.coloured (store_side w) w.open.models act plain f))

pub no_model_here : (w : CWorld) (number : ℕ) (at : Cell)
    → slice_get w.open.models number ≡ None → WorldChanges w (act_here w (Stamp number at)) 14 w
no_model_here w number at none =
    WorldChanges.no_model (no_model_kind w.open.log.coloured w.open.models number at none)

-- ---- acts with a tint of their own

module _ (w : CWorld) (is : w.open.log.coloured ≡ true) where
  quarter : (P : ℕ → Type 0) → P (held_side w) → P (store_side w / 4)
  quarter P p = subst (λ (c : Bool). P (side_of_world c (store_side w))) is p

  again : (P : ℕ → Type 0) → P (store_side w / 4) → P (held_side w)
  again P p = subst (λ (c : Bool). P (side_of_world c (store_side w))) (sym is) p

module _ (w : CWorld) (tint t : ℕ) (same : t ≡ tint) (is : w.open.log.coloured ≡ true)
    (good : IsTint tint) where
  good_here : IsTint t
  good_here = subst (λ (n : ℕ). IsTint n) (sym same) good

  pub box_takes : (b : Boxed) → FitsAt b.at b.size (held_side w)
      → FitsWorld (store_side w) w.open.models (Tint (tints.Fill b t))
  box_takes b fits = (quarter w is (λ n. FitsAt b.at b.size n) fits, good_here)

  pub box_tinted : (b part : Boxed) (status : ℕ) (v : CWorld) → b ≡ part
      → WorldChanges w (Tint (tints.Fill b t)) status v
      → WorldTints w (tints.Fill part tint) tint status v
  box_tinted b part status v of changes =
      WorldTints.changes status v is good
      (subst (λ (x : Boxed). WorldChanges w (Tint (tints.Fill x tint)) status v) of
      (subst (λ (n : ℕ). WorldChanges w (Tint (tints.Fill b n)) status v) same changes))

  pub ball_takes : (b : balls.Ball) → IsInWorld (held_side w) b.centre × (b.radius ≤ 4095)
      → FitsWorld (store_side w) w.open.models (Tint (tints.Ball b t))
  ball_takes b fits = (quarter w is (λ n. IsInWorld n b.centre) fits.0, fits.1, good_here)

  pub ball_tinted : (b whole : balls.Ball) (status : ℕ) (v : CWorld) → b ≡ whole
      → WorldChanges w (Tint (tints.Ball b t)) status v
      → WorldTints w (tints.Ball whole tint) tint status v
  ball_tinted b whole status v of changes =
      WorldTints.changes status v is good
      (subst (λ (x : balls.Ball). WorldChanges w (Tint (tints.Ball x tint)) status v) of
      (subst (λ (n : ℕ). WorldChanges w (Tint (tints.Ball b n)) status v) same changes))

module _ (w : CWorld) (tint : ℕ) (is : w.open.log.coloured ≡ true) (good : IsTint tint) where
  pub box_tint_outside : (b : Boxed) → ¬ FitsAt b.at b.size (held_side w)
      → WorldTints w (tints.Fill b tint) tint 3 w
  box_tint_outside b leaves =
      WorldTints.changes 3 w is good
      (WorldChanges.outside tt (λ f. leaves (again w is (λ n. FitsAt b.at b.size n) f.0)))

  pub ball_tint_outside : (b : balls.Ball)
      → ¬ (IsInWorld (held_side w) b.centre × (b.radius ≤ 4095))
      → WorldTints w (tints.Ball b tint) tint 3 w
  ball_tint_outside b leaves =
      WorldTints.changes 3 w is good
      (WorldChanges.outside tt
      (λ f. leaves (again w is (λ n. IsInWorld n b.centre) f.0, f.1)))

-- ---- the other kind of world

pub not_tinted : (w : CWorld) → w.open.log.coloured ≡ false → w.open.log.coloured ≢ true
not_tinted w is tinted = false≢true (sym is ∙ tinted)

-- ---- files

module _ (w : CWorld) (version : ℕ) (part : Boxed) where
  pub tinted_part : w.open.log.coloured ≡ true → FitsAt part.at part.size (held_side w)
      → FitsAt part.at part.size (2 ^ w.open.plan.side / 4)
  tinted_part is fits =
      subst (λ (c : Bool). FitsAt part.at part.size (side_of_world c (store_side w))) is fits

  pub plain_part : w.open.log.coloured ≡ false → FitsAt part.at part.size (held_side w)
      → FitsAt part.at part.size (2 ^ w.open.plan.side)
  plain_part is fits =
      subst (λ (c : Bool). FitsAt part.at part.size (side_of_world c (store_side w))) is fits

  pub tinted_file : {E Z : Type 0} (result : Result (Vec ℕ Z) E) → w.open.log.coloured ≡ true
      → IfOk result (λ file. file.items
      ≡ file_of_tints part (cells_of_version w version) (tints_at w version))
      → IfOk result (λ file. file.items ≡ file_of_version w version part)
  tinted_file {E} {Z} result is told =
      subst (λ (c : Bool). IfOk result (λ file. file.items
      ≡ file_by_kind c part (cells_of_version w version) (tints_at w version))) (sym is) told

  pub plain_file : {E Z : Type 0} (result : Result (Vec ℕ Z) E) → w.open.log.coloured ≡ false
      → IfOk result (λ file. file.items ≡ file_of_box part (cells_of_version w version))
      → IfOk result (λ file. file.items ≡ file_of_version w version part)
  plain_file {E} {Z} result is told =
      subst (λ (c : Bool). IfOk result (λ file. file.items
      ≡ file_by_kind c part (cells_of_version w version) (tints_at w version))) (sym is) told

-- ---- worlds without tints

pub plain_side : (w : CWorld) → w.open.log.coloured ≡ false → held_side w ≡ 2 ^ w.open.plan.side
plain_side w is = ap (λ (c : Bool). side_of_world c (store_side w)) is

pub differs_plain : (w : CWorld) (a b : ℕ) (found : Option Boxed) → w.open.log.coloured ≡ false
    → IsExtent (2 ^ w.open.plan.side) (differs (cells_of_version w a) (cells_of_version w b)) found
    → IsExtent (held_side w) (differs (cells_of_version w a) (cells_of_version w b)) found
differs_plain w a b found is told =
    subst (λ (n : ℕ). IsExtent n (differs (cells_of_version w a) (cells_of_version w b)) found)
    (sym (plain_side w is)) told

-- ---- two versions

pub same_plain : (w : CWorld) (a b : ℕ) (is : Bool)
    → (w.open.log.coloured ≡ false → IsTrue is
    ↔ SameWorld (2 ^ w.open.plan.side) (cells_of_version w a) (cells_of_version w b))
    → w.open.log.coloured ≡ false
    → IsTrue is ↔ SameWorld (held_side w) (cells_of_version w a) (cells_of_version w b)
same_plain w a b is told plain =
    subst (λ (n : ℕ). IsTrue is ↔ SameWorld n (cells_of_version w a) (cells_of_version w b))
    (sym (plain_side w plain)) (told plain)
