-- The worlds that the stores of versions keep: where cells have tints, those of a quarter of the
-- side, and else of the store's own.
use Rattle.std.proofs.Common.{◌≡◌, ℕ, ◌*◌, ◌/◌, ◌^◌, ◌<◌, ◌≤◌, Bool, true, false, All, refl, sym, ◌∙◌, ap, subst, arith}
use Rattle.vw_cell.specs.Sums.{one_if}
use Rattle.vw_cell.specs.declared.cells.Cell.{Cell}
use Rattle.vw_cell.specs.Places.{IsInWorld}
use Rattle.history_model.specs.declared.acts.Act.{Act}
use Rattle.history_model.specs.declared.acts.Act.TheVariants.{Fill, Erase, Ball, Carve, Copy, Stamp, Tint, Undo, Redo}
use Rattle.history_model.specs.Logs.{FitsWorld, IsPlain, side_of_world, suits_tints}
use Rattle.history_model.specs.Planes.{StoresTints, tells}
use Rattle.history_model.specs.Stores.{stored_in}
use Rattle.history_model.specs.Tints.{SameTints}
use Rattle.history_model.specs.Worlds.{World, is_edit}
use Rattle.history_model.proofs.MarkLaws.{whole_again}
use Rattle.core_laws.specs.contents.Versions.{SameWorld}
use Rattle.act_rebuilds.specs.Drawn.{HaveTints}
use Rattle.core_laws.proofs.OfTints.AgreeLaws.{stored_same, tints_same}
use Rattle.core_laws.proofs.OfTints.TintBounds.{versions_small}
use Rattle.core_laws.proofs.OfTints.VersionLaws.{versions_plain, versions_plainly_tinted, versions_set, versions_stored}
use Rattle.store_run.specs.declared.stored_versions.Versions.{Versions}
use Rattle.store_run.specs.Kept.{plan_of, log_of, stored_of, world_of, tints_of, AreStoredVersions, AreVersions, IsLargeStore}
use Rattle.store_run.specs.Steps.{side_of}

-- an undo and a redo suit each history
pub way_suits : (tint : Bool) (act : Act) → is_edit act ≡ false → suits_tints tint act ≡ true
way_suits tint (Fill b) other = absurd (let no : ⊥ = cc in no)
way_suits tint (Erase b) other = absurd (let no : ⊥ = cc in no)
way_suits tint (Ball b) other = absurd (let no : ⊥ = cc in no)
way_suits tint (Carve b) other = absurd (let no : ⊥ = cc in no)
way_suits tint (Copy b to) other = absurd (let no : ⊥ = cc in no)
way_suits tint (Stamp m at) other = absurd (let no : ⊥ = cc in no)
way_suits tint (Tint t) other = absurd (let no : ⊥ = cc in no)
way_suits tint Undo other = refl
way_suits tint Redo other = refl

-- ---- versions without tints

-- their history is a plain one
pub plain_acts : (v : Versions) → AreStoredVersions v → v.models.tint ≡ false → IsPlain (log_of v)
plain_acts v are plain = record {
  coloured = plain;
  acts = subst
      (λ (b : Bool). All (λ r. suits_tints b r.act ≡ true) v.records.items) plain are.suits;
}

pub plain_log : (v : Versions) → AreVersions v → IsPlain (log_of v)
plain_log v are = plain_acts v are.stored are.plain

-- and the store has the cells of the world
pub stored_plainly : (v : Versions) → IsPlain (log_of v) → (version : ℕ)
    → stored_of v version ≡ world_of v version
stored_plainly v plain version = λ i p. versions_plain v.models.models (log_of v) plain version p i

-- as the store's laws speak of them
pub store_plainly : (v : Versions) → AreVersions v → (version : ℕ)
    → stored_in (2 ^ (plan_of v).side) v.models.models v.records.items version ≡ world_of v version
store_plainly v are version =
    ap (λ (l : ℕ). stored_in (2 ^ l) v.models.models v.records.items version) (sym are.stored.side)
    ∙ stored_plainly v (plain_log v are) version

-- ---- versions with tints

fit_here : (v : Versions) → AreStoredVersions v
    → All (λ r. FitsWorld (2 ^ v.side) v.models.models r.act) v.records.items
fit_here v are =
    subst (λ (l : ℕ). All (λ r. FitsWorld (2 ^ l) v.models.models r.act) v.records.items)
    (sym are.side) are.sound.legal.fit

pub keeps_tints : (v : Versions) → AreStoredVersions v → v.models.tint ≡ true → (version : ℕ)
    → StoresTints (2 ^ v.side / 4) (tints_of v version) (stored_of v version)
keeps_tints v are tinted version =
    versions_stored v.models.models (log_of v) tinted are.suits (fit_here v are) version

pub small_tints : (v : Versions) → AreStoredVersions v → v.models.tint ≡ true
    → (version : ℕ) (c : Cell)
    → tints_of v version c < 2 ^ 8
small_tints v are tinted version c =
    versions_small (2 ^ v.side) v.models.models v.records.items
    (subst (λ (b : Bool). HaveTints b v.models.models) tinted are.colours)
    (fit_here v are) version c

pub set_tints : (v : Versions) → AreStoredVersions v → (version : ℕ) (c : Cell)
    → tells 0 (tints_of v version c) ≡ world_of v version c
set_tints v are version c =
    versions_set (2 ^ v.side) v.models.models v.records.items (fit_here v are) version c

-- ---- two versions have the same tints exactly where the store has the same cells

same_bit : (a b : Bool) → one_if a ≡ one_if b → a ≡ b
same_bit true true e = refl
same_bit false false e = refl
same_bit true false e = absurd (omega arith)
same_bit false true e = absurd (omega arith)

module _ (v : Versions) (a b : ℕ) (are : AreStoredVersions v) where
  module _ (plain : v.models.tint ≡ false) where
    of_plain : IsPlain (log_of v)
    of_plain = plain_acts v are plain

    ones : (n : ℕ) (c : Cell) → tints_of v n c ≡ one_if (stored_of v n c)
    ones n c =
        versions_plainly_tinted v.models.models (log_of v) of_plain n c
        ∙ ap (λ (w : World). one_if (w c)) (sym (stored_plainly v of_plain n))

    tints_plainly : SameWorld (2 ^ v.side) (stored_of v a) (stored_of v b)
        → SameTints (2 ^ v.side) (tints_of v a) (tints_of v b)
    tints_plainly same = record {
      each = λ c i. ones a c ∙ ap one_if (same.each c i) ∙ sym (ones b c);
    }

    cells_plainly : SameTints (2 ^ v.side) (tints_of v a) (tints_of v b)
        → SameWorld (2 ^ v.side) (stored_of v a) (stored_of v b)
    cells_plainly same = record {
      each = λ c i.
          same_bit (stored_of v a c) (stored_of v b c) (sym (ones a c) ∙ same.each c i ∙ ones b c);
    }

  module _ (tinted : v.models.tint ≡ true) where
    abbrev quarter : ℕ
    quarter = 2 ^ v.side / 4

    again : 4 * quarter ≡ 2 ^ v.side
    again =
        whole_again v.side (subst (λ (l : ℕ). 4 ≤ l) (sym are.side)
        (subst (λ (t : Bool). IsLargeStore t (plan_of v).side) tinted are.large))

    tints_coloured : SameWorld (2 ^ v.side) (stored_of v a) (stored_of v b)
        → SameTints quarter (tints_of v a) (tints_of v b)
    tints_coloured same = record {
      each = λ c i.
          tints_same quarter (tints_of v a) (tints_of v b) (stored_of v a) (stored_of v b)
          (keeps_tints v are tinted a) (keeps_tints v are tinted b)
          (λ q j. same.each q (subst (λ (n : ℕ). IsInWorld n q) again j)) c i
          (small_tints v are tinted a c) (small_tints v are tinted b c);
    }

    cells_coloured : SameTints quarter (tints_of v a) (tints_of v b)
        → SameWorld (2 ^ v.side) (stored_of v a) (stored_of v b)
    cells_coloured same = record {
      each = λ q j.
          stored_same quarter (tints_of v a) (tints_of v b) (stored_of v a) (stored_of v b)
          (keeps_tints v are tinted a) (keeps_tints v are tinted b) (λ c i. same.each c i) q
          (subst (λ (n : ℕ). IsInWorld n q) (sym again) j);
    }

  -- of a store of the plan's side, as the store's laws speak of it
  abbrev SameStored : ℕ → Type 0
  SameStored side =
      SameWorld (2 ^ side) (stored_in (2 ^ side) v.models.models v.records.items a)
      (stored_in (2 ^ side) v.models.models v.records.items b)

  abbrev SameHere : Bool → Type 0
  SameHere tint = SameTints (side_of_world tint (2 ^ v.side)) (tints_of v a) (tints_of v b)

  pub tints_by_cells : SameStored (plan_of v).side
      → SameTints (side_of v) (tints_of v a) (tints_of v b)
  tints_by_cells same = go v.models.tint refl
    where
      here : SameStored v.side
      here = subst SameStored (sym are.side) same

      go : (t : Bool) → v.models.tint ≡ t → SameHere v.models.tint
      go true e = subst SameHere (sym e) (tints_coloured e here)
      go false e = subst SameHere (sym e) (tints_plainly e here)

  pub cells_by_tints : SameTints (side_of v) (tints_of v a) (tints_of v b)
      → SameStored (plan_of v).side
  cells_by_tints same = subst SameStored are.side (go v.models.tint refl)
    where
      go : (t : Bool) → v.models.tint ≡ t → SameStored v.side
      go true e = cells_coloured e (subst SameHere e same)
      go false e = cells_plainly e (subst SameHere e same)

-- the same of the cells of worlds without tints
module _ (v : Versions) (a b : ℕ) (are : AreVersions v) where
  pub same_in_world : SameStored v a b are.stored (plan_of v).side
      → SameWorld (2 ^ (plan_of v).side) (world_of v a) (world_of v b)
  same_in_world same =
      subst (λ (w : World). SameWorld (2 ^ (plan_of v).side) w (world_of v b))
      (store_plainly v are a)
      (subst (λ (w : World). SameWorld (2 ^ (plan_of v).side) (stored_in (2 ^ (plan_of v).side)
      v.models.models v.records.items a) w) (store_plainly v are b) same)

  pub same_in_store : SameWorld (2 ^ (plan_of v).side) (world_of v a) (world_of v b)
      → SameStored v a b are.stored (plan_of v).side
  same_in_store same =
      subst (λ (w : World). SameWorld (2 ^ (plan_of v).side) w (stored_in (2 ^ (plan_of v).side)
      v.models.models v.records.items b)) (sym (store_plainly v are a))
      (subst (λ (w : World). SameWorld (2 ^ (plan_of v).side) (world_of v a) w)
      (sym (store_plainly v are b)) same)
