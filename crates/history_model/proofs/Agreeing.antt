-- An edit makes the same of stores whose cells are the same.
use Rattle.std.proofs.Common.{◌≡◌, ℕ, zero, suc, ◌+◌, ◌*◌, ◌/◌, ◌%◌, ◌<◌, ◌≤◌, Bool, true, false, List, refl, sym, ◌∙◌, ap, arith, inl, inr}
use Rattle.std.specs.Prelude.{if◌then◌else◌, not, ◌&&◌, ◌||◌}
use Rattle.std.specs.List.{slice_get}
use Rattle.std.proofs.lemmas.Bool.{cases_Bool}
use Rattle.vw_cell.specs.declared.cells.Cell.{Cell}
use Rattle.vw_cell.specs.declared.boxes.Boxed.{Boxed}
use Rattle.vw_cell.specs.Places.{IsInWorld, FitsAt, is_in_box, is_in_ball, half_x, half_y, half_z}
use Rattle.vw_cell.specs.Tests.{is_in_box_tells}
use Rattle.vox_read.specs.Contents.{Content}
use Rattle.history_model.specs.declared.acts.Act.{Act}
use Rattle.history_model.specs.declared.acts.Act.TheVariants.{Fill, Erase, Ball, Carve, Copy, Stamp, Tint, Undo, Redo}
use Rattle.history_model.specs.declared.acts.TintAct.{TintAct}
use Rattle.history_model.specs.declared.acts.TintAct.TheVariants as tints
use Rattle.history_model.specs.Worlds.{World, box_at, less, plus, copied, is_in_stamp}
use Rattle.history_model.specs.Logs.{FitsWorld, TintFits}
use Rattle.history_model.specs.Tints.{Tints, ink_of}
use Rattle.history_model.specs.Planes.{tells, plane_at, cube_at}
use Rattle.history_model.specs.Parts.{in_cube, part, part_number, after_parts}
use Rattle.history_model.specs.Making.{plane_of, part_edit}
use Rattle.history_model.specs.Stores.{edited_in}
use Rattle.history_model.proofs.PartLaws.{part_is, at_cell}

-- the same cells in the world of this side
abbrev pub Agree : ℕ → World → World → Type 0
Agree side v w = (p : Cell) → IsInWorld side p → v p ≡ w p

copied_in : (side : ℕ) (b : Boxed) (to q : Cell) → FitsAt b.at b.size side
    → is_in_box (box_at to b.size) q ≡ true → IsInWorld side (plus b.at (less q to))
copied_in side b to q fits inside =
    let i = is_in_box_tells (box_at to b.size) q inside in
    record {
      x = omega (arith, i.x, fits.x);
      y = omega (arith, i.y, fits.y);
      z = omega (arith, i.z, fits.z);
    }

copied_same : (side : ℕ) (b : Boxed) (to : Cell) (v w : World) → FitsAt b.at b.size side
    → Agree side v w → Agree side (copied b to v) (copied b to w)
copied_same side b to v w fits same q inside = elim (cases_Bool (is_in_box (box_at to b.size) q)) [
  | inl inner ↦ ap (λ (t : Bool). if t then v (plus b.at (less q to)) else v q) inner
      ∙ same (plus b.at (less q to)) (copied_in side b to q fits inner)
      ∙ sym (ap (λ (t : Bool). if t then w (plus b.at (less q to)) else w q) inner)
  | inr outer ↦ ap (λ (t : Bool). if t then v (plus b.at (less q to)) else v q) outer
      ∙ same q inside
      ∙ sym (ap (λ (t : Bool). if t then w (plus b.at (less q to)) else w q) outer)
]

-- ---- one plane

put_same : (b set v w : Bool) → v ≡ w → (if b then set else v) ≡ (if b then set else w)
put_same true set v w same = refl
put_same false set v w same = same

half_same : (n : ℕ) (ink : Tints) (j : ℕ) (half : ℕ) (v w : World) → Agree n v w
    → Agree n (Rattle.history_model.specs.Parts.stamp_half j half ink v)
    (Rattle.history_model.specs.Parts.stamp_half j half ink w)
half_same n ink j zero v w same p inside =
    ap (λ (b : Bool). b && not (tells 0 (ink p))) (same p inside)
half_same n ink j (suc half) v w same p inside =
    ap (λ (b : Bool). tells j (ink p) || b) (same p inside)

stamp_same : (n : ℕ) (ink : Tints) (k : ℕ) (v w : World) → Agree n v w
    → Agree n (Rattle.history_model.specs.Making.stamp_edit ink k v)
    (Rattle.history_model.specs.Making.stamp_edit ink k w)
stamp_same n ink zero v w same p inside = ap (λ (b : Bool). tells 0 (ink p) || b) (same p inside)
stamp_same n ink (suc k) v w same p inside = half_same n ink (suc (k / 2)) (k % 2) v w same p inside

plane_same : (n : ℕ) (models : List Content) (act : TintAct) (k : ℕ) (v w : World)
    → TintFits n models act → Agree n v w
    → Agree n (part_edit (ink_of models act) act k v) (part_edit (ink_of models act) act k w)
plane_same n models (tints.Fill b c) k v w fits same p inside =
    put_same (is_in_box b p) (tells k c) (v p) (w p) (same p inside)
plane_same n models (tints.Erase b) k v w fits same p inside =
    put_same (is_in_box b p) false (v p) (w p) (same p inside)
plane_same n models (tints.Ball ball c) k v w fits same p inside =
    put_same (is_in_ball ball p) (tells k c) (v p) (w p) (same p inside)
plane_same n models (tints.Carve ball) k v w fits same p inside =
    put_same (is_in_ball ball p) false (v p) (w p) (same p inside)
plane_same n models (tints.Copy b to) k v w fits same p inside =
    copied_same n b to v w fits.0 same p inside
plane_same n models (tints.Stamp m at) k v w fits same p inside =
    stamp_same n (ink_of models (tints.Stamp m at)) k v w same p inside

-- ---- the store

times_half : (n h : ℕ) → h < 2 → n * h + n ≤ 2 * n
times_half n zero lt = omega arith
times_half n (suc zero) lt = omega arith
times_half n (suc (suc h)) lt = absurd (omega arith)

-- a place of a plane lies in the store
in_store : (side n plane : ℕ) (p : Cell) → 4 * n ≤ side → IsInWorld n p
    → IsInWorld side (plus (plane_at n plane) p)
in_store side n zero p low i =
    record { x = omega (arith, i.x); y = omega (arith, i.y); z = omega (arith, i.z) }
in_store side n (suc b) p low i =
    let x = times_half n (half_x b) (omega arith) in
    let y = times_half n (half_y b) (omega arith) in
    let z = times_half n (half_z b) (omega arith) in
    record { x = omega (arith, x, i.x); y = omega (arith, y, i.y); z = omega (arith, z, i.z) }

in_plane_of : (n : ℕ) (corner q : Cell) → is_in_box (cube_at n corner) q ≡ true
    → IsInWorld n (less q corner)
in_plane_of n corner q inside =
    let i = is_in_box_tells (cube_at n corner) q inside in
    record { x = omega (arith, i.x); y = omega (arith, i.y); z = omega (arith, i.z) }

module _ (side n : ℕ) (models : List Content) (act : TintAct) (low : 4 * n ≤ side)
    (fits : TintFits n models act) where
  part_same : (k : ℕ) (v w : World) → Agree side v w
      → Agree side (part n (ink_of models act) act k v) (part n (ink_of models act) act k w)
  part_same k v w same q inside =
      let ink : Tints = ink_of models act in
      let corner : Cell = plane_at n (plane_of act k) in
      let edit : World → World = part_edit ink act k in
      let moved : Agree n (λ p. v (plus corner p)) (λ p. w (plus corner p)) =
      λ p i. same (plus corner p) (in_store side n (plane_of act k) p low i) in
      let here : in_cube n corner edit v q ≡ in_cube n corner edit w q =
      elim (cases_Bool (is_in_box (cube_at n corner) q)) [
        | inl inner ↦ at_cell n ink act k q edit v true inner
            ∙ plane_same n models act k (λ p. v (plus corner p)) (λ p. w (plus corner p)) fits moved
            (less q corner) (in_plane_of n corner q inner)
            ∙ sym (at_cell n ink act k q edit w true inner)
        | inr outer ↦ at_cell n ink act k q edit v false outer ∙ same q inside
            ∙ sym (at_cell n ink act k q edit w false outer)
      ] in
      part_is n ink act k v q ∙ here ∙ sym (part_is n ink act k w q)

  parts_same : (k : ℕ) (v w : World) → Agree side v w
      → Agree side (after_parts (part n (ink_of models act) act) k v)
      (after_parts (part n (ink_of models act) act) k w)
  parts_same zero v w same = same
  parts_same (suc k) v w same = part_same k _ _ (parts_same k v w same)

pub edited_agree : (side : ℕ) (models : List Content) (act : Act) (v w : World)
    → FitsWorld side models act → Agree side v w
    → Agree side (edited_in side models act v) (edited_in side models act w)
edited_agree side models (Fill b) v w fits same q inside =
    ap (λ (x : Bool). is_in_box b q || x) (same q inside)
edited_agree side models (Erase b) v w fits same q inside =
    ap (λ (x : Bool). x && not (is_in_box b q)) (same q inside)
edited_agree side models (Ball ball) v w fits same q inside =
    ap (λ (x : Bool). is_in_ball ball q || x) (same q inside)
edited_agree side models (Carve ball) v w fits same q inside =
    ap (λ (x : Bool). x && not (is_in_ball ball q)) (same q inside)
edited_agree side models (Copy b to) v w fits same q inside =
    copied_same side b to v w fits.0 same q inside
edited_agree side models (Stamp m at) v w fits same q inside =
    ap (λ (x : Bool). is_in_stamp (slice_get models m) at q || x) (same q inside)
edited_agree side models (Tint t) v w fits same q inside =
    parts_same side (side / 4) models t (omega arith) fits (part_number t) v w same q inside
edited_agree side models Undo v w fits same q inside = same q inside
edited_agree side models Redo v w fits same q inside = same q inside
