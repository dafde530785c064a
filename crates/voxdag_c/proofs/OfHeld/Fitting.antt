-- Numbers of a world need 16 bits at most.
use Rattle.std.proofs.Common.{◌≡◌, ◌≢◌, true, false, ◌↔◌, ℕ, ◌≤◌, ◌^◌, Option, Some, None, List, refl, sym, ◌∙◌, ap, subst, arith}
use Rattle.std.proofs.Common.{ℤ, SFits, w16, to_z, of_z}
use Rattle.std.proofs.lemmas.Int.{to_z-of_z}
use Rattle.std.specs.Prelude.{IsSome}
use Rattle.history_model.specs.Ways.{heading_of}
use Rattle.std.proofs.lemmas.Bool.{false≢true}
use Rattle.std.specs.List.{slice_get}
use Rattle.std.proofs.lemmas.Option.{none-some, same_Some}
use Rattle.vw_cell.specs.declared.cells.Cell.{Cell}
use Rattle.vw_cell.specs.declared.boxes.Boxed.{Boxed}
use Rattle.vw_cell.specs.declared.balls.Ball.{Ball}
use Rattle.vw_cell.specs.Places.{FitsAt, IsInBox, IsInWorld}
use Rattle.vox_read.specs.Contents.{Content}
use Rattle.history_model.specs.Logs.{FitsModel}
use Rattle.store_run.specs.Worlds.{size_of}
use Rattle.voxdag_c.specs.declared.held.places.CPlace.{CPlace}
use Rattle.voxdag_c.specs.declared.held.places.CBox.{CBox}
use Rattle.voxdag_c.specs.held.Calls.{FitsFile, FitsRegion}
use Rattle.voxdag_c.specs.held.Places.{FitsSixteenBits, cell_of_c_place, box_of, ball_of}

pub world_is_small : (side : ℕ) (c : Cell) → side ≤ 4096 → IsInWorld side c → FitsSixteenBits c
world_is_small side c low inside =
    record {
      x = omega (arith, low, inside.x);
      y = omega (arith, low, inside.y);
      z = omega
          (arith, low, inside.z);
    }

pub box_is_small : (side : ℕ) (at size : Cell) → side ≤ 4096 → FitsAt at size side
    → FitsSixteenBits at × FitsSixteenBits size
box_is_small side at size low fits = (
  record {
    x = omega (arith, low, fits.x.1);
    y = omega (arith, low, fits.y.1);
    z = omega
        (arith, low, fits.z.1);
  },
  record {
    x = omega (arith, low, fits.x.1);
    y = omega (arith, low, fits.y.1);
    z = omega
        (arith, low, fits.z.1);
  },
)

-- ---- what was tested of the world's own side

module _ (side cells : ℕ) (eq : 2 ^ side ≡ cells) where
  pub box_fits : (s : CBox) (b : Boxed) → b ≡ box_of s
      → (IsSome (Some b) ↔ FitsAt (cell_of_c_place s.at) (cell_of_c_place s.size) (2 ^ side))
      → FitsAt b.at b.size cells
  box_fits s b is exactly =
      subst (λ (n : ℕ). FitsAt b.at b.size n) eq
      (subst (λ (x : Boxed). FitsAt x.at x.size (2 ^ side)) (sym is) (exactly.0 refl))

  pub box_leaves : (s : CBox)
      → (IsSome {T = Boxed} None ↔ FitsAt (cell_of_c_place s.at) (cell_of_c_place s.size) (2 ^ side))
      → ¬ FitsAt (cell_of_c_place s.at) (cell_of_c_place s.size) cells
  box_leaves s exactly fits = false≢true
      (exactly.1 (subst (λ (n : ℕ). FitsAt (cell_of_c_place s.at) (cell_of_c_place s.size) n)
      (sym eq) fits))

  pub ball_fits : (p : CPlace) (radius : ℕ) (b : Ball) → b ≡ ball_of p radius
      → (IsSome (Some b) ↔ (IsInWorld (2 ^ side) (cell_of_c_place p) × (radius ≤ 4095)))
      → IsInWorld cells b.centre × (b.radius ≤ 4095)
  ball_fits p radius b is exactly =
      subst (λ (n : ℕ). IsInWorld n b.centre × (b.radius ≤ 4095)) eq
      (subst (λ (x : Ball). IsInWorld (2 ^ side) x.centre × (x.radius ≤ 4095)) (sym is)
      (exactly.0 refl))

  pub ball_leaves : (p : CPlace) (radius : ℕ)
      → (IsSome {T = Ball} None ↔ (IsInWorld (2 ^ side) (cell_of_c_place p) × (radius ≤ 4095)))
      → ¬ (IsInWorld cells (cell_of_c_place p) × (radius ≤ 4095))
  ball_leaves p radius exactly fits = false≢true
      (exactly.1 (subst (λ (n : ℕ). IsInWorld n (cell_of_c_place p) × (radius ≤ 4095))
      (sym eq) fits))

  pub cell_fits : (p : CPlace) (c : Cell) → c ≡ cell_of_c_place p
      → (IsSome (Some c) ↔ IsInWorld (2 ^ side) (cell_of_c_place p)) → IsInWorld cells c
  cell_fits p c is exactly =
      subst (λ (n : ℕ). IsInWorld n c) eq
      (subst (λ (x : Cell). IsInWorld (2 ^ side) x) (sym is) (exactly.0 refl))

  pub cell_leaves : (p : CPlace) → (IsSome {T = Cell} None ↔ IsInWorld (2 ^ side) (cell_of_c_place p))
      → ¬ IsInWorld cells (cell_of_c_place p)
  cell_leaves p exactly fits = false≢true
      (exactly.1 (subst (λ (n : ℕ). IsInWorld n (cell_of_c_place p)) (sym eq) fits))

  pub cell_lies : (p : CPlace) (c : Cell)
      → (IsSome (Some c) ↔ IsInWorld (2 ^ side) (cell_of_c_place p))
      → IsInWorld cells (cell_of_c_place p)
  cell_lies p c exactly = subst (λ (n : ℕ). IsInWorld n (cell_of_c_place p)) eq (exactly.0 refl)

-- a step of 16 bits is what its bits stand for
pub same_steps : (dx dy dz : ℤ) → SFits w16 dx → SFits w16 dy → SFits w16 dz
    → heading_of (to_z w16 (of_z w16 dx)) (to_z w16 (of_z w16 dy))
    (to_z w16 (of_z w16 dz)) ≡ heading_of dx dy dz
same_steps dx dy dz x y z =
    λ i. heading_of (to_z-of_z w16 dx x i) (to_z-of_z w16 dy y i) (to_z-of_z w16 dz z i)

-- a box and the one of its size that goes to a place
pub copy_fits : (cells : ℕ) (part : CBox) (to : CPlace) (b there : Boxed) → b ≡ box_of part
    → there ≡ box_of (record { at = to; size = part.size }) → FitsAt b.at b.size cells
    → FitsAt there.at there.size cells → FitsAt b.at b.size cells × FitsAt there.at b.size cells
copy_fits cells part to b there same is fits other =
    let size : there.size ≡ b.size =
    ap (λ (x : Boxed). x.size) is ∙ ap (λ (x : Boxed). x.size) (sym same) in
    (fits, subst (λ (s : Cell). FitsAt there.at s cells) size other)

-- a model of this size fits where a box of its size does
pub model_fits : (models : List Content) (m side : ℕ) (size at : Cell)
    → Some size ≡ size_of (slice_get models m) → FitsAt at size side
    → FitsModel side (slice_get models m) at
model_fits models m side size at is fits = go (slice_get models m) is
  where
    go : (o : Option Content) → Some size ≡ size_of o → FitsModel side o at
    go None e = absurd (none-some size (sym e))
    go (Some model) e = subst (λ (s : Cell). FitsAt at s side) (same_Some size model.size e) fits

pub model_leaves : (models : List Content) (m side : ℕ) (size at : Cell)
    → Some size ≡ size_of (slice_get models m) → ¬ FitsAt at size side
    → ¬ FitsModel side (slice_get models m) at
model_leaves models m side size at is leaves = go (slice_get models m) is
  where
    go : (o : Option Content) → Some size ≡ size_of o → ¬ FitsModel side o at
    go None e f = f
    go (Some model) e f = leaves
        (subst (λ (s : Cell). FitsAt at s side) (sym (same_Some size model.size e)) f)

pub no_size : (models : List Content) (m : ℕ) → None ≡ size_of (slice_get models m)
    → slice_get models m ≡ None
no_size models m is = go (slice_get models m) is
  where
    go : (o : Option Content) → None ≡ size_of o → o ≡ None
    go None e = refl
    go (Some model) e = absurd (none-some model.size e)

pub has_size : (models : List Content) (m : ℕ) (size : Cell)
    → Some size ≡ size_of (slice_get models m) → slice_get models m ≢ None
has_size models m size is none = none-some size (sym (is ∙ ap size_of none))

-- ---- files

pub file_fits : (cells : ℕ) (s : CBox) (b : Boxed) → b ≡ box_of s → FitsAt b.at b.size cells
    → (b.size.x ≤ 256) × (b.size.y ≤ 256) × (b.size.z ≤ 256) → FitsFile cells (box_of s)
file_fits cells s b same inside small =
    subst (λ (x : Boxed). FitsFile cells x) same (record { inside = inside; small = small })

pub file_large : (cells : ℕ) (s : CBox) (b : Boxed) → b ≡ box_of s
    → (false ≡ true ↔ ((b.size.x ≤ 256) × (b.size.y ≤ 256) × (b.size.z ≤ 256)))
    → ¬ FitsFile cells (box_of s)
file_large cells s b same exactly fits =
    false≢true (exactly.1
    (subst (λ (x : Boxed). (x.size.x ≤ 256) × (x.size.y ≤ 256) × (x.size.z ≤ 256))
    (sym same) fits.small))

-- ---- regions

pub region_fits : (cells : ℕ) (s : CBox) (b : Boxed) (p : CPlace) (c : Cell) → b ≡ box_of s
    → c ≡ cell_of_c_place p → FitsAt b.at b.size cells
    → ((b.size.x ≤ 256) × (b.size.y ≤ 256) × (b.size.z ≤ 256)) × IsInBox b c
    → FitsRegion cells (box_of s) (cell_of_c_place p)
region_fits cells s b p c same at inside fits = record {
  part_fits = file_fits cells s b same inside fits.0;
  start = subst (λ (x : Boxed). IsInBox x (cell_of_c_place p)) same
      (subst (λ (q : Cell). IsInBox b q) at fits.1);
}

pub region_leaves : (cells : ℕ) (s : CBox) (b : Boxed) (p : CPlace) (c : Cell) → b ≡ box_of s
    → c ≡ cell_of_c_place p
    →
    (false ≡ true
    ↔ (((b.size.x ≤ 256) × (b.size.y ≤ 256) × (b.size.z ≤ 256)) × IsInBox b c))
    → ¬ FitsRegion cells (box_of s) (cell_of_c_place p)
region_leaves cells s b p c same at exactly fits =
    false≢true (exactly.1 (
      subst (λ (x : Boxed). (x.size.x ≤ 256) × (x.size.y ≤ 256) × (x.size.z ≤ 256)) (sym same)
          fits.part_fits.small,
      subst (λ (x : Boxed). IsInBox x c) (sym same)
          (subst (λ (q : Cell). IsInBox (box_of s) q) (sym at) fits.start),
    ))

-- a cell of a box of the world is one of the world
pub start_inside : (side : ℕ) (b : Boxed) (c : Cell) → FitsAt b.at b.size side → IsInBox b c
    → IsInWorld side c
start_inside side b c fits i =
    let x = i.x in let y = i.y in let z = i.z in
    let fx = fits.x in let fy = fits.y in let fz = fits.z in
    record { x = omega arith; y = omega arith; z = omega arith }
