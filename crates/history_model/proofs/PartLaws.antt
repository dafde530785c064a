-- What the parts of a tinted act make of one cell.
use Rattle.std.proofs.Common.{◌≡◌, ℕ, zero, suc, ◌+◌, ◌-◌, ◌/◌, ◌%◌, ◌^◌, Bool, true, false, refl, sym, ◌∙◌, ap, subst, arith}
use Rattle.std.specs.Prelude.{if◌then◌else◌, not, ◌&&◌, ◌||◌, List}
use Rattle.vw_cell.specs.declared.cells.Cell.{Cell}
use Rattle.vw_cell.specs.declared.boxes.Boxed.{Boxed}
use Rattle.vw_cell.specs.declared.balls.Ball as balls
use Rattle.vw_cell.specs.Places.{is_in_box, is_in_ball}
use Rattle.std.specs.List.{slice_get}
use Rattle.history_model.specs.declared.acts.Act.{Act}
use Rattle.history_model.specs.declared.acts.Act.TheVariants.{Tint}
use Rattle.history_model.specs.Stores.{edited_in}
use Rattle.history_model.specs.declared.acts.TintAct.{TintAct}
use Rattle.history_model.specs.declared.acts.TintAct.TheVariants.{Fill, Erase, Ball, Carve, Copy, Stamp}
use Rattle.history_model.specs.declared.parts.CellSource.{CellSource}
use Rattle.history_model.specs.declared.parts.CellSource.TheVariants.{Fixed, Read}
use Rattle.history_model.specs.Worlds.{World, less, plus}
use Rattle.history_model.specs.Tints.{Tints, ink_of, stamp_tint}
use Rattle.history_model.specs.Planes.{tells, plane_at, cube_at}
use Rattle.vox_read.specs.Contents.{Content}
use Rattle.history_model.specs.Logs.{TintFits}
use Rattle.history_model.specs.Parts.{in_cube, put, stamp_half, part, after_parts, made_in}
use Rattle.history_model.specs.Making.{IsCellSource, plane_of, part_edit, stamp_edit}

pub part_is : (n : ℕ) (ink : Tints) (act : TintAct) (k : ℕ) (w : World) (q : Cell)
    → part n ink act k w q ≡ in_cube n (plane_at n (plane_of act k)) (part_edit ink act k) w q
part_is n ink (Fill b c) k w q = refl
part_is n ink (Erase b) k w q = refl
part_is n ink (Ball b c) k w q = refl
part_is n ink (Carve b) k w q = refl
part_is n ink (Copy b to) k w q = refl
part_is n ink (Stamp m at) zero w q = refl
part_is n ink (Stamp m at) (suc k) w q = refl

-- outside of the plane's cube, and in it
module _ (n : ℕ) (ink : Tints) (act : TintAct) (k : ℕ) (q : Cell) where
  abbrev pub corner : Cell
  corner = plane_at n (plane_of act k)

  pub at_cell : (edit : World → World) (w : World) (b : Bool) → is_in_box (cube_at n corner) q ≡ b
      → in_cube n corner edit w q
      ≡ (if b then edit (λ p. w (plus corner p)) (less q corner) else w q)
  at_cell edit w b e =
      ap (λ (t : Bool). if t then edit (λ p. w (plus corner p)) (less q corner) else w q) e

  pub part_outside : is_in_box (cube_at n corner) q ≡ false
      → IsCellSource (part n ink act k) q (Read q)
  part_outside e = λ w. part_is n ink act k w q ∙ at_cell (part_edit ink act k) w false e

  pub part_fixed : (set : Bool) → is_in_box (cube_at n corner) q ≡ true
      → IsCellSource (part_edit ink act k) (less q corner) (Fixed set)
      → IsCellSource (part n ink act k) q (Fixed set)
  part_fixed set e made =
      λ w. part_is n ink act k w q ∙ at_cell (part_edit ink act k) w true e
      ∙ made (λ p. w (plus corner p))

  pub part_read : (p : Cell) → is_in_box (cube_at n corner) q ≡ true
      → IsCellSource (part_edit ink act k) (less q corner) (Read p)
      → IsCellSource (part n ink act k) q (Read (plus corner p))
  part_read p e made =
      λ w. part_is n ink act k w q ∙ at_cell (part_edit ink act k) w true e
      ∙ made (λ r. w (plus corner r))

-- one part less
module _ (parts : ℕ → World → World) (whole : World → World) (w : World) (q at : Cell)
    (number done k : ℕ) (so_far : whole w q ≡ after_parts parts (number - done) w at)
    (next : number - done ≡ suc k) where
  here : whole w q ≡ parts k (after_parts parts k w) at
  here = so_far ∙ ap (λ (j : ℕ). after_parts parts j w at) next

  pub fixed_step : (set : Bool) → IsCellSource (parts k) at (Fixed set) → whole w q ≡ set
  fixed_step set made = here ∙ made (after_parts parts k w)

  pub read_step : (p : Cell) → IsCellSource (parts k) at (Read p)
      → whole w q ≡ after_parts parts k w p
  read_step p made = here ∙ made (after_parts parts k w)

-- a quarter of the side, as a number of its own
pub fits_quarter : (side n : ℕ) (models : List Content) (act : TintAct) → n ≡ 2 ^ side / 4
    → TintFits (2 ^ side / 4) models act → TintFits n models act
fits_quarter side n models act same fits =
    subst (λ (k : ℕ). TintFits k models act) (sym same) fits

pub made_quarter : (side n : ℕ) (models : List Content) (act : TintAct) (w : World) (q : Cell)
    (r : Bool) → n ≡ 2 ^ side / 4 → r ≡ made_in n models act w q
    → r ≡ made_in (2 ^ side / 4) models act w q
made_quarter side n models act w q r same made =
    made ∙ ap (λ (k : ℕ). made_in k models act w q) same

-- ---- the two halves of a stamp

tells_same : (e f : World → World) (q : Cell) (made : CellSource) → ((w : World) → e w q ≡ f w q)
    → IsCellSource f q made → IsCellSource e q made
tells_same e f q (Fixed set) same told = λ w. same w ∙ told w
tells_same e f q (Read p) same told = λ w. same w ∙ told w

cleared : (b t : Bool) → (b && not t) ≡ (if t then false else b)
cleared true true = refl
cleared true false = refl
cleared false true = refl
cleared false false = refl

joined : (b t : Bool) → (t || b) ≡ (if t then true else b)
joined b true = refl
joined b false = refl

-- odd parts clear the cells that have ink
pub stamp_clears : (all : Tints) (k : ℕ) (p : Cell) (made : CellSource) → k % 2 ≡ 1
    → IsCellSource (put false (λ q. tells 0 (all q))) p made → IsCellSource (stamp_edit all k) p made
stamp_clears all zero p made odd told = absurd (omega (arith, odd))
stamp_clears all (suc k) p made odd told =
    let even : k % 2 ≡ 0 = omega (arith, odd) in
    tells_same (stamp_edit all (suc k)) (put false (λ q. tells 0 (all q))) p made
    (λ w. ap (λ (half : ℕ). stamp_half (suc (k / 2)) half all w p) even
    ∙ cleared (w p) (tells 0 (all p))) told

-- even parts set those whose ink tells in the plane
pub stamp_sets : (all : Tints) (k plane : ℕ) (p : Cell) (made : CellSource) → k % 2 ≡ 0
    → plane ≡ (k + 1) / 2 → IsCellSource (put true (λ q. tells plane (all q))) p made
    → IsCellSource (stamp_edit all k) p made
stamp_sets all zero plane p made even at told =
    let none : plane ≡ 0 = omega (arith, at) in
    tells_same (stamp_edit all 0) (put true (λ q. tells plane (all q))) p made
    (λ w. ap (λ (j : ℕ). tells j (all p) || w p) (sym none)
    ∙ joined (w p) (tells plane (all p))) told
stamp_sets all (suc k) plane p made even at told =
    let odd : k % 2 ≡ 1 = omega (arith, even) in
    let here : suc (k / 2) ≡ plane = omega (arith, at, even) in
    tells_same (stamp_edit all (suc k)) (put true (λ q. tells plane (all q))) p made
    (λ w. ap (λ (half : ℕ). stamp_half (suc (k / 2)) half all w p) odd
    ∙ ap (λ (j : ℕ). tells j (all p) || w p) here
    ∙ joined (w p) (tells plane (all p))) told

-- ---- as the functions use it

abbrev PutTells : Bool → Bool → Cell → CellSource → Type 0
PutTells has set p made = (test : Cell → Bool) → has ≡ test p → IsCellSource (put set test) p made

module _ (ink : Tints) (act : TintAct) (k : ℕ) (p : Cell) (made : CellSource) (has set : Bool) where
  by_act : (other : TintAct) → act ≡ other → IsCellSource (part_edit ink other k) p made
      → IsCellSource (part_edit ink act k) p made
  by_act other same told = subst (λ (a : TintAct). IsCellSource (part_edit ink a k) p made)
      (sym same) told

  pub fill_made : (b : Boxed) (c : ℕ) → act ≡ Fill b c → has ≡ is_in_box b p → set ≡ tells k c
      → PutTells has set p made → IsCellSource (part_edit ink act k) p made
  fill_made b c same here tint told =
      by_act (Fill b c) same (subst (λ (s : Bool). IsCellSource (put s (is_in_box b)) p made) tint
      (told (is_in_box b) here))

  pub erase_made : (b : Boxed) → act ≡ Erase b → has ≡ is_in_box b p
      → PutTells has false p made → IsCellSource (part_edit ink act k) p made
  erase_made b same here told = by_act (Erase b) same (told (is_in_box b) here)

  pub ball_made : (b : balls.Ball) (c : ℕ) → act ≡ Ball b c → has ≡ is_in_ball b p → set ≡ tells k c
      → PutTells has set p made → IsCellSource (part_edit ink act k) p made
  ball_made b c same here tint told =
      by_act (Ball b c) same (subst (λ (s : Bool). IsCellSource (put s (is_in_ball b)) p made) tint
      (told (is_in_ball b) here))

  pub carve_made : (b : balls.Ball) → act ≡ Carve b → has ≡ is_in_ball b p
      → PutTells has false p made → IsCellSource (part_edit ink act k) p made
  carve_made b same here told = by_act (Carve b) same (told (is_in_ball b) here)

pub stamp_made : (models : List Content) (act : TintAct) (k : ℕ) (p : Cell) (made : CellSource) (m : ℕ)
    (at : Cell) (ink : ℕ) → act ≡ Stamp m at → ink ≡ stamp_tint (slice_get models m) at p
    → ((all : Tints) → ink ≡ all p → IsCellSource (stamp_edit all k) p made)
    → IsCellSource (part_edit (ink_of models act) act k) p made
stamp_made models act k p made m at ink same is told =
    subst (λ (a : TintAct). IsCellSource (part_edit (ink_of models a) a k) p made) (sym same)
    (told (stamp_tint (slice_get models m) at) is)

module _ (n : ℕ) (ink : Tints) (act : TintAct) (k : ℕ) (q at_corner from : Cell) (plane : ℕ)
    (has : Bool) (of_plane : plane ≡ plane_of act k) (of_corner : at_corner ≡ plane_at n plane)
    (of_from : from ≡ less q at_corner) (of_has : has ≡ is_in_box (cube_at n at_corner) q)
    (inside : has ≡ true) where
  corner_is : at_corner ≡ plane_at n (plane_of act k)
  corner_is = of_corner ∙ ap (plane_at n) of_plane

  in_cube_of : is_in_box (cube_at n (plane_at n (plane_of act k))) q ≡ true
  in_cube_of = ap (λ (c : Cell). is_in_box (cube_at n c) q) (sym corner_is) ∙ sym of_has ∙ inside

  from_is : from ≡ less q (plane_at n (plane_of act k))
  from_is = of_from ∙ ap (less q) corner_is

  pub fixed_by : (set : Bool) → IsCellSource (part_edit ink act k) from (Fixed set)
      → IsCellSource (part n ink act k) q (Fixed set)
  fixed_by set told =
      part_fixed n ink act k q set in_cube_of
      (subst (λ (c : Cell). IsCellSource (part_edit ink act k) c (Fixed set)) from_is told)

  pub read_by : (p r : Cell) → r ≡ plus at_corner p → IsCellSource (part_edit ink act k) from (Read p)
      → IsCellSource (part n ink act k) q (Read r)
  read_by p r same told =
      subst (λ (c : Cell). IsCellSource (part n ink act k) q (Read c))
      (ap (λ (c : Cell). plus c p) (sym corner_is) ∙ sym same)
      (part_read n ink act k q p in_cube_of
      (subst (λ (c : Cell). IsCellSource (part_edit ink act k) c (Read p)) from_is told))

pub tint_set : (side n : ℕ) (models : List Content) (act : Act) (t : TintAct) (w : World) (q : Cell)
    (r : Bool) → act ≡ Tint t → n ≡ 2 ^ side / 4 → r ≡ made_in n models t w q
    → r ≡ edited_in (2 ^ side) models act w q
tint_set side n models act t w q r same wide made =
    made_quarter side n models t w q r wide made
    ∙ sym (ap (λ (a : Act). edited_in (2 ^ side) models a w q) same)
