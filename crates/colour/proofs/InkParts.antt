-- The parts of a stamp make together what one edit of all planes makes.
use Rattle.std.proofs.Common.{◌≡◌, ℕ, zero, suc, ◌*◌, ◌/◌, ◌%◌, ◌==◌, Bool, true, false, refl, sym, ◌∙◌, ap, arith}
use Rattle.std.specs.Prelude.{if◌then◌else◌, not, ◌&&◌, ◌||◌}
use Rattle.vw_cell.specs.declared.cells.Cell.{Cell}
use Rattle.vw_cell.specs.Places.{is_in_box}
use Rattle.history_model.specs.Worlds.{World, less, plus}
use Rattle.history_model.specs.Tints.{Tints}
use Rattle.history_model.specs.Planes.{tells, plane_at, cube_at}
use Rattle.history_model.specs.Parts.{in_cube, without_ink, stamped_in, stamp_part, after_parts}
use Rattle.core_laws.proofs.OfTints.PartLaws.{tells_none, not_none}
use Rattle.colour.specs.Walks.{in_cells, cell_parts, ink_edit}
use Rattle.colour.proofs.CubeLaws.{back_in_cube}

-- ---- one cell

set_alone : (b v : Bool) → (b || v) ≡ (if b then b else v)
set_alone true v = refl
set_alone false v = refl

-- unset where there is ink, and then set where the ink tells
both_halves : (plane c : ℕ) (v : Bool)
    → (tells plane c || (v && not (tells 0 c))) ≡ (if tells 0 c then tells plane c else v)
both_halves plane zero v =
    ap (λ (b : Bool). b || (v && not (tells 0 0))) (tells_none plane) ∙ keeps v
  where
    keeps : (v : Bool) → (false || (v && not (not (0 == 0)))) ≡ v
    keeps true = refl
    keeps false = refl
both_halves plane (suc c) v =
    ap (λ (b : Bool). tells plane (suc c) || (v && not b)) (not_none c)
    ∙ gone (tells plane (suc c)) v
    ∙ sym (ap (λ (b : Bool). if b then tells plane (suc c) else v) (not_none c))
  where
    gone : (t v : Bool) → (t || (v && not true)) ≡ t
    gone true v = refl
    gone false true = refl
    gone false false = refl

-- two edits of a cell where it lies in a cube are one there
in_both : (c x y u v z : Bool) → (c ≡ true → x ≡ (if c then y else v))
    → (c ≡ true → (z || y) ≡ u)
    → (if c then (z || x) else (if c then y else v)) ≡ (if c then u else v)
in_both true x y u v z h k = ap (λ (b : Bool). z || b) (h refl) ∙ k refl
in_both false x y u v z h k = refl

-- ---- one plane

-- plane 0 has its cells set
first_part : (n : ℕ) (corner : Cell) (ink : Tints) (w : World) (q : Cell)
    → in_cube n corner (stamped_in 0 ink) w q ≡ in_cube n corner (in_cells (ink_edit ink) 0) w q
first_part n corner ink w q =
    ap (λ (b : Bool). if is_in_box (cube_at n corner) q then b else w q)
    (set_alone (tells 0 (ink (less q corner))) (w (plus corner (less q corner))))

-- the plane of a bit has cells cleared, and then others set
two_parts : (n k : ℕ) (corner : Cell) (ink : Tints) (w : World) (q : Cell)
    → in_cube n corner (stamped_in k ink) (in_cube n corner (without_ink ink) w) q
    ≡ in_cube n corner (in_cells (ink_edit ink) k) w q
two_parts n k corner ink w q =
    let p : Cell = less q corner in
    in_both (is_in_box (cube_at n corner) q)
    (in_cube n corner (without_ink ink) w (plus corner p))
    (without_ink ink (λ r. w (plus corner r)) p)
    (ink_edit ink k p (w (plus corner p))) (w q) (tells k (ink p))
    (λ e. ap (in_cube n corner (without_ink ink) w) (back_in_cube n corner q e))
    (λ e. both_halves k (ink p) (w (plus corner p)))

-- ---- all planes

-- the parts in the plane of bit b
pair_is : (n : ℕ) (ink : Tints) (w : World) (b : ℕ)
    → stamp_part n ink (suc (suc (2 * b))) (stamp_part n ink (suc (2 * b)) w)
    ≡ in_cube n (plane_at n (suc b)) (stamped_in (suc b) ink)
    (in_cube n (plane_at n (suc b)) (without_ink ink) w)
pair_is n ink w b =
    let whole : 2 * b / 2 ≡ b = omega arith in
    let none : 2 * b % 2 ≡ 0 = omega arith in
    let next : suc (2 * b) / 2 ≡ b = omega arith in
    let one : suc (2 * b) % 2 ≡ 1 = omega arith in
    rw (whole, none, next, one) refl

module _ (n : ℕ) (ink : Tints) where
  -- one edit of each of the first planes
  planes_so_far : (b : ℕ) (before : World)
      → after_parts (stamp_part n ink) (suc (2 * b)) before
      ≡ after_parts (cell_parts n (ink_edit ink)) (suc b) before
  planes_so_far zero before = λ i q. first_part n (plane_at n 0) ink before q i
  planes_so_far (suc b) before =
      let number : suc (2 * suc b) ≡ suc (suc (suc (2 * b))) = omega arith in
      let so_far : World = after_parts (stamp_part n ink) (suc (2 * b)) before in
      ap (λ (k : ℕ). after_parts (stamp_part n ink) k before) number
      ∙ pair_is n ink so_far b
      ∙ (λ i q. two_parts n (suc b) (plane_at n (suc b)) ink so_far q i)
      ∙ ap (cell_parts n (ink_edit ink) (suc b)) (planes_so_far b before)

  -- the seventeen parts of a stamp make what one edit of nine planes makes
  pub stamp_is : (before : World)
      → after_parts (stamp_part n ink) 17 before
      ≡ after_parts (cell_parts n (ink_edit ink)) 9 before
  stamp_is before = planes_so_far 8 before

  pub stamp_edit : after_parts (stamp_part n ink) 17
      ≡ after_parts (cell_parts n (ink_edit ink)) 9
  stamp_edit = λ i before. stamp_is before i
