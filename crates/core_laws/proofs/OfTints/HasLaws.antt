-- A tinted act sets the cells that it would set without its tint, and another gives its cells tint
-- 1.
use Rattle.std.proofs.Common.{◌≡◌, ℕ, zero, suc, ◌/◌, ◌≤◌, Bool, true, false, List, refl, sym, ◌∙◌, ap, arith}
use Rattle.std.specs.Prelude.{if◌then◌else◌, not, ◌&&◌, ◌||◌}
use Rattle.std.specs.List.{slice_get}
use Rattle.vw_cell.specs.declared.cells.Cell.{Cell}
use Rattle.vw_cell.specs.Places.{is_in_box, is_in_ball}
use Rattle.vox_read.specs.Contents.{Content}
use Rattle.history_model.specs.Worlds.{World, box_at, less, plus, is_in_stamp, edited, set_tinted}
use Rattle.history_model.specs.declared.acts.Act.{Act}
use Rattle.history_model.specs.declared.acts.Act.TheVariants as acts
use Rattle.history_model.specs.declared.acts.TintAct.{TintAct}
use Rattle.history_model.specs.declared.acts.TintAct.TheVariants.{Fill, Erase, Ball, Carve, Copy, Stamp}
use Rattle.history_model.specs.Tints.{Tints, tinted, tints_by, stamp_tint, over, plain_of}
use Rattle.vw_cell.specs.Sums.{one_if}
use Rattle.history_model.specs.Logs.{TintFits, FitsWorld, suits_tints}
use Rattle.history_model.specs.Planes.{tells}
use Rattle.core_laws.proofs.OfTints.PartLaws.{in_stamp_tells, not_none}

some_tells : (c : ℕ) → 1 ≤ c → tells 0 c ≡ true
some_tells zero le = absurd (omega arith)
some_tells (suc c) le = not_none c

put_some : (b : Bool) (c d : ℕ) (w : Bool) → 1 ≤ c → tells 0 d ≡ w
    → tells 0 (if b then c else d) ≡ (b || w)
put_some true c d w le e = some_tells c le
put_some false c d w le e = e

put_none : (b : Bool) (d : ℕ) (w : Bool) → tells 0 d ≡ w
    → tells 0 (if b then 0 else d) ≡ (w && not b)
put_none true d true e = refl
put_none true d false e = refl
put_none false d true e = e
put_none false d false e = e

put_other : (b : Bool) (c d : ℕ) (v w : Bool) → tells 0 c ≡ v → tells 0 d ≡ w
    → tells 0 (if b then c else d) ≡ (if b then v else w)
put_other true c d v w p q = p
put_other false c d v w p q = q

put_over : (s d : ℕ) (w : Bool) → tells 0 d ≡ w → tells 0 (over s d) ≡ (tells 0 s || w)
put_over zero d w e = e
put_over (suc s) d w e = not_none s ∙ sym (ap (λ (b : Bool). b || w) (not_none s))

pub has_law : (n : ℕ) (models : List Content) (act : TintAct) (tints : Tints) (world : World)
    → TintFits n models act → ((p : Cell) → tells 0 (tints p) ≡ world p)
    → (p : Cell) → tells 0 (tinted models act tints p) ≡ edited models (plain_of act) world p
has_law n models (Fill b c) tints world f same p =
    put_some (is_in_box b p) c (tints p) (world p) f.1.0 (same p)
has_law n models (Erase b) tints world f same p =
    put_none (is_in_box b p) (tints p) (world p) (same p)
has_law n models (Ball ball c) tints world f same p =
    put_some (is_in_ball ball p) c (tints p) (world p) f.2.0 (same p)
has_law n models (Carve ball) tints world f same p =
    put_none (is_in_ball ball p) (tints p) (world p) (same p)
has_law n models (Copy b to) tints world f same p =
    put_other (is_in_box (box_at to b.size) p) (tints (plus b.at (less p to))) (tints p)
    (world (plus b.at (less p to))) (world p) (same (plus b.at (less p to))) (same p)
has_law n models (Stamp m at) tints world f same p =
    put_over (stamp_tint (slice_get models m) at p) (tints p) (world p) (same p)
    ∙ ap (λ (b : Bool). b || world p) (sym (in_stamp_tells (slice_get models m) at p))

set_plainly : (models : List Content) (act : TintAct) (world : World) (p : Cell)
    → edited models (plain_of act) world p ≡ set_tinted models act world p
set_plainly models (Fill b c) world p = refl
set_plainly models (Erase b) world p = refl
set_plainly models (Ball ball c) world p = refl
set_plainly models (Carve ball) world p = refl
set_plainly models (Copy b to) world p = refl
set_plainly models (Stamp m at) world p = refl

-- the same of any act
pub has_by : (side : ℕ) (models : List Content) (act : Act) (tints : Tints) (world : World)
    → FitsWorld side models act → ((p : Cell) → tells 0 (tints p) ≡ world p)
    → (p : Cell) → tells 0 (tints_by models act tints p) ≡ edited models act world p
has_by side models (acts.Fill b) tints world f same p =
    put_some (is_in_box b p) 1 (tints p) (world p) (omega arith) (same p)
has_by side models (acts.Erase b) tints world f same p =
    put_none (is_in_box b p) (tints p) (world p) (same p)
has_by side models (acts.Ball ball) tints world f same p =
    put_some (is_in_ball ball p) 1 (tints p) (world p) (omega arith) (same p)
has_by side models (acts.Carve ball) tints world f same p =
    put_none (is_in_ball ball p) (tints p) (world p) (same p)
has_by side models (acts.Copy b to) tints world f same p =
    put_other (is_in_box (box_at to b.size) p) (tints (plus b.at (less p to))) (tints p)
    (world (plus b.at (less p to))) (world p) (same (plus b.at (less p to))) (same p)
has_by side models (acts.Stamp m at) tints world f same p =
    put_some (is_in_stamp (slice_get models m) at p) 1 (tints p) (world p) (omega arith) (same p)
has_by side models (acts.Tint t) tints world f same p =
    has_law (side / 4) models t tints world f same p ∙ set_plainly models t world p
has_by side models acts.Undo tints world f same p = same p
has_by side models acts.Redo tints world f same p = same p

-- ---- where no act is tinted each set cell has tint 1

put_one : (b : Bool) (d : ℕ) (w : Bool) → d ≡ one_if w → (if b then 1 else d) ≡ one_if (b || w)
put_one true d w e = refl
put_one false d w e = e

cut_one : (b : Bool) (d : ℕ) (w : Bool) → d ≡ one_if w
    → (if b then 0 else d) ≡ one_if (w && not b)
cut_one true d true e = refl
cut_one true d false e = refl
cut_one false d true e = e
cut_one false d false e = e

other_one : (b : Bool) (c d : ℕ) (v w : Bool) → c ≡ one_if v → d ≡ one_if w
    → (if b then c else d) ≡ one_if (if b then v else w)
other_one true c d v w p q = p
other_one false c d v w p q = q

pub one_by : (models : List Content) (act : Act) (tints : Tints) (world : World)
    → suits_tints false act ≡ true → ((p : Cell) → tints p ≡ one_if (world p))
    → (p : Cell) → tints_by models act tints p ≡ one_if (edited models act world p)
one_by models (acts.Fill b) tints world is same p =
    put_one (is_in_box b p) (tints p) (world p) (same p)
one_by models (acts.Erase b) tints world is same p =
    cut_one (is_in_box b p) (tints p) (world p) (same p)
one_by models (acts.Ball ball) tints world is same p =
    put_one (is_in_ball ball p) (tints p) (world p) (same p)
one_by models (acts.Carve ball) tints world is same p =
    cut_one (is_in_ball ball p) (tints p) (world p) (same p)
one_by models (acts.Copy b to) tints world is same p =
    other_one (is_in_box (box_at to b.size) p) (tints (plus b.at (less p to))) (tints p)
    (world (plus b.at (less p to))) (world p) (same (plus b.at (less p to))) (same p)
one_by models (acts.Stamp m at) tints world is same p =
    put_one (is_in_stamp (slice_get models m) at p) (tints p) (world p) (same p)
one_by models (acts.Tint t) tints world is same p = absurd (let no : ⊥ = cc in no)
one_by models acts.Undo tints world is same p = same p
one_by models acts.Redo tints world is same p = same p
