-- By which parts a store of tints makes an act, one after another: one for each plane, and for a
-- stamp two for each plane of a bit.
use Rattle.std.specs.Prelude.{ℕ, ◌/◌, ◌%◌, Bool, false, not, ◌&&◌, ◌||◌, List, if◌then◌else◌}
use Rattle.std.proofs.Common.{zero, suc}
use Rattle.vw_cell.specs.declared.cells.Cell.{Cell}
use Rattle.vw_cell.specs.Places.{is_in_box, is_in_ball}
use Rattle.history_model.specs.Worlds.{World, less, plus, copied}
use Rattle.history_model.specs.declared.acts.TintAct.{TintAct}
use Rattle.history_model.specs.declared.acts.TintAct.TheVariants.{Fill, Erase, Ball, Carve, Copy, Stamp}
use Rattle.vox_read.specs.Contents.{Content}
use Rattle.history_model.specs.Tints.{Tints, ink_of}
use Rattle.history_model.specs.Planes.{tells, plane_at, cube_at}

-- an edit of a world of side n, made in the cube of that side at a corner and nowhere else
abbrev pub in_cube : ℕ → Cell → (World → World) → World → World
in_cube n corner edit before q =
    if is_in_box (cube_at n corner) q
    then edit (λ p. before (plus corner p)) (less q corner)
    else before q

-- the cells of a test are set or cleared
abbrev pub put : Bool → (Cell → Bool) → World → World
put set test before p = if test p then set else before p

-- what an act of this ink makes of the cells of one plane
abbrev pub in_plane : Tints → TintAct → ℕ → World → World
in_plane ink (Fill b c) plane = put (tells plane c) (is_in_box b)
in_plane ink (Erase b) plane = put false (is_in_box b)
in_plane ink (Ball ball c) plane = put (tells plane c) (is_in_ball ball)
in_plane ink (Carve ball) plane = put false (is_in_ball ball)
in_plane ink (Copy b to) plane = copied b to
in_plane ink (Stamp m at) plane = λ before p.
    if tells 0 (ink p) then tells plane (ink p) else before p

-- the cells that have ink are unset, and those whose ink tells in a plane are set
abbrev pub without_ink : Tints → World → World
without_ink ink before p = before p && not (tells 0 (ink p))

abbrev pub stamped_in : ℕ → Tints → World → World
stamped_in plane ink before p = tells plane (ink p) || before p

-- the two parts of a stamp in the plane of a bit
abbrev pub stamp_half : ℕ → ℕ → Tints → World → World
stamp_half plane zero ink = without_ink ink
stamp_half plane (suc half) ink = stamped_in plane ink

-- the parts of a stamp
abbrev pub stamp_part : ℕ → Tints → ℕ → World → World
stamp_part n ink zero = in_cube n (plane_at n 0) (stamped_in 0 ink)
stamp_part n ink (suc k) =
    in_cube n (plane_at n (suc (k / 2))) (stamp_half (suc (k / 2)) (k % 2) ink)

-- part k of an act of this ink, and how many there are
abbrev pub part : ℕ → Tints → TintAct → ℕ → World → World
part n ink (Stamp m at) k = stamp_part n ink k
part n ink act k = in_cube n (plane_at n k) (in_plane ink act k)

abbrev pub part_number : TintAct → ℕ
part_number (Stamp m at) = 17
part_number act = 9

-- after the first k parts
abbrev pub after_parts : (ℕ → World → World) → ℕ → World → World
after_parts parts zero before = before
after_parts parts (suc k) before = parts k (after_parts parts k before)

-- what an act makes of the cells of a store of side 4 n
abbrev pub made_in : ℕ → List Content → TintAct → World → World
made_in n models act = after_parts (part n (ink_of models act) act) (part_number act)
