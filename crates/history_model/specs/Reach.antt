-- Which acts lie in a world, whatever its models.
use Rattle.std.specs.Prelude.{◌≡◌, ℕ, ◌/◌, ◌<◌, ◌≤◌, ⊤, Option, Some, None}
use Rattle.vw_cell.specs.Places.{FitsAt, IsInWorld}
use Rattle.history_model.specs.declared.acts.Act.{Act}
use Rattle.history_model.specs.declared.acts.Act.TheVariants.{Fill, Erase, Ball, Carve, Copy, Stamp, Tint, Undo, Redo}
use Rattle.history_model.specs.declared.acts.TintAct.{TintAct}
use Rattle.history_model.specs.declared.acts.TintAct.TheVariants as tints
use Rattle.history_model.specs.Tints.{IsTint}

-- the tinted act's places lie in the world of this side, its tint is one, and its model's number is
-- below 1,024
abbrev pub TintLiesIn : ℕ → TintAct → Type 0
TintLiesIn side (tints.Fill b c) = FitsAt b.at b.size side × IsTint c
TintLiesIn side (tints.Erase b) = FitsAt b.at b.size side
TintLiesIn side (tints.Ball ball c) =
    IsInWorld side ball.centre × (ball.radius ≤ 4095) × IsTint c
TintLiesIn side (tints.Carve ball) = IsInWorld side ball.centre × (ball.radius ≤ 4095)
TintLiesIn side (tints.Copy b to) = FitsAt b.at b.size side × FitsAt to b.size side
TintLiesIn side (tints.Stamp m at) = (m < 1024) × IsInWorld side at

-- the act's boxes and places lie in the world of this side, its radius is at most 4,095 and its
-- model's number below 1,024; a tinted act lies in the world of a quarter of the side
abbrev pub ActLiesIn : ℕ → Act → Type 0
ActLiesIn side (Fill b) = FitsAt b.at b.size side
ActLiesIn side (Erase b) = FitsAt b.at b.size side
ActLiesIn side (Ball ball) = IsInWorld side ball.centre × (ball.radius ≤ 4095)
ActLiesIn side (Carve ball) = IsInWorld side ball.centre × (ball.radius ≤ 4095)
ActLiesIn side (Copy b to) = FitsAt b.at b.size side × FitsAt to b.size side
ActLiesIn side (Stamp m at) = (m < 1024) × IsInWorld side at
ActLiesIn side (Tint t) = TintLiesIn (side / 4) t
ActLiesIn side Undo = ⊤
ActLiesIn side Redo = ⊤

-- a fill and a ball take a tint from 1 to 255, and others any
abbrev pub TakesTint : ℕ → Act → Type 0
TakesTint c (Fill b) = IsTint c
TakesTint c (Ball b) = IsTint c
TakesTint c act = ⊤

-- an answer is this value where the fact holds, and there is none exactly where it doesn't
abbrev pub GivesWhere : {X : Type 0} → Type 0 → X → Option X → Type 0
GivesWhere holds value None = holds → ⊥
GivesWhere holds value (Some x) = holds × (x ≡ value)
