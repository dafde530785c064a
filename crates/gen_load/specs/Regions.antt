-- Where the edits of a load lie: in a region of the world, 64 cells wide along x.
use Rattle.std.specs.Prelude.{◌≡◌, ℕ, ◌+◌, ◌<◌, ◌≤◌}
use Rattle.vw_cell.specs.declared.cells.Cell.{Cell}
use Rattle.vw_cell.specs.declared.boxes.Boxed.{Boxed}
use Rattle.vw_cell.specs.declared.balls.Ball as ball
use Rattle.vw_cell.specs.Places.{IsInBox, IsInBall, IsInWorld, FitsAt}
use Rattle.history_model.specs.declared.acts.Act.{Act}
use Rattle.history_model.specs.declared.acts.Act.TheVariants.{Fill, Erase, Ball, Stamp}

-- the cell is one of the region whose least x this is, in the world of side 256
pub record IsInRegion (x : ℕ) (c : Cell) : Type 0 where
  pub world : IsInWorld 256 c
  pub from : x ≤ c.x
  pub to : c.x < x + 64

-- the box of a model of size 32 at a place
abbrev pub stamped_box : Cell → Boxed
stamped_box at = record { at = at; size = record { x = 32; y = 32; z = 32 } }

-- the box lies in the region
pub record BoxLiesIn (x : ℕ) (b : Boxed) : Type 0 where
  pub fits : FitsAt b.at b.size 256
  pub each : (c : Cell) → IsInBox b c → IsInRegion x c

-- the ball lies in the region with all of its cells, and is one that a world has
pub record BallLiesIn (x : ℕ) (b : ball.Ball) : Type 0 where
  pub centre : IsInWorld 256 b.centre
  pub radius : b.radius ≤ 4095
  pub each : (c : Cell) → IsInBall b c → IsInRegion x c

-- the edit is one of the four that a load has, and lies in the region
abbrev pub EditLiesIn : ℕ → Act → Type 0
EditLiesIn x (Fill b) = BoxLiesIn x b
EditLiesIn x (Erase b) = BoxLiesIn x b
EditLiesIn x (Ball b) = BallLiesIn x b
EditLiesIn x (Stamp m at) = (m ≡ 0) × BoxLiesIn x (stamped_box at)
EditLiesIn x _ = ⊥
