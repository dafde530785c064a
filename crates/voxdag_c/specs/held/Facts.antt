-- The file of the versions that are held, and what a world is.
use Rattle.std.specs.Prelude.{◌≡◌, ℕ, List}
use Rattle.vw_cell.specs.Sums.{one_if}
use Rattle.dag_answers.specs.Histories.{IsFileOfHistory}
use Rattle.voxdag_c.specs.declared.held.plans.CPlan.{CPlan}
use Rattle.voxdag_c.specs.declared.held.worlds.CWorld.{CWorld}
use Rattle.voxdag_c.specs.held.Calls.{WritesBytes, WritesNothing, held_side}

-- the file of the versions of the world's history that aren't forgotten
pub data WorldFiles (w : CWorld) (old new : List ℕ) (before needed : ℕ) : ℕ → Type 0 where
  made : (status : ℕ) (file : List ℕ) → IsFileOfHistory w.open.models w.open.log file
      → WritesBytes file old new needed status
      → WorldFiles w old new before needed status
  memory : WritesNothing old new before needed → WorldFiles w old new before needed 2

-- the side in cells, the slots of a bucket, how many versions are kept, 0 for all, and whether
-- cells have tints
pub record PutsPlan (w : CWorld) (status : ℕ) (plan : CPlan) : Type 0 where
  pub done : status ≡ 0
  pub side : plan.side ≡ held_side w
  pub cap : plan.cap ≡ w.open.plan.cap
  pub keep : plan.keep ≡ w.keep
  pub tints : plan.tints ≡ one_if w.open.log.coloured
