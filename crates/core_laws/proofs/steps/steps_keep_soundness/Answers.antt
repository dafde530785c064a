use Rattle.core_laws.proofs.StepLaws.{step_sound, of_step, reseats_sound, step_cells}
use Rattle.core_laws.proofs.steps.steps_keep_soundness.Goals as goal

pub returns : goal.returns
returns c =
    record { sound = step_sound; store = of_step; reseats = reseats_sound; cells = step_cells }
