use Rattle.core_laws.proofs.EntrySteps.{step_entries, step_keys}
use Rattle.core_laws.proofs.StepLaws.{tree_kept, step_spares, leaves}
use Rattle.core_laws.proofs.steps.store_steps_keep_soundness.Goals as goal

pub returns : goal.returns
returns c = record {
  sound = step_entries;
  keys = step_keys;
  tree = tree_kept;
  spared = step_spares;
  leaves =
      λ p holder n old new step live none.
      (let r = leaves p holder n old new step live none in (r.last, r.step));
}
