use Rattle.core_laws.proofs.Targets.{target_kept, may_go}
use Rattle.core_laws.proofs.versions.targets_may_be_appended.Goals as goal

pub returns : goal.returns
returns c = record {
  kept = λ p models r state s other may.
      target_kept state.log r.act s.versions.legal.marked other may;
  append = may_go;
}
