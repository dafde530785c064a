-- What was replayed gives the file of the whole history.
use Rattle.std.proofs.Common.{◌≡◌, ℕ, ◌-◌, ◌≤◌, List, length, subst}
use Rattle.vox_read.specs.Contents.{Content}
use Rattle.history_model.specs.Logs.{Log}
use Rattle.node_words.specs.shapes.Tree.{Tree}
use Rattle.store_run.specs.Marked.{Rooted, HoldsVersions}
use Rattle.store_run.specs.Worlds.{WorldState}
use Rattle.dag_file.specs.Lists.{HoldsList, DoNumbersRise, AreNumbersSmall, IsFileOfList}
use Rattle.dag_answers.specs.Histories.{IsFileOfHistory}
use Rattle.store_run.proofs.Listed.{roots_held, roots_rise, roots_small}
use Rattle.dag_answers.proofs.FileLaws.{file_of_kept}

module _ (models : List Content) (log : Log) (now : WorldState) (held : List Tree)
    (roots : List Rooted) (side : now.plan.side ≡ log.side) (same : now.models ≡ models)
    (is : now.log ≡ log) (low : 2 ≤ log.side)
    (kept : HoldsVersions now.plan.side now.models now.log held roots) where
  here : HoldsVersions log.side models log held roots
  here =
      subst (λ (l : Log). HoldsVersions log.side models l held roots) is
      (subst (λ (ms : List Content). HoldsVersions log.side ms now.log held roots) same
      (subst (λ (s : ℕ). HoldsVersions s now.models now.log held roots) side kept))

  pub list_held : HoldsList held (log.side - 1) roots
  list_held = roots_held models log held roots low here

  pub list_rises : DoNumbersRise roots
  list_rises = roots_rise models log held roots low here

  pub list_small : length log.records ≤ 65535 → AreNumbersSmall roots
  list_small few = roots_small models log held roots low here few

  pub list_file : (file : List ℕ) → IsFileOfList held (log.side - 1) roots file
      → IsFileOfHistory models log file
  list_file file of = file_of_kept models log held roots low here file of
