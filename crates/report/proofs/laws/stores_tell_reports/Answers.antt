use Rattle.history_model.specs.Stores.{store_has}
use Rattle.core_laws.specs.contents.Aligned.{world_block}
use Rattle.core_laws.specs.contents.Versions.{HoldsVersion}
use Rattle.report.proofs.RootLaws.{sound_roots}
use Rattle.report.proofs.NumberLaws.{one_number, numbers_told}
use Rattle.report.proofs.OneReport.{one_report}
use Rattle.report.proofs.laws.stores_tell_reports.Goals as goal

pub returns : goal.returns
returns c = record {
  roots = sound_roots;
  numbers = numbers_told;
  one_number = λ models log level a b. one_number (world_block log.side)
      (λ v. store_has models log v) (HoldsVersion log) level a b;
  one_report = one_report;
}
