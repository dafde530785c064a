use Rattle.std.proofs.Common.{◌≡◌, ◌^◌, ◌≤◌, List, take}
use Rattle.history_model.specs.declared.histories.Mark.{Mark}
use Rattle.history_model.specs.Positions.{position_after}
use Rattle.undo.specs.Trails.{trail_position}
use Rattle.store_run.specs.Replaying.{AreLegalRecords}
use Rattle.dag_answers.specs.Legality.{TellsEnds}
use Rattle.dag_answers.proofs.legality.find_illegal.Given as goal

abbrev pub invariant-loop-record : goal.invariant-loop-record
invariant-loop-record l = record {
  number : l.number ≡ l.record-index;
  few : l.number ≤ 65535;
  position : trail_position l.trail ≡ position_after (take l.record-index l.records);
  legal : ((marks : List Mark) → TellsEnds marks l.ends
      → AreLegalRecords (2 ^ l.side) l.models marks (take l.record-index l.records));
}
