use Rattle.std.proofs.Common.{◌≡◌, ◌^◌, List, length, take}
use Rattle.history_model.specs.declared.histories.Mark.{Mark}
use Rattle.store_run.specs.Replaying.{MakesOnlyParts}
use Rattle.audit.specs.Marks.{TellsMarks}
use Rattle.audit.proofs.Following.{HasReplayed}
use Rattle.audit.proofs.replaying.replay_all.Given as goal

abbrev pub invariant-loop-record : goal.invariant-loop-record
invariant-loop-record g l = record {
  plan : l.replay.plan ≡ l.fn.replay.plan;
  tint : l.replay.tint ≡ l.fn.replay.tint;
  models : l.replay.models ≡ l.fn.replay.models;
  number : length l.replay.records ≡ l.record-index;
  are : l.replay.records ≡ take l.record-index l.records;
  made : MakesOnlyParts l.replay;
  so_far : ((marks : List Mark) → TellsMarks marks l.table
      → HasReplayed (2 ^ l.fn.replay.plan.side) l.fn.replay.models marks l.records l.record-index
      l.replay.records l.ways.items);
}
