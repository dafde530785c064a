use Rattle.std.proofs.Common.{◌≡◌, ◌<◌, ◌≤◌, length, drop}
use Rattle.std.specs.Prelude.{All}
use Rattle.dag_answers.specs.Replays.{HasReplayed}
use Rattle.dag_answers.proofs.making.replay_all.Given as goal

abbrev pub invariant-loop-record : goal.invariant-loop-record
invariant-loop-record g l = record {
  plan : l.replay.plan ≡ l.fn.replay.plan;
  next : l.next ≤ length l.due;
  so_far : HasReplayed l.fn.replay.models l.history l.due l.record-index l.next l.replay;
  later : All (λ m. l.record-index < m.at) (drop l.next l.due);
}
