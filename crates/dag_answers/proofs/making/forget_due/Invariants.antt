use Rattle.std.proofs.Common.{◌≡◌, ◌-◌, ◌≤◌, length}
use Rattle.dag_answers.specs.Replays.{HasReplayed}
use Rattle.dag_answers.proofs.making.forget_due.Given as goal

abbrev pub invariant-loop-next : goal.invariant-loop-next
invariant-loop-next g l = record {
  plan : l.replay.plan ≡ l.fn.replay.plan;
  models : l.replay.models ≡ l.fn.replay.models;
  next : l.next ≤ length l.due;
  number : length l.replay.log.records ≡ l.now;
  so_far : HasReplayed l.fn.replay.models l.history l.due l.now l.next l.replay;
}

abbrev pub decreases-loop-next : goal.decreases-loop-next
decreases-loop-next g l = length l.due - l.next
