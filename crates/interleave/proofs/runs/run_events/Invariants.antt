use Rattle.std.proofs.Common.{◌≡◌, take}
use Rattle.interleave.specs.Runs.{HasRun}
use Rattle.world_core.specs.Stored.{stored_state}
use Rattle.interleave.proofs.runs.run_events.Given as goal

abbrev pub invariant-loop-event : goal.invariant-loop-event
invariant-loop-event l = record {
  plan : l.core.plan ≡ l.plan;
  models : l.core.models ≡ l.models;
  run : HasRun l.plan l.models l.sessions (take l.event-index l.events) l.replies.items
      (stored_state l.core);
}
