use Rattle.std.proofs.Common.{◌≡◌, ◌+◌, ◌≤◌, take, vec_capacity, vec_len}
use Rattle.conformance.proofs.OfScripts.Saving.{SavedByLines}
use Rattle.conformance.specs.sessions.Saves.{saves_asked_in}
use Rattle.world_run.proofs.accepted.push_accepted.Given as goal

abbrev pub invariant-loop-k : goal.invariant-loop-k
invariant-loop-k l = record {
  saved : SavedByLines l.fn.saves.items l.saves.items (take l.k l.lines) (take l.k l.answers);
  few : vec_len l.saves ≤ vec_len l.fn.saves + saves_asked_in (take l.k l.lines);
  capacity : vec_capacity l.saves ≡ vec_capacity l.fn.saves;
}
