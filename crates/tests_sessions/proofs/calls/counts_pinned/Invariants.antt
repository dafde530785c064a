use Rattle.std.proofs.Common.{◌≡◌}
use Rattle.version_log.specs.Pins.{IsPinned}
use Rattle.session.specs.Resting.{IsAtRest}
use Rattle.tests_sessions.proofs.calls.counts_pinned.Given as goal

abbrev pub invariant-loop-k : goal.invariant-loop-k
invariant-loop-k g l = record {
  rest : IsAtRest l.world.table l.s;
  pinned : IsPinned l.s.view l.p;
  held : l.s.view.held ≡ l.fn.s.view.held;
}
