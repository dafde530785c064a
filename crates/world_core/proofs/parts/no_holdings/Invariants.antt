use Rattle.std.proofs.Common.{◌≡◌, [], replicate}
use Rattle.world_core.proofs.parts.no_holdings.Given as goal

abbrev pub invariant-loop : goal.invariant-loop
invariant-loop l = l.held.items ≡ replicate l.counter []
