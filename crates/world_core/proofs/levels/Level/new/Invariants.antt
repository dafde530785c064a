use Rattle.std.proofs.Common.{◌≡◌, None, replicate}
use Rattle.world_core.proofs.levels.Level.new.Given as goal

abbrev pub invariant-loop : goal.invariant-loop
invariant-loop l = l.list.items ≡ replicate l.counter (replicate l.cap None)
