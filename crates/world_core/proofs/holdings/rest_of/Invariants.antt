use Rattle.std.proofs.Common.{[], take}
use Rattle.world_core.specs.Trading.{TradesNames}
use Rattle.world_core.proofs.holdings.rest_of.Given as goal

abbrev pub invariant-loop-n : goal.invariant-loop-n
invariant-loop-n l = TradesNames l.names (take l.n-index l.some) [] l.rest.items
