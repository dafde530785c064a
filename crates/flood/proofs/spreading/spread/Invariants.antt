use Rattle.std.proofs.Common.{◌-◌, ◌^◌}
use Rattle.flood.specs.Words.{GrowsAlong}
use Rattle.flood.proofs.spreading.spread.Given as goal

abbrev pub invariant-loop-word : goal.invariant-loop-word
invariant-loop-word l = GrowsAlong l.fn.clear l.fn.seeds l.word

abbrev pub decreases-loop-word : goal.decreases-loop-word
decreases-loop-word l = 2 ^ 64 - l.word
