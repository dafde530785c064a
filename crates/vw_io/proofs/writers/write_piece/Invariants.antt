-- A write that a signal cut off took nothing.
use Rattle.std.specs.Io.KnownBytes.{Keeps}
use Rattle.vw_io.proofs.writers.write_piece.Given as goal

abbrev pub invariant-tries : goal.invariant-tries
invariant-tries g l = Keeps (g.W.Write.contents l.initial.to) (g.W.Write.contents l.to)
