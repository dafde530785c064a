-- A read that a signal cut off took nothing.
use Rattle.std.specs.Io.KnownBytes.{Keeps}
use Rattle.vw_io.proofs.readers.read_some.Given as goal

abbrev pub invariant-tries : goal.invariant-tries
invariant-tries g l = Keeps (g.F.Read.remaining l.initial.from) (g.F.Read.remaining l.from)
