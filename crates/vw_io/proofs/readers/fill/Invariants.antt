-- The bytes read so far stand in the vector, and are no more than the limit.
use Rattle.std.proofs.Common.{◌≤◌, vec_len, take}
use Rattle.std.specs.Io.KnownBytes.{Consumes}
use Rattle.vw_io.proofs.readers.fill.Given as goal

abbrev pub invariant-pieces : goal.invariant-pieces
invariant-pieces g l = record {
  held : l.filled ≤ vec_len l.into;
  within : l.filled ≤ l.limit;
  bytes : Consumes (g.F.Read.remaining l.initial.from) (g.F.Read.remaining l.from)
      (take l.filled l.into.items);
}
