-- What has gone out so far are the first bytes.
use Rattle.std.proofs.Common.{◌≤◌, length, take}
use Rattle.std.specs.Io.KnownBytes.{Appends}
use Rattle.vw_io.proofs.writers.write_whole.Given as goal

abbrev pub invariant-pieces : goal.invariant-pieces
invariant-pieces g l = record {
  within : l.done ≤ length l.bytes;
  sent : Appends (g.W.Write.contents l.initial.to) (g.W.Write.contents l.to) (take l.done l.bytes);
}
