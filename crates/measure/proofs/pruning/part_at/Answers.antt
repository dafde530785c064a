use Rattle.std.proofs.Common.{arith}
use Rattle.measure.proofs.pruning.part_at.Goals as goal

pub returns-clause-from : goal.returns-clause-from
returns-clause-from c p i box = record {
  x = c.stretch_at-x.ensures.from p.x (omega (arith, i.x, c.side_of-side.ensures)) box.x;
  y = c.stretch_at-y.ensures.from p.y (omega (arith, i.y, c.side_of-side.ensures)) box.y;
  z = c.stretch_at-z.ensures.from p.z (omega (arith, i.z, c.side_of-side.ensures)) box.z;
}

pub returns-clause-to : goal.returns-clause-to
returns-clause-to c p i box = record {
  x = c.stretch_at-x.ensures.to p.x (omega (arith, i.x, c.side_of-side.ensures)) box.x;
  y = c.stretch_at-y.ensures.to p.y (omega (arith, i.y, c.side_of-side.ensures)) box.y;
  z = c.stretch_at-z.ensures.to p.z (omega (arith, i.z, c.side_of-side.ensures)) box.z;
}
