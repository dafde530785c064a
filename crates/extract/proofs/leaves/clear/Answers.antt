use Rattle.std.proofs.Common.{arith, refl}
use Rattle.extract.proofs.FillLaws.{zeros_more}
use Rattle.extract.proofs.leaves.clear.Goals as goal

pub loop-m-init : goal.loop-m-init
loop-m-init c m lt = absurd (omega arith)

pub loop-m-preserved : goal.loop-m-preserved
loop-m-preserved c =
    zeros_more c.loop-m.leaves _ c.loop-m.m refl (omega (arith, c.loop-m-test.true, c.leaves_of-m-end.ensures.few, c.fits-leaves)) c.loop-m.invariant

pub returns : goal.returns
returns c = record { zeros = λ m lt. c.loop-m.invariant m (omega (arith, lt, c.leaves_of-m-end.ensures.number)) }
