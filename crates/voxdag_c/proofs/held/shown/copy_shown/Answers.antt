use Rattle.std.proofs.Common.{◌<◌, arith, length, ◌∙◌}
use Rattle.voxdag_c.specs.held.Places.{shown_by}
use Rattle.voxdag_c.proofs.OfHeld.Seen.{one_shown}
use Rattle.voxdag_c.proofs.held.shown.copy_shown.Goals as goal

pub loop-i-preserved : goal.loop-i-preserved
loop-i-preserved c =
    one_shown (λ v. 1) c.args.voxels.now c.args.out.now c.loop-i.out c.loop-i.i _ c.of.result
    (omega (arith, c.loop-i-test.true)) c.requires c.loop-i.invariant c.of.ensures
