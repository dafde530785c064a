use Rattle.voxdag_c.proofs.OfHeld.FileAsks.{shows_none, shows_all}
use Rattle.voxdag_c.proofs.held.file_looks.put_shown.Goals as goal

pub returns-then-voxels-out-clause-writes : goal.returns-then-voxels-out-clause-writes
returns-then-voxels-out-clause-writes c =
    shows_none c.args.voxels.now c.args.out.now c.args.out.now c.if-voxels-out.true

pub returns-clause-writes : goal.returns-clause-writes
returns-clause-writes c =
    shows_all c.args.voxels.now c.args.out.now c.copy_shown.new.out c.if-voxels-out.false c.copy_shown.ensures
