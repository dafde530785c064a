use Rattle.std.proofs.Common.{arith}
use Rattle.voxdag_c.specs.held.Scenes.{RefusesVox}
use Rattle.voxdag_c.proofs.OfHeld.Scenes.{vox_refused}
use Rattle.voxdag_c.proofs.held.scenes.find_models.Goals as goal

pub returns-then-file-gt-MOST_BYTES-clause-refused : goal.returns-then-file-gt-MOST_BYTES-clause-refused
returns-then-file-gt-MOST_BYTES-clause-refused c =
    RefusesVox.too_long (omega (arith, c.if-file-gt-MOST_BYTES.true))

pub returns-in-Err-clause-refused : goal.returns-in-Err-clause-refused
returns-in-Err-clause-refused c =
    vox_refused c.in-Err.fault c.args.file.now c.status_of_file.result c.status_of_file.ensures
    c.in-Err.ensures.refused
