use Rattle.std.proofs.Common.{refl}
use Rattle.voxdag_c.specs.held.Files.{RefusesDag}
use Rattle.voxdag_c.proofs.OfHeld.FileAsks.{file_refused, file_not_boxed}
use Rattle.voxdag_c.proofs.held.files.CFile.from_bytes.Goals as goal

pub returns-in-Err-clause-refused : goal.returns-in-Err-clause-refused
returns-in-Err-clause-refused c = RefusesDag.memory refl

pub returns-in-Ok-read-clause-refused : goal.returns-in-Ok-read-clause-refused
returns-in-Ok-read-clause-refused c =
    file_not_boxed c.args.bytes.now c.args.at.now c.boxed_file.result c.boxed_file.ensures.refused

pub returns-in-Err-read-clause-refused : goal.returns-in-Err-read-clause-refused
returns-in-Err-read-clause-refused c =
    file_refused c.args.bytes.now c.in-Ok.copy.items c.in-Err-read.fault c.args.at.now c.put_fault.new.at
    c.put_fault.result c.in-Ok.ensures.items c.in-Err-read.ensures.fault c.put_fault.ensures
