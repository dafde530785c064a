use Rattle.vox_read.specs.Once.{one_reading}
use Rattle.vox_read.proofs.reading.files_have_one_reading.Goals as goal

pub returns : goal.returns
returns c = one_reading
