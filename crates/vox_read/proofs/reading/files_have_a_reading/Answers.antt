use Rattle.vox_read.proofs.Every.{some_reading}
use Rattle.vox_read.proofs.reading.files_have_a_reading.Goals as goal

pub returns : goal.returns
returns c = some_reading
