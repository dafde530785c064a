use Rattle.world_run.proofs.OpenLaws.{file_told}
use Rattle.world_run.proofs.open_runs.file_in.Goals as goal

pub returns-clause-file : goal.returns-clause-file
returns-clause-file c =
    file_told c.args.world.now.tint c.args.world.now.table c.args.s.now c.args.k c.index.result.now c.as_slice.result.now c.saved_file.result c.requires.saved c.requires.there c.index.ensures c.as_slice.ensures.value c.saved_file.ensures.file
