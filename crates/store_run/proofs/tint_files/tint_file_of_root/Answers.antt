use Rattle.store_run.proofs.TintFiles.{box_of_quarter}
use Rattle.store_run.proofs.tint_files.tint_file_of_root.Goals as goal

pub tint_file-requires-clause-inside : goal.tint_file-requires-clause-inside
tint_file-requires-clause-inside c =
    box_of_quarter c.args.versions.now c.args.part c.requires.are c.requires.tinted c.requires.inside
