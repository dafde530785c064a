use Rattle.store_run.proofs.TintFiles.{box_of_quarter}
use Rattle.store_run.proofs.seen.tints_of_root.Goals as goal

pub tints_of-requires-clause-inside : goal.tints_of-requires-clause-inside
tints_of-requires-clause-inside c =
    box_of_quarter c.args.versions.now c.args.part c.requires.are c.requires.tinted
    c.requires.inside
