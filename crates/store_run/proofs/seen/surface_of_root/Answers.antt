use Rattle.std.specs.Prelude.{option_copied}
use Rattle.store_run.proofs.SeenCells.{root_seen}
use Rattle.store_run.proofs.seen.surface_of_root.Goals as goal

pub returns-clause-voxels : goal.returns-clause-voxels
returns-clause-voxels c =
    root_seen c.args.versions.now c.args.version (option_copied c.args.root) c.args.part
    c.new-voxels.result.items c.surface_in.new.into.items c.requires.are c.requires.kept
    c.requires.holds c.requires.is c.new-voxels.ensures.items c.in_default.ensures.voxels
    c.requires.inside
