use Rattle.std.proofs.Common.{List, arith, length, refl, subst, sym}
use Rattle.vox_read.specs.declared.voxels.Voxel.{Voxel}
use Rattle.extract.specs.Layers.{HasRoom, AppendsVoxels}
use Rattle.extract.proofs.SurfaceLaws.{run_is_told}
use Rattle.extract.proofs.surfaces.cells_in_room.Goals as goal

pub sides_in_room-requires-clause-room : goal.sides_in_room-requires-clause-room
sides_in_room-requires-clause-room c =
    subst (λ (xs : List Voxel). HasRoom c.args.into.now (length xs))
    (sym (run_is_told _ 0 4 c.args.n c.args.leaf c.args.at c.args.to
    (omega (arith, c.requires.row.x)) (omega arith) c.requires.row.x c.row_sides-row.ensures))
    c.requires.room

pub returns-then-n-eq4 : goal.returns-then-n-eq4
returns-then-n-eq4 c =
    subst (λ (xs : List Voxel). AppendsVoxels xs c.args.into.now c.sides_in_room.new.into)
    (run_is_told _ 0 4 c.args.n c.args.leaf c.args.at c.args.to
    (omega (arith, c.requires.row.x)) (omega arith) c.requires.row.x c.row_sides-row.ensures)
    c.sides_in_room.ensures

pub sides_in_room-requires-2-clause-room : goal.sides_in_room-requires-2-clause-room
sides_in_room-requires-2-clause-room c =
    subst (λ (xs : List Voxel). HasRoom c.args.into.now (length xs))
    (sym (run_is_told _ c.args.at.x c.args.n c.args.n c.args.leaf c.args.at c.args.to refl refl
    c.requires.row.x c.row_sides-row.ensures)) c.requires.room

pub returns : goal.returns
returns c =
    subst (λ (xs : List Voxel). AppendsVoxels xs c.args.into.now c.sides_in_room-2.new.into)
    (run_is_told _ c.args.at.x c.args.n c.args.n c.args.leaf c.args.at c.args.to refl refl
    c.requires.row.x c.row_sides-row.ensures) c.sides_in_room-2.ensures
