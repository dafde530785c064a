use Rattle.std.proofs.Common.{◌+◌, ◌-◌, List, length, arith, refl, sym, subst}
use Rattle.vox_read.specs.declared.voxels.Voxel.{Voxel}
use Rattle.extract.specs.Layers.{HasRoom, AppendsVoxels}
use Rattle.extract.specs.Surface.{bare_sides_of}
use Rattle.extract.proofs.LeafLaws.{run_inside, run_index}
use Rattle.extract.proofs.SurfaceLaws.{blank_part, blank_appends, run_is_surface, room_part}
use Rattle.extract.proofs.surfaces.step_in_room.Goals as goal

pub returns-then-blank-gt0-clause-appended : goal.returns-then-blank-gt0-clause-appended
returns-then-blank-gt0-clause-appended c side cells held =
    blank_appends _ _
    (blank_part c.args.slab.now c.args.b c.args.z c.args.y c.args.p c.blank_cells.result (c.args.row + c.from.result) c.args.row side cells c.requires.b c.requires.y
    (omega (arith, c.blank_cells.ensures.within, c.requires.p)) c.requires.row c.requires.inside
    (run_index _ _ _ _ refl c.from.ensures) (omega (arith, c.blank_cells.ensures.leaves)) held)

pub run_in_room-requires-clause-room : goal.run_in_room-requires-clause-room
run_in_room-requires-clause-room c =
    let side = c.requires.room.0 in
    let cells = c.requires.room.1 in
    let held = c.requires.room.2 in
    let b = c.args.b in
    let run =
    run_is_surface c.args.slab.now.words b c.args.z c.args.y c.args.p c.run_length-n.result (c.args.row + c.from.result) side cells c.requires.b c.requires.y
    (omega (arith, c.run_length-n.ensures.within, c.requires.p)) c.run_length-n.ensures.leaf
    (run_index _ _ _ _ c.requires.row c.from.ensures)
    (run_inside b c.args.y c.args.p c.args.row _ c.requires.b c.requires.y c.requires.p c.requires.inside (run_index _ _ _ _ refl c.from.ensures)) c.run_length-n.ensures.some held.bare
    in
    subst (λ (xs : List Voxel). HasRoom c.args.into.now (length xs)) (sym run)
    (room_part (bare_sides_of side cells) b c.args.z c.args.y c.args.p c.run_length-n.result (b.size.x - c.args.p) c.args.into.now c.run_length-n.ensures.within c.requires.room.3)

pub returns-clause-appended : goal.returns-clause-appended
returns-clause-appended c side cells held =
    let b = c.args.b in
    let run =
    run_is_surface c.args.slab.now.words b c.args.z c.args.y c.args.p c.run_length-n.result (c.args.row + c.from.result) side cells c.requires.b c.requires.y
    (omega (arith, c.run_length-n.ensures.within, c.requires.p)) c.run_length-n.ensures.leaf
    (run_index _ _ _ _ c.requires.row c.from.ensures)
    (run_inside b c.args.y c.args.p c.args.row _ c.requires.b c.requires.y c.requires.p c.requires.inside (run_index _ _ _ _ refl c.from.ensures)) c.run_length-n.ensures.some held.bare
    in
    subst (λ (xs : List Voxel). AppendsVoxels xs c.args.into.now c.run_in_room.new.into) run
    c.run_in_room.ensures

pub run_in_room-requires-clause-any : goal.run_in_room-requires-clause-any
run_in_room-requires-clause-any c =
    let held = c.requires.room.2 in
    held.any.each (c.args.row + c.from.result)
    (run_inside c.args.b c.args.y c.args.p c.args.row _ c.requires.b c.requires.y c.requires.p
    c.requires.inside (run_index _ _ _ _ refl c.from.ensures))
