use Rattle.std.proofs.Common.{◌+◌, ◌-◌, arith}
use Rattle.vw_cell.specs.Counts.{cell_at}
use Rattle.extract.specs.Surface.{bare_sides_of, voxel_of_sides}
use Rattle.extract.proofs.ListingLaws.{none_joined, appends_run, room_run}
use Rattle.extract.proofs.surfaces.row_in_room.Goals as goal

pub loop-p-init : goal.loop-p-init
loop-p-init c =
    record { within = omega arith; appended = λ side cells held. none_joined _ c.args.into.now }

pub step_in_room-p-requires-clause-room : goal.step_in_room-p-requires-clause-room
step_in_room-p-requires-clause-room c =
    let side = c.requires.room.0 in
    let cells = c.requires.room.1 in
    let held = c.requires.room.2 in
    let b = c.args.b in (
      side,
      cells,
      held,
      room_run c.loop-p.p (b.size.x - c.loop-p.p) b.size.x
          (λ i. voxel_of_sides
          (bare_sides_of side cells (cell_at (b.at.x + i) (b.at.y + c.args.y) (b.at.z + c.args.z)))
          i c.args.y c.args.z) c.args.into.now c.loop-p.into (omega arith) c.requires.room.3
          (c.loop-p.invariant.appended side cells held),
    )

pub loop-p-preserved : goal.loop-p-preserved
loop-p-preserved c =
    let b = c.args.b in
    record {
      within = c.step_in_room-p.ensures.within;
      appended = λ side cells held.
          appends_run c.loop-p.p c.step_in_room-p.result
          (λ i. voxel_of_sides
          (bare_sides_of side cells (cell_at (b.at.x + i) (b.at.y + c.args.y) (b.at.z + c.args.z)))
          i c.args.y c.args.z) c.args.into.now c.loop-p.into c.step_in_room-p.new.into
          (c.loop-p.invariant.appended side cells held)
          (c.step_in_room-p.ensures.appended side cells held);
    }
