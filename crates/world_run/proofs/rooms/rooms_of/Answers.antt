use Rattle.std.proofs.Common.{arith, take}
use Rattle.world_run.proofs.RoomLaws.{next_room, rooms_empty}
use Rattle.world_run.proofs.rooms.rooms_of.Goals as goal

pub give_up_rooms-requires : goal.give_up_rooms-requires
give_up_rooms-requires c =
    rooms_empty
    (take c.loop-script.script-index c.args.scripts.now) c.loop-script.rooms.items c.loop-script.invariant.rooms

pub loop-script-preserved : goal.loop-script-preserved
loop-script-preserved c =
    let len = c.loop-script.invariant.len in
    let pushed = c.push_reserved.ensures.len in
    let room = c.loop-script.invariant.capacity in
    let wide = c.push_reserved.ensures.capacity in
    record {
      rooms = next_room c.args.scripts.now c.loop-script.script-index c.script-item.result c.loop-script.rooms.items c.push_reserved.new.self.items c.in-Ok.room c.loop-script-test.true c.script-item.is
          c.push_reserved.ensures.items c.loop-script.invariant.rooms c.in-Ok.ensures;
      len = omega arith;
      capacity = omega arith;
    }
