use Rattle.world_run.proofs.RoomLaws.{rooms_empty}
use Rattle.world_run.proofs.runs.run_scripts.Goals as goal

pub give_up_rooms-requires : goal.give_up_rooms-requires
give_up_rooms-requires g c =
    rooms_empty c.args.scripts.now c.in_ok-rooms.rooms.items c.in_ok-rooms.ensures

pub give_up_rooms-requires-in-Err : goal.give_up_rooms-requires-in-Err
give_up_rooms-requires-in-Err g c =
    rooms_empty c.args.scripts.now c.in_ok-rooms.rooms.items c.in_ok-rooms.ensures
