use Rattle.node_table.specs.Begins.{terms_of}
use Rattle.world_run.proofs.RoomLaws.{rooms_empty}
use Rattle.world_run.proofs.Working.{all_may, new_held, works_done, works_many}
use Rattle.world_run.proofs.runs.run_in.Goals as goal

pub give_up_rooms-requires : goal.give_up_rooms-requires
give_up_rooms-requires g c =
    rooms_empty c.args.scripts.now c.args.start.rooms.items c.requires.begun.rooms

pub end_all-requires-clause-held : goal.end_all-requires-clause-held
end_all-requires-clause-held g c =
    new_held c.args.world.table.id
    (terms_of c.args.world.table) c.args.start.sessions.items c.requires.begun.new

pub run_works-works-requires-clause-may : goal.run_works-works-requires-clause-may
run_works-works-requires-clause-may g c =
    λ κs bounds. all_may c.args.world 0 c.args.scripts.now c.give_out-works.result.items c.give_out-works.ensures.works

pub take_in-sessions-requires-clause-done : goal.take_in-sessions-requires-clause-done
take_in-sessions-requires-clause-done g c =
    works_done c.args.world c.args.scripts.now c.give_out-works.result.items c.run_works-works.result.items c.give_out-works.ensures.works c.run_works-works.ensures.ran

pub take_in-sessions-requires-clause-many : goal.take_in-sessions-requires-clause-many
take_in-sessions-requires-clause-many g c =
    works_many c.args.world c.args.scripts.now c.give_out-works.result.items c.run_works-works.result.items c.give_out-works.ensures.works c.run_works-works.ensures.ran
