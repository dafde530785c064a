use Rattle.std.proofs.Common.{◌≡◌, rules}
use Rattle.voxdag_c.specs.held.Scenes.{RefusesStamps, stamps_from}
use Rattle.voxdag_c.proofs.OfHeld.Scenes.{stamps_refused, stamps_suit}
use Rattle.voxdag_c.proofs.held.scenes.behind_scene.Goals as goal

pub returns-in-Err-clause-refused : goal.returns-in-Err-clause-refused
returns-in-Err-clause-refused c = RefusesStamps.memory

pub world_of_history-requires-clause-suits : goal.world_of_history-requires-clause-suits
world_of_history-requires-clause-suits c =
    stamps_suit c.args.tint c.as_slice.result.now c.in-Ok.records.items c.in-Ok.ensures

pub returns-clause-refused : goal.returns-clause-refused
returns-clause-refused c =
    let are : c.in-Ok.records.items ≡ stamps_from c.args.tint 0 c.args.scene.places = search rules in
    stamps_refused c.args.tint c.args.plan.now c.args.scene c.in-Ok.records.items are _ _
    c.in-Err-world_of_history.why c.status_of_stamps.result (search rules) (search rules)
    c.status_of_stamps.ensures c.in-Err-world_of_history.ensures.refused
