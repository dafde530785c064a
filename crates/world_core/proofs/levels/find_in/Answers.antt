use Rattle.world_core.proofs.BucketLaws.{found_live}
use Rattle.world_core.proofs.levels.find_in.Goals as goal

pub returns-in-Some-clause-live : goal.returns-in-Some-clause-live
returns-in-Some-clause-live c =
    found_live c.args.slots.now c.args.key.now c.in-Some.slot c.cap-cap.ensures.bucket c.in-Some.ensures
