use Rattle.std.proofs.Common.{arith, length}
use Rattle.world_core.proofs.BucketLaws.{taken_live, lower_live}
use Rattle.world_core.proofs.levels.add_to.Goals as goal

pub returns-in-Ok-clause-live : goal.returns-in-Ok-clause-live
returns-in-Ok-clause-live c =
    lower_live c.args.slots.now c.in-Ok.slot c.cap-cap.ensures.bucket c.in-Ok.ensures.free

pub returns-in-Err-clause-live : goal.returns-in-Err-clause-live
returns-in-Err-clause-live c =
    taken_live c.args.slots.now (length c.args.slots.now) c.cap-cap.ensures.bucket
    (omega arith) c.in-Err.ensures.full
