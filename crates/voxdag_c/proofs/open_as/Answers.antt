use Rattle.voxdag_c.proofs.Through.{opens_again, opens_begun, opens_not}
use Rattle.voxdag_c.proofs.open_as.Goals as goal

pub returns-in-Some : goal.returns-in-Some
returns-in-Some c =
    opens_again c.args.tint c.args.side c.args.cap c.args.keep c.args.file.now _ _ c.in-Some.world.value c.in-Some.ensures.taken c.put.ensures

pub returns-in-Ok : goal.returns-in-Ok
returns-in-Ok c =
    opens_begun c.args.tint c.args.side c.args.cap c.args.keep c.args.file.now _ _ c.in-Ok.world.value c.in_default.ensures.taken c.put-in-Ok.ensures c.in-Ok.ensures.begun

pub returns-in-Err : goal.returns-in-Err
returns-in-Err c =
    opens_not c.args.tint c.args.side c.args.cap c.args.keep c.args.file.now _ _ c.in-Err.status c.in_default.ensures.taken c.take.ensures.gone c.in-Err.ensures.refused
