use Rattle.std.proofs.Common.{refl}
use Rattle.voxdag_c.proofs.OfHeld.GoingOn.{goes_on_open, goes_on_begun, goes_on_not}
use Rattle.voxdag_c.proofs.voxdag_c_open_journal.Goals as goal

pub returns-in-Some : goal.returns-in-Some
returns-in-Some c =
    goes_on_open c.args.cap c.args.keep c.args.file.now c.args.journal.now c.args.line.now c.args.line.now
    _ _ c.in-Some.world.value c.in-Some.ensures.taken c.put.ensures refl

pub returns-in-Ok : goal.returns-in-Ok
returns-in-Ok c =
    goes_on_begun c.args.cap c.args.keep c.args.file.now c.args.journal.now c.args.line.now
    c.from_journal.new.line
    _ _ c.in-Ok.world.value c.in-None.ensures.taken c.put-in-Ok.ensures
    c.in-Ok.ensures.gone_on c.in-Ok.ensures.line

pub returns-in-Err : goal.returns-in-Err
returns-in-Err c =
    goes_on_not c.args.cap c.args.keep c.args.file.now c.args.journal.now c.args.line.now
    c.from_journal.new.line
    _ _ c.in-Err.status c.in-None.ensures.taken c.take.ensures.gone c.in-Err.ensures.refused
