use Rattle.std.proofs.Common.{refl}
use Rattle.voxdag_c.proofs.OfHeld.FileAsks.{opens_dag_again, opens_dag, opens_dag_not}
use Rattle.voxdag_c.proofs.voxdag_c_versions_open.Goals as goal

pub returns-in-Some : goal.returns-in-Some
returns-in-Some c =
    opens_dag_again c.args.file.now c.args.at.now c.args.at.now _ _ c.in-Some.held.value c.in-Some.ensures.taken c.put.ensures
    refl

pub returns-in-Ok : goal.returns-in-Ok
returns-in-Ok c =
    opens_dag c.args.file.now c.args.at.now c.from_bytes.new.at _ _ c.in-Ok.held.value c.in-None.ensures.taken c.put-in-Ok.ensures
    c.in-Ok.ensures.opened c.in-Ok.ensures.same

pub returns-in-Err : goal.returns-in-Err
returns-in-Err c =
    opens_dag_not c.args.file.now c.args.at.now c.from_bytes.new.at _ _ c.in-Err.status c.in-None.ensures.taken
    c.take.ensures.gone c.in-Err.ensures.refused
