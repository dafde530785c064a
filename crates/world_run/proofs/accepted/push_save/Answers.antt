use Rattle.std.proofs.Common.{ap, arith, length}
use Rattle.world_run.proofs.Accepting.{one_asked}
use Rattle.world_run.proofs.accepted.push_save.Goals as goal

pub push_reserved-requires : goal.push_reserved-requires
push_reserved-requires c =
    let one = one_asked c.args.command c.args.at c.args.answer in
    let is = ap length c.in-Some.ensures in
    omega arith
