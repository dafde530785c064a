use Rattle.std.proofs.Common.{◌+◌, arith}
use Rattle.node_table.proofs.UsedLaws.{used_now}
use Rattle.node_table.proofs.scan.use_slot.Goals as goal

pub returns-then-used-slot : goal.returns-then-used-slot
returns-then-used-slot c =
    let u = c.count_used-used in let r = c.raise_used in
    used_now c.args.seat.now u.new.seat c.args.name u.result u.ensures.learns u.ensures.known
    r.new.seat (c.from-slot.result + 1) r.ensures.same r.ensures.view
    (let e = c.from-slot.ensures in omega arith)
