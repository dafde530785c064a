use Rattle.std.proofs.Common.{string_capacity}
use Rattle.commands.proofs.Putting.{failed_fits}
use Rattle.commands.proofs.puts.put_out.Goals as goal

pub fault_line-requires-clause-room : goal.fault_line-requires-clause-room
fault_line-requires-clause-room g c =
    let refused = c.in-Err.refused in
    failed_fits refused.why refused.name.now c.args.outputs.now (g.S.Shelf.state c.args.shelf.now)
    (g.S.Shelf.state c.write_all.new.shelf) c.longest_name-longest.result
    (string_capacity c.in-Ok.room) c.in-Failed.is c.in-Err.ensures.refused
    c.longest_name-longest.ensures.is c.in-Ok.ensures.capacity
