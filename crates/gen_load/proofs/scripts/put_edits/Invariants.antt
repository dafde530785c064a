use Rattle.std.proofs.Common.{string_bytes}
use Rattle.gen_load.proofs.Rows.{HasPut}
use Rattle.gen_load.proofs.scripts.put_edits.Given as goal

abbrev pub invariant-loop : goal.invariant-loop
invariant-loop l =
    HasPut l.fn.numbers l.x l.counter (string_bytes l.fn.text) (string_bytes l.text) l.numbers
