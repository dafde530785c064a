use Rattle.std.proofs.Common.{string_bytes}
use Rattle.gen_load.proofs.Rows.{none_put, one_put}
use Rattle.gen_load.proofs.scripts.put_edits.Goals as goal

pub loop-init : goal.loop-init
loop-init c = none_put c.args.numbers.now c.args.x (string_bytes c.args.text.now)

pub loop-preserved : goal.loop-preserved
loop-preserved c =
    one_put c.args.numbers.now c.args.x c.loop.counter (string_bytes c.args.text.now)
    (string_bytes c.loop.text) c.loop.numbers c.next_edit.result
    (string_bytes c.put_edit.new.text) c.next_edit.new.numbers c.loop.invariant c.next_edit.ensures.edit c.in_ok-put_edit.ensures c.next_edit.ensures.state
