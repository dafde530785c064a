use Rattle.gen_load.proofs.Rows.{none_written, one_written}
use Rattle.gen_load.proofs.loads.next_scripts.Goals as goal

pub loop-region-init : goal.loop-region-init
loop-region-init c = rw c.in_ok-scripts.ensures.items (none_written c.args.numbers.now)

pub loop-region-preserved : goal.loop-region-preserved
loop-region-preserved c =
    rw c.in_ok-push.ensures.items
    (one_written c.args.numbers.now c.loop-region.region c.loop-region.scripts.items c.loop-region.numbers c.in_ok-next_script.field-0 c.next_script.new.numbers c.loop-region.invariant c.in_ok-next_script.ensures.text c.in_ok-next_script.ensures.state)
