use Rattle.vox_read.proofs.Coming.{come_none, come_more, come_all}
use Rattle.vox_read.proofs.Sound.{models_of_file}
use Rattle.vox_read.proofs.reading.read_models.Goals as goal

pub loop-next-init : goal.loop-next-init
loop-next-init c =
    rw (c.new-list.ensures.items)
    (come_none c.args.bytes.now c.in_ok-chunks.chunks c.in_ok-chunks.ensures.0 c.in_ok-chunks.ensures.1)

pub loop-next-preserved : goal.loop-next-preserved
loop-next-preserved c =
    come_more c.args.bytes.now c.loop-next.chunks c.next.new.self c.loop-next.waiting c.in_ok-waiting-in-Ok.waiting c.loop-next.list.items c.take_chunk.new.list.items c.in-Ok.chunk c.loop-next.invariant (rw c.in-Ok.is at c.in-Some.ensures)
    c.in_ok-waiting-in-Ok.ensures.fine c.in_ok-waiting-in-Ok.ensures.waits c.in_ok-waiting-in-Ok.ensures.models

pub returns-clause-read : goal.returns-clause-read
returns-clause-read c =
    come_all c.args.bytes.now c.loop-next.chunks c.next.new.self c.loop-next.waiting c.loop-next.list.items c.loop-next.invariant c.in_default.ensures

pub returns-clause-models : goal.returns-clause-models
returns-clause-models c =
    models_of_file c.args.bytes.now c.loop-next.list.items (returns-clause-read c)
