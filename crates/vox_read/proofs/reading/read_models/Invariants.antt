use Rattle.std.proofs.Common.{◌-◌}
use Rattle.vox_read.proofs.Coming.{HasCome}
use Rattle.vox_read.proofs.reading.read_models.Given as goal

abbrev pub invariant-loop-next : goal.invariant-loop-next
invariant-loop-next l = HasCome l.bytes l.chunks l.waiting l.list.items

abbrev pub decreases-loop-next : goal.decreases-loop-next
decreases-loop-next l = l.chunks.end - l.chunks.at
