use Rattle.node_table.specs.Learning.{Learns}
use Rattle.node_table.specs.TableStates.{bucket_named}
use Rattle.node_table.proofs.Scans.{HasSought}
use Rattle.node_table.proofs.scan.seek.Given as goal

abbrev pub invariant-loop-slot : goal.invariant-loop-slot
invariant-loop-slot l =
    Learns l.fn.seat l.seat
    × HasSought l.seat.view.words l.key (bucket_named l.level l.bucket) l.used l.slot l.free
