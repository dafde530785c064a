use Rattle.gen_load.proofs.Rows.{HasWritten}
use Rattle.gen_load.proofs.loads.next_scripts.Given as goal

abbrev pub invariant-loop-region : goal.invariant-loop-region
invariant-loop-region l = HasWritten l.fn.numbers l.region l.scripts.items l.numbers
