use Rattle.gen_load.proofs.Rows.{HasDrawn}
use Rattle.gen_load.proofs.voxels.next_voxels.Given as goal

abbrev pub invariant-loop : goal.invariant-loop
invariant-loop l =
    HasDrawn (record { x = 32; y = 32; z = 32 }) l.fn.numbers l.counter l.voxels.items l.numbers
