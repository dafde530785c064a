use Rattle.std.proofs.Common.{◌≡◌, ◌≤◌, ◌^◌, ◌*◌, take}
use Rattle.std.specs.Prelude.{sum_by}
use Rattle.vox_read.specs.Contents.{cells_in_size}
use Rattle.commands.proofs.counts.total.Given as goal

abbrev pub invariant-loop-model : goal.invariant-loop-model
invariant-loop-model l =
    (l.cells ≡ sum_by cells_in_size (take l.model-index l.models))
    × (l.cells ≤ l.model-index * 2 ^ 32)
