use lib.Seq.{paste}
use Rattle.std.proofs.Common.{◌≡◌}
use Rattle.std.specs.Prelude.{map}
use Rattle.voxdag_c.specs.held.Places.{shown_by}
use Rattle.voxdag_c.proofs.held.shown.copy_shown.Given as goal

abbrev pub invariant-loop-i : goal.invariant-loop-i
invariant-loop-i l = l.out ≡ paste l.initial.out 0 (map (shown_by (λ v. 1)) l.voxels) l.i
