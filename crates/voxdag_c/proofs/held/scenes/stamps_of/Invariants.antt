use Rattle.std.proofs.Common.{◌≡◌, take}
use Rattle.voxdag_c.specs.held.Scenes.{stamps_from}
use Rattle.voxdag_c.proofs.held.scenes.stamps_of.Given as goal

abbrev pub invariant-loop-i : goal.invariant-loop-i
invariant-loop-i l = l.stamps.items ≡ stamps_from l.tint 0 (take l.i l.places)
