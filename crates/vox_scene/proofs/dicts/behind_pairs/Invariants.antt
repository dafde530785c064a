use Rattle.std.proofs.Common.{◌≡◌}
use Rattle.vox_scene.specs.Dicts.{rest_behind, dict_pairs}
use Rattle.vox_scene.proofs.dicts.behind_pairs.Given as goal

abbrev pub invariant-loop-left : goal.invariant-loop-left
invariant-loop-left l =
    rest_behind (dict_pairs l.fn.number l.fn.bytes) ≡ rest_behind (dict_pairs l.left l.rest)

abbrev pub decreases-loop-left : goal.decreases-loop-left
decreases-loop-left l = l.left
