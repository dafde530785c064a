-- The sum of the numbers before this one.
use Rattle.std.proofs.Common.{◌≡◌, ◌≤◌, ◌^◌, ◌*◌, take}
use Rattle.std.specs.List.{sum}
use Rattle.script_files.proofs.texts.nodes_of.Given as goal

abbrev pub invariant-loop-number : goal.invariant-loop-number
invariant-loop-number l =
    (l.nodes ≡ sum (take l.number-index l.numbers)) × (l.nodes ≤ l.number-index * 2 ^ 32)
