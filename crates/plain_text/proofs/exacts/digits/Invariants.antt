use Rattle.std.proofs.Common.{◌≡◌, ◌≤◌, ◌+◌, drop}
use Rattle.plain_text.specs.Numbers.{number_from}
use Rattle.plain_text.proofs.exacts.digits.Given as goal

abbrev pub invariant-loop-b : goal.invariant-loop-b
invariant-loop-b l =
    (number_from (l.most + 1) l.n (drop l.b-index l.word) ≡ number_from (l.most + 1) 0 l.word)
    × (l.n ≤ l.most)
