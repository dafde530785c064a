-- Lines of a script rise.
use Rattle.std.proofs.Common.{ℕ, zero, suc, ◌+◌, ◌<◌, ◌≤◌, List, [], ◌∷◌, length, take, get_or, arith}
use Rattle.std.proofs.lemmas.List.Elements.{All-nil, All-cons}
use Rattle.script.specs.declared.commands.ScriptLine.{ScriptLine}
use Rattle.script.specs.Fitting.{RisesFrom}
use Rattle.conformance.specs.Kinds.{IsAfter}

-- lines that rise from a number on stand at it or later
from_number : (n : ℕ) (lines : List ScriptLine) (i : ℕ) (d : ScriptLine) → RisesFrom n lines
    → i < length lines → n ≤ (get_or lines i d).line
from_number n [] i d rises lt = absurd (omega arith)
from_number n (k ∷ lines) zero d rises lt = rises.0
from_number n (k ∷ lines) (suc i) d rises lt =
    let later = from_number (k.line + 1) lines i d rises.2
    (omega arith) in let first = rises.0 in omega arith

pub earlier : (n : ℕ) (lines : List ScriptLine) (i : ℕ) (d : ScriptLine) → RisesFrom n lines
    → i < length lines → IsAfter (take i lines) (get_or lines i d)
earlier n lines zero d rises lt = All-nil _
earlier n [] (suc i) d rises lt = absurd (omega arith)
earlier n (k ∷ lines) (suc i) d rises lt =
    let low = from_number (k.line + 1) lines i d rises.2 (omega arith) in
    All-cons (λ m. m.line < (get_or lines i d).line) k (take i lines) (omega arith)
    (earlier (k.line + 1) lines i d rises.2 (omega arith))
