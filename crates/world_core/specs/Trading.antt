-- Names that are taken out of a list of names, or put into it, told by what they weigh.
use Rattle.std.specs.Prelude.{◌≡◌, ◌≤◌, ◌+◌, ℕ, Option, List, sum_by}
use Rattle.node_words.specs.declared.shapes.names.Name.{Name}
use Rattle.core_laws.specs.Counting.{weight}

-- what the names weigh that are there
abbrev pub weights : List (Option Name) → (Name → ℕ) → ℕ
weights some f = sum_by (weight f) some

-- the list has all these names, counted with repeats
pub record HasAll (names : List Name) (some : List (Option Name)) : Type 0 where
  pub weighs : (f : Name → ℕ) → weights some f ≤ sum_by f names

-- some names were taken out of a list, and some others put in
pub record TradesNames (names : List Name) (gives takes : List (Option Name))
    (after : List Name) : Type 0 where
  pub weighs : (f : Name → ℕ) → sum_by f after + weights gives f ≡ sum_by f names + weights takes f
