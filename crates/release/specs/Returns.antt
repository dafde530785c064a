-- What shares that go back leave.
use Rattle.std.specs.Prelude.{◌≢◌, ℕ, ◌+◌, ◌*◌, ◌≤◌, List, All, AllPairs, length}
use Rattle.node_words.specs.shapes.Shape.{Shape, IsBranch, IsPart}
use Rattle.node_words.specs.shapes.Tree.{Tree, shape_of}
use Rattle.node_words.specs.shapes.Weights.{weight_of, weight_below}
use Rattle.node_words.specs.Held.{IsHeld}
use Rattle.node_words.specs.Gathering.{Loses, LosesAll}
use Rattle.node_table.specs.Views.{SeatView}
use Rattle.node_table.specs.Acts.{OnlySharesChange}

-- p is part of a shape that is held
pub record IsPartHeld (held : List Tree) (p : Shape) : Type 0 where
  pub tree : Tree
  pub is_held : IsHeld held tree
  pub is_part : IsPart p (shape_of tree)

-- a branch that was part of a shape held, and is part of none any more
pub record IsLost (old new : List Tree) (p : Shape) : Type 0 where
  pub is_branch : IsBranch p
  pub was : IsPartHeld old p
  pub gone : ¬ IsPartHeld new p

-- what is part of a shape held was so before, and these are different branches that were lost, each
-- as P says
pub record AreLost (P : Shape → Type 0) (old new : List Tree) (freed : List Shape) : Type 0 where
  pub stays : (p : Shape) → IsPartHeld new p → IsPartHeld old p
  pub different : AllPairs (λ p q. p ≢ q) freed
  pub parts : All P freed
  pub each : All (IsLost old new) freed

-- p is part of the shape of a tree of the row
pub record IsPartOfRow (row : ℕ → Tree) (p : Shape) : Type 0 where
  pub octant : ℕ
  pub is_part : IsPart p (shape_of (row octant))

-- a share of t went back, where it is a node, with all that only it kept: one turn passed for the
-- node, and eight for each branch that was freed
pub record GaveBack (v : SeatView) (t : Tree) (w : SeatView) (steps now : ℕ) : Type 0 where
  pub only : OnlySharesChange v w
  pub loses : Loses v.held t w.held
  pub freed : List Shape
  pub lost : AreLost (λ p. IsPart p (shape_of t)) v.held w.held freed
  pub turns : now ≤ steps + weight_of (λ _. 1) t + 8 * length freed

-- shares of the first k trees of a row went back in the same way
pub record GaveRowBack (v : SeatView) (row : ℕ → Tree) (k : ℕ) (w : SeatView)
    (steps now : ℕ) : Type 0 where
  pub only : OnlySharesChange v w
  pub loses : LosesAll v.held row k w.held
  pub freed : List Shape
  pub lost : AreLost (IsPartOfRow row) v.held w.held freed
  pub turns : now ≤ steps + weight_below (λ _. 1) row k + 8 * length freed
