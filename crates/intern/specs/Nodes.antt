-- What comes of asking for a node.
use Rattle.std.specs.Prelude.{◌≡◌, ◌+◌, ◌<◌, ◌≤◌, ℕ, Option, None, List}
use Rattle.node_words.specs.declared.shapes.names.Name.{Name}
use Rattle.node_words.specs.shapes.Shape.{branch_of}
use Rattle.node_words.specs.shapes.Tree.{Tree, root_of, child_of, node_at, shape_of}
use Rattle.node_words.specs.shapes.Weights.{weigh, weight_of, weight_below}
use Rattle.node_words.specs.Held.{AreHeld, IsReached, Joins, Grants, OnlyMeets}
use Rattle.node_words.specs.declared.shares.Full.{Full}
use Rattle.node_table.specs.Rules.{SameSession}
use Rattle.node_table.specs.Views.{SeatView, seen_of}

-- the shares of the row went into a node over it, of which a share came. Where such a node was
-- held, or stood below a held one, it is that node, and no entry was added
pub record InternsNode (v : SeatView) (level : ℕ) (row : ℕ → Tree) (n : Name)
    (w : SeatView) : Type 0 where
  pub session : SameSession v w
  pub turn : w.turn ≡ None
  pub log : w.log ≡ v.log
  pub level_is : n.level ≡ level
  pub joins : Joins v.held row n w.held
  pub grants : Grants (seen_of v) (branch_of (λ k. shape_of (row k))) (seen_of w)
  pub hit : (m : Name) → IsReached v.held (node_at m row) → (n ≡ m) × (w.made ≡ v.made)

-- a full bucket was met, and no such node is held or stands below a held one
pub record NodeIsRefused (v : SeatView) (level : ℕ) (row : ℕ → Tree) (full : Full)
    (w : SeatView) : Type 0 where
  pub session : SameSession v w
  pub turn : w.turn ≡ None
  pub log : w.log ≡ v.log
  pub at_level : full.level ≡ level
  pub meets : OnlyMeets (seen_of v) full.level full.bucket (branch_of (λ k. shape_of (row k)))
      (seen_of w)
  pub unreached : (m : Name) → ¬ IsReached v.held (node_at m row)

-- a node over the row is held besides the shares of the row
pub record IsHeldOver (held : List Tree) (row : ℕ → Tree) : Type 0 where
  pub over : Tree
  pub children : (k : ℕ) → k < 8 → child_of over k ≡ row k
  pub weighs : (f : Tree → ℕ) → f over + weight_below f row 8 ≤ weigh f held

-- shares of the children are held, and a node over them besides
pub record HoldsBelow (held : List Tree) (children : List (Option Name)) : Type 0 where
  pub row : ℕ → Tree
  pub are_held : AreHeld held children row
  pub over : IsHeldOver held row

-- what may be a child is held, where there is one, and a node over it is held besides
pub record IsHeldBelow (held : List Tree) (child : Option Name) : Type 0 where
  pub over : Tree
  pub octant : ℕ
  pub root : root_of (child_of over octant) ≡ child
  pub weighs : (f : Tree → ℕ) → f over + weight_of f (child_of over octant) ≤ weigh f held
