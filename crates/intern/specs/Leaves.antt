-- What comes of asking for a leaf.
use Rattle.node_table.specs.Views.{SeatView, seen_of}
use Rattle.node_table.specs.Rules.{SameSession}
use Rattle.std.specs.Prelude.{◌≡◌, ℕ, None}
use Rattle.node_words.specs.declared.shapes.names.Name.{Name}
use Rattle.node_words.specs.shapes.Shape.{Leaf}
use Rattle.node_words.specs.shapes.Tree.{LeafAt}
use Rattle.node_words.specs.declared.shares.Full.{Full}
use Rattle.node_words.specs.Held.{IsReached, Gains, Grants, OnlyMeets}

-- a share of the leaf came. One that was held, or stood below a held node, is that leaf, and then
-- no entry was added
pub record InternsLeaf (v : SeatView) (bits : ℕ) (n : Name) (w : SeatView) : Type 0 where
  pub session : SameSession v w
  pub turn : w.turn ≡ None
  pub log : w.log ≡ v.log
  pub level : n.level ≡ 0
  pub gains : Gains v.held (LeafAt n bits) w.held
  pub grants : Grants (seen_of v) (Leaf bits) (seen_of w)
  pub hit : (m : Name) → IsReached v.held (LeafAt m bits) → (n ≡ m) × (w.made ≡ v.made)

-- a full bucket was met, and no such leaf is held or stands below a held node
pub record LeafRefused (v : SeatView) (bits : ℕ) (full : Full) (w : SeatView) : Type 0 where
  pub session : SameSession v w
  pub turn : w.turn ≡ None
  pub log : w.log ≡ v.log
  pub at_level : full.level ≡ 0
  pub meets : OnlyMeets (seen_of v) full.level full.bucket (Leaf bits) (seen_of w)
  pub unreached : (m : Name) → ¬ IsReached v.held (LeafAt m bits)
