-- What the core of a world is: its entries by name, its log with a root for each version, and what
-- each holder holds.
use Rattle.std.specs.Prelude.{◌≡◌, ℕ, zero, suc, ◌<◌, ◌≤◌, Option, Some, None, List, map, sum_by}
use Rattle.std.specs.List.{slice_get}
use Rattle.node_words.specs.declared.shapes.names.Name.{Name}
use Rattle.node_words.specs.shapes.Shape.{Shape}
use Rattle.node_words.specs.shapes.Tree.{Tree, Gone, LeafAt, node_at, shape_of}
use Rattle.node_words.specs.declared.keys.Key.{Key}
use Rattle.node_words.specs.Plans.{Layout}
use Rattle.core_laws.specs.places.Names.{IsName, key_bits, key_child}
use Rattle.core_laws.specs.Logs.{Log}

-- the book and the key of each name, the root that is kept for each version, the log, and the names
-- that each holder holds, a holder being a place in that list. No root is kept of a version that
-- has no set cell, that isn't there yet or that is forgotten. A store that keeps roots in places
-- and not for versions has an empty log
pub record State : Type 0 where
  pub book : Name → ℕ
  pub key : Name → Key
  pub root : ℕ → Option Name
  pub log : Log
  pub held : List (List Name)

-- the name is one of the plan's, and its entry has a book
pub record IsLive (p : Layout) (state : State) (n : Name) : Type 0 where
  pub name : IsName p n
  pub book : 0 < state.book n

-- what stands at a name of this level, by the keys of all names
unfoldable pub tree_at : (Name → Key) → ℕ → Option Name → Tree
tree_at key zero None = Gone
tree_at key zero (Some n) = LeafAt n (key_bits (key n))
tree_at key (suc level) None = Gone
tree_at key (suc level) (Some n) = node_at n (λ k. tree_at key level (key_child (key n) k))

-- the tree and the shape of a name
abbrev pub tree_of : State → Name → Tree
tree_of state n = tree_at state.key n.level (Some n)

abbrev pub shape_in : State → Name → Shape
shape_in state n = shape_of (tree_of state n)

-- m is n or stands below it
pub data IsUnder (key : Name → Key) : Name → Name → Type 0 where
  itself : {n : Name} → IsUnder key n n
  below : {m n : Name} (k : ℕ) (child : Name) → k < 8 → key_child (key n) k ≡ Some child
      → IsUnder key m child → IsUnder key m n

-- this holder holds a share of the name
pub record Holds (held : List (List Name)) (holder : ℕ) (n : Name) : Type 0 where
  pub names : List Name
  pub at : slice_get held holder ≡ Some names
  pub weighs : (f : Name → ℕ) → f n ≤ sum_by f names

-- the trees of some names
abbrev pub trees_of : State → List Name → List Tree
trees_of state names = map (tree_of state) names
