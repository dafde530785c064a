-- What a test holds of a store: the root of one version, or of two.
use Rattle.std.specs.Prelude.{◌≡◌, ℕ, ◌+◌, Option, Some, List}
use Rattle.node_words.specs.declared.shapes.names.Name.{Name}
use Rattle.node_words.specs.shapes.Tree.{Tree, root_of}
use Rattle.node_words.specs.shapes.Weights.{weigh, weight_of}

-- t is the tree of this root, which is of this level
pub record IsRootOf (level : ℕ) (name : Option Name) (t : Tree) : Type 0 where
  pub root : root_of t ≡ name
  pub at : (n : Name) → name ≡ Some n → n.level ≡ level

-- nothing is held but this root
pub record HoldsOnly (held : List Tree) (level : ℕ) (name : Option Name) : Type 0 where
  pub tree : Tree
  pub is_root : IsRootOf level name tree
  pub weighs : (f : Tree → ℕ) → weigh f held ≡ weight_of f tree

-- nothing is held but these two roots
pub record HoldsTwo (held : List Tree) (level : ℕ) (old new : Option Name) : Type 0 where
  pub before : Tree
  pub after : Tree
  pub is_old : IsRootOf level old before
  pub is_new : IsRootOf level new after
  pub weighs : (f : Tree → ℕ) → weigh f held ≡ weight_of f after + weight_of f before
