-- What a call that rebuilds a block over a store has gathered so far, for each outcome.
use Rattle.std.specs.Prelude.{◌≡◌, ℕ, ◌+◌, ◌<◌, ◌≤◌, Option, Some, List, ◌∷◌}
use Rattle.node_words.specs.declared.shapes.names.Name.{Name}
use Rattle.node_words.specs.shapes.Shape.{Shape, octant_shape, IsPart}
use Rattle.node_words.specs.shapes.Tree.{Tree, Gone, root_of, shape_of, IsTreeAt}
use Rattle.node_words.specs.shapes.Weights.{weigh, weight_of, weight_below}
use Rattle.node_words.specs.Held.{StoreState, IsSought, IsReached, name_in}

-- t is the tree of a block of this level: of a name that is reached, or of no node
pub record IsTreeOf (held : List Tree) (level : ℕ) (t : Tree) (name : Option Name) : Type 0 where
  pub root : root_of t ≡ name
  pub reached : (n : Name) → name ≡ Some n → IsReached held t
  pub levels : IsTreeAt level t

-- a share of what may be a node came, whose tree has this shape and level
pub record GainsShare (old : List Tree) (level : ℕ) (s : Shape) (name : Option Name)
    (new : List Tree) : Type 0 where
  pub tree : Tree
  pub root : root_of tree ≡ name
  pub levels : IsTreeAt level tree
  pub shape : shape_of tree ≡ s
  pub weighs : (f : Tree → ℕ) → weigh f new ≡ weight_of f tree + weigh f old

-- t is held, where it is a node
pub record MayHold (held : List Tree) (t : Tree) : Type 0 where
  pub weighs : (f : Tree → ℕ) → weight_of f t ≤ weigh f held

-- new has t no longer, where it is a node
pub record Loses (old : List Tree) (t : Tree) (new : List Tree) : Type 0 where
  pub weighs : (f : Tree → ℕ) → weight_of f t + weigh f new ≡ weigh f old

-- new has the first k trees of the row no longer
pub record LosesAll (old : List Tree) (row : ℕ → Tree) (k : ℕ) (new : List Tree) : Type 0 where
  pub weighs : (f : Tree → ℕ) → weight_below f row k + weigh f new ≡ weigh f old

-- new is old with items before it, each as P says
pub data Grew {A : Type 0} (P : A → Type 0) (old : List A) : List A → Type 0 where
  unchanged : Grew P old old
  one : {a : A} {new : List A} → P a → Grew P old new → Grew P old (a ∷ new)

-- parts of the target may have been made, and nothing met a full bucket
pub record Grows (target : Shape) (old new : StoreState) : Type 0 where
  pub plan : new.plan ≡ old.plan
  pub made : Grew (λ p. IsPart p target) old.made new.made
  pub met : new.met ≡ old.met

-- a part of the target met this full bucket, which is its own, and the store holds what it held
pub record Fails (target : Shape) (level bucket : ℕ) (old new : StoreState) : Type 0 where
  pub plan : new.plan ≡ old.plan
  pub made : Grew (λ p. IsPart p target) old.made new.made
  pub wanted : Shape
  pub is_part : IsPart wanted target
  pub sought : IsSought old.plan (record { level = level; bucket = bucket; shape = wanted })
  pub met : new.met ≡ record { level = level; bucket = bucket; shape = wanted } ∷ old.met
  pub held : (f : Tree → ℕ) → weigh f new.held ≡ weigh f old.held

-- shares came for the first n octants of the target, whose octants are of this level
pub record Gathered (old : List Tree) (level : ℕ) (target : Shape) (children : List (Option Name))
    (n : ℕ) (new : List Tree) : Type 0 where
  pub row : ℕ → Tree
  pub names : (k : ℕ) → root_of (row k) ≡ name_in children k
  pub levels : (k : ℕ) → IsTreeAt level (row k)
  pub shapes : (k : ℕ) → k < n → shape_of (row k) ≡ octant_shape target k
  pub gone : (k : ℕ) → n ≤ k → row k ≡ Gone
  pub weighs : (f : Tree → ℕ) → weigh f new ≡ weight_below f row 8 + weigh f old
