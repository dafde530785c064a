-- Which trees stand in a state.
use Rattle.std.specs.Prelude.{◌≡◌, ◌⊎◌, List}
use Rattle.node_words.specs.declared.shapes.names.Name.{Name}
use Rattle.node_words.specs.shapes.Tree.{Tree, Gone}
use Rattle.node_words.specs.Held.{IsHeld}
use Rattle.node_words.specs.Plans.{Layout}
use Rattle.core_laws.specs.States.{State, IsLive, tree_of}

-- the tree is that of a live entry
pub record IsLiveTree (p : Layout) (state : State) (t : Tree) : Type 0 where
  pub name : Name
  pub live : IsLive p state name
  pub tree : tree_of state name ≡ t

-- there is no node, or its tree stands in the state
abbrev pub IsLiveOrGone : Layout → State → Tree → Type 0
IsLiveOrGone p state t = (t ≡ Gone) ⊎ IsLiveTree p state t

-- each tree of the list stands in the state
pub record AreLiveTrees (p : Layout) (state : State) (held : List Tree) : Type 0 where
  pub each : (t : Tree) → IsHeld held t → IsLiveTree p state t
