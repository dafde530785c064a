-- What the laws say of the trees that a holder is seen to hold.
use Rattle.std.specs.Prelude.{◌≡◌, ℕ, suc, List}
use Rattle.node_words.specs.declared.shapes.names.Name.{Name}
use Rattle.node_words.specs.shapes.Tree.{Tree, LeafAt}
use Rattle.node_words.specs.declared.keys.Key.{Key}
use Rattle.node_words.specs.declared.keys.Key.TheVariants as keys
use Rattle.node_words.specs.Held.{Gains, Joins, AreTrees, AreCanonical}
use Rattle.node_words.specs.Plans.{Layout}
use Rattle.core_laws.specs.places.Names.{key_child}
use Rattle.core_laws.specs.States.{State, tree_at, tree_of, trees_of}
use Rattle.core_laws.specs.LiveTrees.{AreLiveTrees}
use Rattle.core_laws.specs.Soundness.{SoundEntries}
use Rattle.core_laws.specs.Events.{Raises, Adds, Lowers, Frees}

-- whoever raises an entry gains its tree
abbrev pub RaisesAreGained : Type 0
RaisesAreGained = (p : Layout) (holder : ℕ) (n : Name) (old new : State) → SoundEntries p old
    → (e : Raises p holder n old new)
    → Gains (trees_of old e.held.before) (tree_of old n) (trees_of new e.held.after)

-- whoever lowers an entry loses its tree
abbrev pub LowersAreLost : Type 0
LowersAreLost = (p : Layout) (holder : ℕ) (n : Name) (old new : State) → SoundEntries p old
    → (e : Lowers p holder n old new)
    → Gains (trees_of new e.held.after) (tree_of old n) (trees_of old e.held.before)

-- whoever adds a leaf gains it
abbrev pub LeavesAreGained : Type 0
LeavesAreGained = (p : Layout) (holder : ℕ) (n : Name) (bits : ℕ) (old new : State)
    → SoundEntries p old
    → n.level ≡ 0 → (e : Adds p holder n (keys.Leaf bits) old new)
    → Gains (trees_of old e.held.before) (LeafAt n bits) (trees_of new e.held.after)

-- a node that is added takes the trees of its children in
abbrev pub NodesTakeTheirChildren : Type 0
NodesTakeTheirChildren =
    (p : Layout) (holder : ℕ) (n : Name) (key : Key) (old new : State) (level : ℕ)
    → SoundEntries p old → n.level ≡ suc level → (e : Adds p holder n key old new)
    → Joins (trees_of old e.held.before)
    (λ k. tree_at old.key level (key_child key k)) n (trees_of new e.held.after)

-- a node that is freed gives the trees of its children back
abbrev pub FreedNodesGiveTheirChildren : Type 0
FreedNodesGiveTheirChildren = (p : Layout) (holder : ℕ) (n : Name) (old new : State) (level : ℕ)
    → SoundEntries p old → n.level ≡ suc level → (e : Frees p holder n old new)
    → Joins (trees_of new e.held.after)
    (λ k. tree_at old.key level (key_child (old.key n) k)) n (trees_of old e.held.before)

-- trees that stand in a state are trees of its world, one for each name that they reach
abbrev pub LiveTreesAreTrees : Type 0
LiveTreesAreTrees = (p : Layout) (state : State) (held : List Tree) → SoundEntries p state
    → AreLiveTrees p state held → AreTrees p.side held

-- the shapes of trees that stand in a state are canonical
abbrev pub LiveTreesAreCanonical : Type 0
LiveTreesAreCanonical = (p : Layout) (state : State) (held : List Tree) → SoundEntries p state
    → AreLiveTrees p state held → AreCanonical held
