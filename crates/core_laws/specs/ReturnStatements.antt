-- What the laws say of what is freed when a share is given back.
use Rattle.std.specs.Prelude.{◌≡◌, ℕ, ◌+◌, ◌≤◌, List}
use Rattle.node_words.specs.declared.shapes.names.Name.{Name}
use Rattle.node_words.specs.shapes.Shape.{Shape, octant_shape, IsBranch}
use Rattle.node_words.specs.shapes.Tree.{Tree, shape_of}
use Rattle.node_words.specs.declared.keys.Key.{Key}
use Rattle.node_words.specs.Held.{IsHeld, ReturnsWithin}
use Rattle.node_words.specs.Plans.{Layout}
use Rattle.core_laws.specs.places.Names.{IsName}
use Rattle.core_laws.specs.States.{State, shape_in}
use Rattle.core_laws.specs.LiveTrees.{AreLiveTrees}
use Rattle.core_laws.specs.Soundness.{SoundEntries}
use Rattle.core_laws.specs.Returning.{OneBookChanges, FreesParts}

-- a node goes by its last share, and then its eight octants: its shape is freed besides theirs
abbrev pub NodesAreFreed : Type 0
NodesAreFreed = (p : Layout) (state : State) (n : Name) (middle after : Name → ℕ) (steps now : ℕ)
    → SoundEntries p state → IsName p n → IsBranch (shape_in state n) → state.book n ≡ 1
    → OneBookChanges p n state.book middle → middle n ≡ 0
    → FreesParts p state.key (shape_in state n) 8 middle after (steps + 1) now
    → FreesParts p state.key (shape_in state n) 1 state.book after steps now

-- one octant more goes back, and what it frees differs from what the others freed
abbrev pub OctantsAreFreed : Type 0
OctantsAreFreed =
    (p : Layout) (key : Name → Key) (before middle after : Name → ℕ) (s : Shape)
    (k steps now last : ℕ)
    → FreesParts p key s k before middle steps now
    → FreesParts p key (octant_shape s k) 1 middle after now last
    → FreesParts p key s (k + 1) before after steps last

-- where no book rose and no turn passed besides the first ones, nothing need be freed
abbrev pub NothingIsFreed : Type 0
NothingIsFreed =
    (p : Layout) (key : Name → Key) (s : Shape) (first : ℕ) (before after : Name → ℕ)
    (steps now : ℕ)
    → ((n : Name) → IsName p n → after n ≤ before n) → now ≤ steps + first
    → FreesParts p key s first before after steps now

-- what is freed is part of no tree that stands still
abbrev pub FreedPartsAreUnheld : Type 0
FreedPartsAreUnheld =
    (p : Layout) (state : State) (before : Name → ℕ) (held : List Tree) (s : Shape) (steps now : ℕ)
    → SoundEntries p state → AreLiveTrees p state held
    → FreesParts p state.key s 1 before state.book steps now → ReturnsWithin held s steps now

-- where a tree of the whole shape is held still, nothing was freed
abbrev pub HeldShapesFreeNothing : Type 0
HeldShapesFreeNothing =
    (p : Layout) (state : State) (before : Name → ℕ) (held : List Tree) (t : Tree) (s : Shape)
    (first steps now : ℕ)
    → SoundEntries p state → AreLiveTrees p state held → IsHeld held t → shape_of t ≡ s
    → FreesParts p state.key s first before state.book steps now → now ≤ steps + first
