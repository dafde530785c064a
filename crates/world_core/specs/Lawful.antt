-- What each event asks for.
use Rattle.std.specs.Prelude.{◌≡◌, ℕ, ◌+◌, ◌^◌, ◌<◌, ◌≤◌, Option, Some, List, [], ◌∷◌, length}
use Rattle.std.specs.List.{slice_get}
use Rattle.vox_read.specs.Contents.{Content}
use Rattle.node_words.specs.declared.shapes.names.Name.{Name}
use Rattle.node_words.specs.shapes.Shape.{ShowsCells}
use Rattle.node_words.specs.shapes.Tree.{shape_of}
use Rattle.node_words.specs.declared.keys.Key as keys
use Rattle.node_words.specs.Held.{most_before_freeing}
use Rattle.node_words.specs.Plans.{Layout}
use Rattle.core_laws.specs.places.WordIds.{levels}
use Rattle.history_model.specs.declared.acts.Act.{Act}
use Rattle.history_model.specs.Logs.{FitsWorld, MayFollow}
use Rattle.history_model.specs.Positions.{position_after}
use Rattle.history_model.specs.Worlds.{World}
use Rattle.core_laws.specs.contents.Aligned.{top, world_block}
use Rattle.core_laws.specs.States.{State, IsUnder, tree_at}
use Rattle.core_laws.specs.Soundness.{FitsLevel}
use Rattle.core_laws.specs.Making.{Makes}
use Rattle.world_core.specs.Trading.{HasAll}
use Rattle.world_core.specs.declared.events.Event.{Event}
use Rattle.world_core.specs.declared.events.Event.TheVariants.{Leaf, Node, Raise, Lower, Pin, Append, Forget}

-- the session was begun, and holds at most so many shares
pub record HoldsAtMost (state : State) (session most : ℕ) : Type 0 where
  pub names : List Name
  pub at : slice_get state.held session ≡ Some names
  pub few : length names ≤ most

-- the session was begun, and holds a share of each of the names, counted with repeats
pub record HoldsShares (state : State) (session : ℕ) (some : List (Option Name)) : Type 0 where
  pub names : List Name
  pub at : slice_get state.held session ≡ Some names
  pub has : HasAll names some

-- the session holds a share of the name, or of one above it
pub record Reaches (state : State) (session : ℕ) (n : Name) : Type 0 where
  pub over : Name
  pub held : HoldsShares state session (Some over ∷ [])
  pub under : IsUnder state.key n over

pub record MayTakeLeaf (state : State) (session bits : ℕ) : Type 0 where
  pub some : 0 < bits
  pub room : HoldsAtMost state session 4095

-- the children are of the level below, there is one, and the session holds a share of each
pub record MayTakeNode (p : Layout) (state : State) (session level : ℕ)
    (children : List (Option Name)) : Type 0 where
  pub in_world : level < levels p
  pub fits : FitsLevel level (keys.TheVariants.Node children)
  pub held : HoldsShares state session children
  pub room : HoldsAtMost state session 4095

pub record MayRaise (state : State) (session : ℕ) (n : Name) : Type 0 where
  pub reached : Reaches state session n
  pub room : HoldsAtMost state session 4095

-- the children's shares find room: of at most 4,096, one goes and eight come
pub record MayLower (state : State) (session : ℕ) (n : Name) : Type 0 where
  pub held : HoldsShares state session (Some n ∷ [])
  pub room : HoldsAtMost state session most_before_freeing

-- the root shows just the cells that the act makes of the newest version; an undo or a redo has a
-- version to go to, which isn't forgotten
pub record IsRootMade (p : Layout) (models : List Content) (act : Act) (root : Option Name)
    (state : State) : Type 0 where
  pub follows : MayFollow state.log.marks (length state.log.records + 1) act
      (position_after state.log.records)
  pub cells : World
  pub shows : ShowsCells (world_block p.side) (shape_of (tree_at state.key (top p.side) root)) cells
  pub makes : Makes (2 ^ p.side) models state.log.records act cells

-- the act fits the world, the root is the session's and of the top level, the base is no later than
-- the newest version, and where it is that one the root is what the act makes
pub record MayAskAppend (p : Layout) (models : List Content) (state : State) (session : ℕ)
    (act : Act) (base : ℕ) (root : Option Name) : Type 0 where
  pub fits : FitsWorld (2 ^ p.side) models act
  pub base_in : base ≤ length state.log.records
  pub level : (n : Name) → root ≡ Some n → n.level ≡ top p.side
  pub held : HoldsShares state session (root ∷ [])
  pub made : base ≡ length state.log.records → IsRootMade p models act root state

-- the event may happen
abbrev pub IsLawful : Layout → List Content → State → Event → Type 0
IsLawful p models state (Leaf session bits) = MayTakeLeaf state session bits
IsLawful p models state (Node session level children) = MayTakeNode p state session level children
IsLawful p models state (Raise session n) = MayRaise state session n
IsLawful p models state (Lower session n) = MayLower state session n
IsLawful p models state (Pin session version) = HoldsAtMost state session 4095
IsLawful p models state (Append session line act base root) =
    MayAskAppend p models state session act base root
IsLawful p models state (Forget session line version) = HoldsAtMost state session 4095
