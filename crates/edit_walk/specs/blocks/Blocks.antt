-- Shares of blocks that a rebuild has in hand besides the rest of what is held, and what each
-- outcome leaves.
use Rattle.std.specs.Prelude.{◌≡◌, ℕ, ◌+◌, ◌-◌, ◌≤◌, Option, Some, None, List, ◌∷◌, Result, Ok, Err, replicate}
use Rattle.std.proofs.Common.{zero, suc}
use Rattle.edit_walk.specs.declared.blocks.full_blocks.FullBlocks.{FullBlocks}
use Rattle.node_words.specs.declared.shapes.names.Name.{Name}
use Rattle.node_words.specs.shapes.Shape.{Shape, IsCanonical, IsPart}
use Rattle.node_words.specs.shapes.Tree.{Tree, root_of, child_of, shape_of, IsTreeAt}
use Rattle.node_words.specs.shapes.Weights.{weigh, weight_of}
use Rattle.node_words.specs.declared.shares.Full.{Full}
use Rattle.node_words.specs.Held.{StoreState, IsSought, IsReached, OnlyMeets, ReturnsWithin, name_in}
use Rattle.node_words.specs.Gathering.{IsTreeOf, GainsShare, Grew, Grows, Gathered, MayHold, Loses}
use Rattle.node_words.specs.contents.CellShapes.{leaf_shape, full_shape}

-- t is the tree of a full block of the name's level, and reached
pub record IsFullBlock (held : List Tree) (t : Tree) (n : Name) : Type 0 where
  pub root : root_of t ≡ Some n
  pub reached : IsReached held t
  pub levels : IsTreeAt n.level t
  pub shape : shape_of t ≡ full_shape n.level

-- the block so many levels below a tree's that stands first in it
unfoldable pub first_below : ℕ → Tree → Tree
first_below zero t = t
first_below (suc d) t = child_of (first_below d t) 0

-- the names by level of the blocks that stand first in a tree whose root this is
abbrev pub AreFirstNames : List (Option Name) → Name → Tree → Type 0
AreFirstNames names n t =
    (k : ℕ) → k ≤ n.level → name_in names k ≡ root_of (first_below (n.level - k) t)

-- what is held is the rest and a share of a full block, where one is kept aside
pub record Aside (held : List Tree) (full : FullBlocks) (rest : List Tree) : Type 0 where
  pub tree : Tree
  pub root : root_of tree ≡ full.share
  pub levels : (n : Name) → full.share ≡ Some n → IsTreeAt n.level tree
  pub shape : (n : Name) → full.share ≡ Some n → shape_of tree ≡ full_shape n.level
  pub names : (n : Name) → full.share ≡ Some n → AreFirstNames full.names n tree
  pub weighs : (f : Tree → ℕ) → weigh f held ≡ weight_of f tree + weigh f rest

-- none is kept aside
abbrev pub no_full_blocks : FullBlocks
no_full_blocks = record { share = None; names = replicate 11 None }

-- besides the rest and the full block aside a share came, whose tree has this shape and level
pub record GainedShare (rest : List Tree) (level : ℕ) (target : Shape) (name : Option Name)
    (held : List Tree) (full : FullBlocks) : Type 0 where
  pub now : List Tree
  pub comes : GainsShare rest level target name now
  pub aside : Aside held full now

-- besides the rest and the full block aside shares came for the first n octants of the target
pub record Gathers (rest : List Tree) (level : ℕ) (target : Shape) (children : List (Option Name))
    (n : ℕ) (held : List Tree) (full : FullBlocks) : Type 0 where
  pub now : List Tree
  pub gathered : Gathered rest level target children n now
  pub aside : Aside held full now

-- whatever a reaches b reaches
pub record ReachesAll (a b : List Tree) : Type 0 where
  pub each : (t : Tree) → IsReached a t → IsReached b t

-- a share came of the block of what was gathered, and nothing that was reached is lost
pub record Joined (rest was : List Tree) (level : ℕ) (target : Shape) (name : Option Name)
    (held : List Tree) (full : FullBlocks) : Type 0 where
  pub came : GainedShare rest level target name held full
  pub reaches : ReachesAll was came.now

-- a part of the target met this full bucket, which is the part's own
pub record RefusesBlock (target : Shape) (level bucket : ℕ) (old new : StoreState) : Type 0 where
  pub plan : new.plan ≡ old.plan
  pub made : Grew (λ p. IsPart p target) old.made new.made
  pub wanted : Shape
  pub is_part : IsPart wanted target
  pub sought : IsSought old.plan (record { level = level; bucket = bucket; shape = wanted })
  pub met : new.met ≡ record { level = level; bucket = bucket; shape = wanted } ∷ old.met

-- besides the rest and the full block aside a share of such a block came; parts of it may have been
-- made, and nothing met a full bucket
pub record CameTo (rest : List Tree) (level : ℕ) (target : Shape) (name : Option Name)
    (old new : StoreState) (after : FullBlocks) : Type 0 where
  pub came : GainedShare rest level target name new.held after
  pub grows : Grows target old new

-- or a part of it met this full bucket: the rest is held as it was, and a full block may be aside
pub record StopsAside (rest : List Tree) (target : Shape) (full : Full) (old new : StoreState)
    (after : FullBlocks) : Type 0 where
  pub refuses : RefusesBlock target full.level full.bucket old new
  pub aside : Aside new.held after rest

abbrev pub BlockCame : List Tree → ℕ → Shape → Result (Option Name) Full → StoreState → StoreState
    → FullBlocks → Type 0
BlockCame rest level target (Ok name) old new after = CameTo rest level target name old new after
BlockCame rest level target (Err full) old new after = StopsAside rest target full old new after

-- the same of a block of what was gathered
pub record JoinedTo (rest was : List Tree) (level : ℕ) (target : Shape) (name : Option Name)
    (old new : StoreState) (after : FullBlocks) : Type 0 where
  pub joined : Joined rest was level target name new.held after
  pub grows : Grows target old new

abbrev pub JoinCame : List Tree → List Tree → ℕ → Shape → Result (Option Name) Full → StoreState
    → StoreState
    → FullBlocks → Type 0
JoinCame rest was level target (Ok name) old new after =
    JoinedTo rest was level target name old new after
JoinCame rest was level target (Err full) old new after = StopsAside rest target full old new after

-- how many levels of full blocks there are, up to the one kept aside
abbrev pub height : Option Name → ℕ
height None = 0
height (Some n) = n.level + 1

-- the block aside is a full one, where there is one
abbrev pub HasAside : StoreState → FullBlocks → Type 0
HasAside seen full = (rest : List Tree) × Aside seen.held full rest

-- a block of at least this level is aside
abbrev pub IsAsideFrom : ℕ → Option Name → Type 0
IsAsideFrom level full = (n : Name) × (full ≡ Some n) × (level ≤ n.level)

-- the rest stays the same, whatever becomes of the full block aside
abbrev pub KeepsRest : StoreState → FullBlocks → StoreState → FullBlocks → Type 0
KeepsRest old before new after =
    (rest : List Tree) → Aside old.held before rest → Aside new.held after rest

-- besides the rest a share of such a block came, and the full block aside may be a greater one
abbrev pub GainsBeside : ℕ → Shape → Option Name → StoreState → FullBlocks → StoreState
    → FullBlocks → Type 0
GainsBeside level target name old before new after =
    (rest : List Tree) → Aside old.held before rest
    → GainedShare rest level target name new.held after

-- shares of all octants of a canonical block of this level are in hand
abbrev pub HasOctants : ℕ → List (Option Name) → StoreState → Type 0
HasOctants level children seen =
    (rest : List Tree) × (full : FullBlocks) × (target : Shape) × IsCanonical level target
    × Gathers rest (level - 1) target children 8 seen.held full

-- P of each canonical block of which all octants are in hand: of the rest, the full block aside,
-- the block's shape, and what is held besides the block aside
abbrev pub ForOctants : ℕ → List (Option Name) → StoreState
    → (List Tree → FullBlocks → Shape → List Tree → Type 0) → Type 0
ForOctants level children seen P =
    (rest : List Tree) (full : FullBlocks) (target : Shape) → IsCanonical level target
    → (a : Gathers rest (level - 1) target children 8 seen.held full) → P rest full target a.now

-- a share of the leaf with these bits came besides the rest and the full block aside
abbrev pub LeafBeside : ℕ → Option Name → StoreState → StoreState → Type 0
LeafBeside bits name old new =
    (rest : List Tree) (full : FullBlocks) → Aside old.held full rest
    → GainedShare rest 0 (leaf_shape bits) name new.held full

-- so it did, and nothing met a full bucket; or it met this one
pub record MadeLeaf (bits : ℕ) (name : Option Name) (old new : StoreState) : Type 0 where
  pub came : LeafBeside bits name old new
  pub grows : Grows (leaf_shape bits) old new

abbrev pub MakesLeaf : ℕ → Result (Option Name) Full → StoreState → StoreState → Type 0
MakesLeaf bits (Ok name) old new = MadeLeaf bits name old new
MakesLeaf bits (Err full) old new = OnlyMeets old full.level full.bucket (leaf_shape bits) new

-- the name is of a block that is reached, or of none
abbrev pub HasTree : List Tree → Option Name → Type 0
HasTree held name = (level : ℕ) × (t : Tree) × IsTreeOf held level t name

-- one more share of a block that the rest reaches came besides the rest and the full block aside
abbrev pub AgainBeside : Option Name → Option Name → StoreState → StoreState → Type 0
AgainBeside name share old new =
    (rest : List Tree) (full : FullBlocks) (level : ℕ) (t : Tree)
    → Aside old.held full rest → IsTreeOf rest level t name
    → GainedShare rest level (shape_of t) share new.held full

-- what may be a share is held
abbrev pub MayGoBack : List Tree → Option Name → Type 0
MayGoBack held share = (t : Tree) × (root_of t ≡ share) × MayHold held t

-- the tree of what may be a share is held no longer
abbrev pub ReturnsShare : Option Name → List Tree → List Tree → Type 0
ReturnsShare share old new = (t : Tree) → root_of t ≡ share → MayHold old t → Loses old t new

-- the turns of giving a share back
abbrev pub BackTurns : Option Name → List Tree → List Tree → ℕ → ℕ → Type 0
BackTurns share old new before after =
    (t : Tree) (n : Name) → share ≡ Some n → root_of t ≡ share → MayHold old t
    → ReturnsWithin new (shape_of t) before after

-- the block aside is of this level
abbrev pub IsAsideAt : ℕ → Option Name → Type 0
IsAsideAt level full = (n : Name) × (full ≡ Some n) × (n.level ≡ level)

-- the name of a full block that may be read
abbrev pub ReachesFull : List Tree → Name → Type 0
ReachesFull held n = (t : Tree) × IsFullBlock held t n

-- there is a block aside
abbrev pub HasFull : Option Name → Type 0
HasFull full = (n : Name) × (full ≡ Some n)

-- one more share of the block aside came
abbrev pub FullBeside : FullBlocks → Option Name → StoreState → StoreState → Type 0
FullBeside full share old new =
    (rest : List Tree) (n : Name) → full.share ≡ Some n → Aside old.held full rest
    → GainedShare rest n.level (full_shape n.level) share new.held full

-- the block aside became the octants of the next full block
abbrev pub GathersFull : FullBlocks → List (Option Name) → StoreState → StoreState → Type 0
GathersFull full children old new =
    (rest : List Tree) (n : Name) → full.share ≡ Some n → Aside old.held full rest
    → Gathers rest n.level (full_shape (n.level + 1)) children 8 new.held no_full_blocks
