-- What a walk finds a block to be: one that stands below what is held, of which no share is taken,
-- or one of which a share came.
use Rattle.std.specs.Prelude.{◌≡◌, ℕ, ◌+◌, ◌-◌, ◌<◌, ◌≤◌, ◌⊎◌, Option, Some, None, List, Result, Ok, Err, slice_set}
use Rattle.edit_walk.specs.declared.blocks.full_blocks.FullBlocks.{FullBlocks}
use Rattle.node_words.specs.declared.shapes.names.Name.{Name}
use Rattle.node_words.specs.shapes.Shape.{Shape, IsCanonical, octant_shape, bits_of}
use Rattle.node_words.specs.shapes.Tree.{Tree, Gone, root_of, child_of, shape_of, IsTreeAt}
use Rattle.node_words.specs.shapes.Weights.{weigh, weight_below}
use Rattle.node_words.specs.declared.shares.Full.{Full}
use Rattle.node_words.specs.Held.{StoreState, ForReached, Gains, OnlyMeets, name_in}
use Rattle.node_words.specs.Gathering.{IsTreeOf, GainsShare, Grows}
use Rattle.node_words.specs.descent.Roots.{IsBlockOf, ForBlock}
use Rattle.node_words.specs.contents.CellShapes.{leaf_shape}
use Rattle.edit_walk.specs.declared.outcomes.WalkedBlock.{WalkedBlock}
use Rattle.edit_walk.specs.declared.outcomes.WalkedBlock.TheVariants.{Stands, Made}
use Rattle.edit_walk.specs.blocks.Blocks.{Aside, Gathers, Joined, JoinedTo, MadeLeaf, ReachesAll, StopsAside}

-- the name of what was found
abbrev pub name_of_block : WalkedBlock → Option Name
name_of_block (Stands name) = name
name_of_block (Made name) = name

-- a block of this level and shape stands below what is held, by this name, or nothing of it is set
pub record IsStanding (held : List Tree) (level : ℕ) (target : Shape) (name : Option Name)
    : Type 0 where
  pub tree : Tree
  pub of : IsTreeOf held level tree name
  pub shape : shape_of tree ≡ target

-- the block stands below the rest, and nothing came
pub record StandsBelow (rest : List Tree) (level : ℕ) (target : Shape) (name : Option Name)
    (now : List Tree) : Type 0 where
  pub same : now ≡ rest
  pub standing : IsStanding rest level target name

abbrev pub Comes : List Tree → ℕ → Shape → WalkedBlock → List Tree → Type 0
Comes rest level target (Stands name) now = StandsBelow rest level target name now
Comes rest level target (Made name) now = GainsShare rest level target name now

-- besides the rest and the full block aside such a block was found
pub record FoundBeside (rest : List Tree) (level : ℕ) (target : Shape) (block : WalkedBlock)
    (held : List Tree) (full : FullBlocks) : Type 0 where
  pub now : List Tree
  pub comes : Comes rest level target block now
  pub aside : Aside held full now

-- octant k that was found is laid into its place
abbrev pub IsLaid : WalkedBlock → ℕ → List (Option Name) → List (Option Name) → List (Option Name)
    → List (Option Name) → Type 0
IsLaid (Stands name) k children standing laid named =
    (laid ≡ children) × (named ≡ slice_set standing k name)
IsLaid (Made name) k children standing laid named =
    (laid ≡ slice_set children k name) × (named ≡ standing)

-- such a block was found, beside whatever is held
abbrev pub HasBlockFound : WalkedBlock → StoreState → Type 0
HasBlockFound block seen =
    (rest : List Tree) × (full : FullBlocks) × (level : ℕ) × (target : Shape)
    × FoundBeside rest level target block seen.held full

-- a share of the block that was found came besides the rest and the full block aside
abbrev pub TakesUp : WalkedBlock → Option Name → StoreState → StoreState → Type 0
TakesUp block share old new =
    (rest : List Tree) (full : FullBlocks) (level : ℕ) (target : Shape)
    → (a : FoundBeside rest level target block old.held full)
    → Joined rest a.now level target share new.held full

-- a turn for one that stands
abbrev pub TakenTurns : WalkedBlock → ℕ → ℕ → Type 0
TakenTurns (Stands name) old new = new ≤ old + 1
TakenTurns (Made name) old new = new ≤ old

-- a share of an octant is in hand
pub record InHand (mine : Tree) (target : Shape) (k from : ℕ) (name : Option Name) : Type 0 where
  pub shape : shape_of mine ≡ target
  pub unnamed : from ≤ k → name ≡ None

-- or the octant stands, and its share is to come
pub record ToCome (held : List Tree) (level : ℕ) (mine : Tree) (target : Shape) (k from : ℕ)
    (name : Option Name) : Type 0 where
  pub later : from ≤ k
  pub none : mine ≡ Gone
  pub standing : IsStanding held level target name

-- besides the rest and the full block aside the first n octants of the target were found: shares of
-- children, and of those before octant `from` that stand; the others stand by these names
pub record FindsOctants (rest : List Tree) (level : ℕ) (target : Shape)
    (children standing : List (Option Name)) (from n : ℕ) (held : List Tree) (full : FullBlocks)
    : Type 0 where
  pub now : List Tree
  pub row : ℕ → Tree
  pub names : (k : ℕ) → root_of (row k) ≡ name_in children k
  pub levels : (k : ℕ) → IsTreeAt level (row k)
  pub each : (k : ℕ) → k < n
      → InHand (row k) (octant_shape target k) k from (name_in standing k)
      ⊎ ToCome now level (row k) (octant_shape target k) k from (name_in standing k)
  pub gone : (k : ℕ) → n ≤ k → row k ≡ Gone
  pub unnamed : (k : ℕ) → n ≤ k → name_in standing k ≡ None
  pub weighs : (f : Tree → ℕ) → weigh f now ≡ weight_below f row 8 + weigh f rest
  pub aside : Aside held full now

-- all octants of a canonical block of this level were found
abbrev pub HasFound : ℕ → List (Option Name) → List (Option Name) → StoreState → Type 0
HasFound level children standing seen =
    (rest : List Tree) × (full : FullBlocks) × (target : Shape) × IsCanonical level target
    × FindsOctants rest (level - 1) target children standing 0 8 seen.held full

-- P of each such block: of the rest, the full block aside, the block's shape, and what is held
-- besides the block aside
abbrev pub ForFound : ℕ → List (Option Name) → List (Option Name) → StoreState
    → (List Tree → FullBlocks → Shape → List Tree → Type 0) → Type 0
ForFound level children standing seen P =
    (rest : List Tree) (full : FullBlocks) (target : Shape) → IsCanonical level target
    → (a : FindsOctants rest (level - 1) target children standing 0 8 seen.held full)
    → P rest full target a.now

-- shares of all octants are in hand, and nothing that was reached is lost
pub record Fills (rest was : List Tree) (level : ℕ) (target : Shape) (children : List (Option Name))
    (held : List Tree) (full : FullBlocks) : Type 0 where
  pub gathers : Gathers rest level target children 8 held full
  pub reaches : ReachesAll was gathers.now

-- a share of the octant came into its place, where it stands
abbrev pub FillsIn : Option Name → ℕ → List (Option Name) → List (Option Name) → List Tree
    → List Tree → Type 0
FillsIn None k children filled old new = (filled ≡ children) × (new ≡ old)
FillsIn (Some n) k children filled old new =
    (filled ≡ slice_set children k (Some n)) × ForReached old n (λ t. Gains old t new)

-- the old block's octants have these names
abbrev pub HasOctantNames : List Tree → ℕ → Option Name → List (Option Name) → Type 0
HasOctantNames held level old names =
    (t : Tree) → IsBlockOf held level old t → (k : ℕ) → k < 8
    → root_of (child_of t k) ≡ name_in names k

-- the old block, where it is canonical, is the target; nothing came
pub record StaysOld (rest was : List Tree) (level : ℕ) (old : Option Name) (target : Shape)
    (name : Option Name) (before after : StoreState) (full : FullBlocks) : Type 0 where
  pub is : name ≡ old
  pub shape : (t : Tree) → IsBlockOf before.held level old t → IsCanonical level (shape_of t)
      → shape_of t ≡ target
  pub aside : Aside after.held full rest
  pub reaches : ReachesAll was rest
  pub grows : Grows target before after

-- the block of the octants is the old one, or a share of it came, or it met this full bucket
abbrev pub NodeFound : List Tree → List Tree → ℕ → Option Name → Shape → Result WalkedBlock Full
    → StoreState → StoreState → FullBlocks → Type 0
NodeFound rest was level old target (Ok (Stands name)) before after full =
    StaysOld rest was level old target name before after full
NodeFound rest was level old target (Ok (Made name)) before after full =
    JoinedTo rest was level target name before after full
NodeFound rest was level old target (Err met) before after full =
    StopsAside rest target met before after full

-- the old leaf has these bits; nothing came
pub record KeepsLeaf (old : Option Name) (bits : ℕ) (name : Option Name)
    (before after : StoreState) : Type 0 where
  pub is : name ≡ old
  pub told : ForBlock before.held 0 old (λ s. bits_of s ≡ bits)
  pub seen : after ≡ before

-- the leaf of the bits is the old one, or a share of it came, or it met this full bucket
abbrev pub LeafFound : Option Name → ℕ → Result WalkedBlock Full → StoreState → StoreState → Type 0
LeafFound old bits (Ok (Stands name)) before after = KeepsLeaf old bits name before after
LeafFound old bits (Ok (Made name)) before after = MadeLeaf bits name before after
LeafFound old bits (Err met) before after =
    OnlyMeets before met.level met.bucket (leaf_shape bits) after

-- no turn for a block that stands, and at most so many for a share of it
abbrev pub WithinTurns : ℕ → Result WalkedBlock Full → ℕ → ℕ → Type 0
WithinTurns most (Ok (Stands name)) old new = new ≤ old
WithinTurns most (Ok (Made name)) old new = new ≤ old + most
WithinTurns most (Err met) old new = Unit {0}
