-- What a walk over the blocks of a rebuild starts from, and what it leaves for each outcome.
use Rattle.std.specs.Prelude.{ℕ, ◌+◌, ◌-◌, ◌*◌, ◌≤◌, max, Bool, Option, List, Result, Ok, Err}
use Rattle.vw_cell.specs.declared.cells.Cell.{Cell}
use Rattle.edit_walk.specs.declared.blocks.full_blocks.FullBlocks.{FullBlocks}
use Rattle.node_words.specs.declared.shapes.names.Name.{Name}
use Rattle.node_words.specs.shapes.Shape.{Shape}
use Rattle.node_words.specs.shapes.Tree.{Tree}
use Rattle.node_words.specs.declared.shares.Full.{Full}
use Rattle.node_words.specs.Held.{StoreState}
use Rattle.node_words.specs.Gathering.{Grows}
use Rattle.node_words.proofs.HeldLaws.{Keeps}
use Rattle.node_words.specs.contents.CellShapes.{Cells, SameIn, all_cells, shape_with}
use Rattle.edit_walk.specs.cells.Tasks.{Making}
use Rattle.edit_walk.specs.cells.Worlds.{world_cells}
use Rattle.edit_walk.specs.blocks.Blocks.{Aside, GainedShare, StopsAside, height}
use Rattle.edit_walk.specs.declared.outcomes.WalkedBlock.{WalkedBlock}
use Rattle.edit_walk.specs.declared.outcomes.WalkedBlock.TheVariants.{Stands, Made}
use Rattle.edit_walk.specs.declared.outcomes.Told.{Told}
use Rattle.edit_walk.specs.declared.outcomes.Told.TheVariants.{Standing, Filled, New}
use Rattle.edit_walk.specs.Outcomes.{FoundBeside, FindsOctants, IsStanding}
use Rattle.edit_walk.specs.Memos.{MemoSet, Recalls}

-- the state of a walk: what the store is seen as, the full block kept aside, and what is remembered
pub record Walk (T : Type 0) : Type 1 where
  pub seen : StoreState
  pub full : FullBlocks
  pub memo : MemoSet T

abbrev pub walk_at : {T : Type 0} → StoreState → FullBlocks → MemoSet T → Walk T
walk_at seen full memo = record { seen = seen; full = full; memo = memo }

-- trees that stay held, the rest, and a full block aside
pub record Starts (base rest : List Tree) (seen : StoreState) (full : FullBlocks) : Type 0 where
  pub keeps : Keeps base rest
  pub aside : Aside seen.held full rest

-- what a walk starts from: a task that makes these cells, and a memo of what is reached from the
-- rest
pub record Begins {T : Type 0} (makes : T → Making) (base rest : List Tree) (level : ℕ) (task : T)
    (cells : Cells) (walk : Walk T) : Type 0 where
  pub starts : Starts base rest walk.seen walk.full
  pub made : makes task base level cells
  pub recalls : Recalls makes base rest walk.memo

-- besides the rest a share came, and the memo tells of what is reached now
pub record Built {T : Type 0} (makes : T → Making) (base rest : List Tree) (level : ℕ)
    (target : Shape) (name : Option Name) (walk : Walk T) : Type 0 where
  pub came : GainedShare rest level target name walk.seen.held walk.full
  pub recalls : Recalls makes base came.now walk.memo

-- besides the rest the block was found, and the memo tells of what is reached now
pub record Found {T : Type 0} (makes : T → Making) (base rest : List Tree) (level : ℕ)
    (target : Shape) (block : WalkedBlock) (walk : Walk T) : Type 0 where
  pub came : FoundBeside rest level target block walk.seen.held walk.full
  pub recalls : Recalls makes base came.now walk.memo

-- the first n octants of the block that the task makes were found
pub record Partway {T : Type 0} (makes : T → Making) (base rest : List Tree) (level : ℕ) (task : T)
    (cells : Cells) (children standing : List (Option Name)) (n : ℕ) (walk : Walk T)
    : Type 0 where
  pub keeps : Keeps base rest
  pub made : makes task base level cells
  pub finds : FindsOctants rest (level - 1)
      (shape_with level cells) children standing 0 n walk.seen.held walk.full
  pub recalls : Recalls makes base finds.now walk.memo

-- a walk of the task's block can begin
abbrev pub CanBuild : {T : Type 0} → (T → Making) → ℕ → T → Walk T → Type 0
CanBuild makes level task walk =
    (base : List Tree) × (rest : List Tree) × (cells : Cells)
    × Begins makes base rest level task cells walk

-- P of all that it can begin with: the trees that stay held, the rest, and the cells
abbrev pub ForBuilding : {T : Type 0} → (T → Making) → ℕ → T → Walk T
    → (List Tree → List Tree → Cells → Type 0) → Type 0
ForBuilding makes level task walk P =
    (base rest : List Tree) (cells : Cells) → Begins makes base rest level task cells walk
    → P base rest cells

-- a share of a block of this shape came; parts of it may have been made, and nothing met a full
-- bucket
pub record WalkedTo {T : Type 0} (makes : T → Making) (base rest : List Tree) (level : ℕ)
    (target : Shape) (name : Option Name) (old new : Walk T) : Type 0 where
  pub built : Built makes base rest level target name new
  pub grows : Grows target old.seen new.seen

-- or a part of it met this full bucket
abbrev pub WalkCame : {T : Type 0} → (T → Making) → List Tree → List Tree → ℕ → Shape
    → Result (Option Name) Full → Walk T → Walk T → Type 0
WalkCame makes base rest level target (Ok name) old new =
    WalkedTo makes base rest level target name old new
WalkCame makes base rest level target (Err full) old new =
    StopsAside rest target full old.seen new.seen new.full

-- so the block with the task's cells was built
abbrev pub WalksBlock : {T : Type 0} → (T → Making) → ℕ → T → Walk T → Result (Option Name) Full
    → Walk T → Type 0
WalksBlock makes level task old result new =
    ForBuilding makes level task old
    (λ base rest cells. WalkCame makes base rest level (shape_with level cells) result old new)

-- a block was found: one that stands, of which no share is taken yet, or one that was made
pub record FoundTo {T : Type 0} (makes : T → Making) (base rest : List Tree) (level : ℕ)
    (target : Shape) (block : WalkedBlock) (old new : Walk T) : Type 0 where
  pub found : Found makes base rest level target block new
  pub grows : Grows target old.seen new.seen

abbrev pub BlockFound : {T : Type 0} → (T → Making) → List Tree → List Tree → ℕ → Shape
    → Result WalkedBlock Full → Walk T → Walk T → Type 0
BlockFound makes base rest level target (Ok block) old new =
    FoundTo makes base rest level target block old new
BlockFound makes base rest level target (Err full) old new =
    StopsAside rest target full old.seen new.seen new.full

abbrev pub FindsBlock : {T : Type 0} → (T → Making) → ℕ → T → Walk T → Result WalkedBlock Full
    → Walk T → Type 0
FindsBlock makes level task old result new =
    ForBuilding makes level task old
    (λ base rest cells. BlockFound makes base rest level (shape_with level cells) result old new)

-- what is told of the block before the store is asked: it stands below whatever holds the trees
-- that the task makes it by and all that is remembered, or every cell of it is set
abbrev pub IsTold : List Tree → ℕ → Cells → Told → Type 0
IsTold rest level cells (Standing name) = IsStanding rest level (shape_with level cells) name
IsTold rest level cells Filled = SameIn level cells all_cells
IsTold rest level cells New = Unit {0}

abbrev pub TellsBlock : {T : Type 0} → (T → Making) → ℕ → T → MemoSet T → Told → Type 0
TellsBlock makes level task memo told =
    (base rest : List Tree) (cells : Cells) → Keeps base rest → makes task base level cells
    → Recalls makes base rest memo → IsTold rest level cells told

-- its octants were found
pub record GatheredAll {T : Type 0} (makes : T → Making) (base rest : List Tree) (level : ℕ)
    (task : T) (cells : Cells) (children standing : List (Option Name)) (old new : Walk T)
    : Type 0 where
  pub partway : Partway makes base rest level task cells children standing 8 new
  pub grows : Grows (shape_with level cells) old.seen new.seen

-- or a part of the block met this full bucket
abbrev pub GatherCame : {T A : Type 0} → (T → Making) → List Tree → List Tree → ℕ → T → Cells
    → List (Option Name) → List (Option Name) → Result A Full → Walk T → Walk T → Type 0
GatherCame makes base rest level task cells children standing (Ok done) old new =
    GatheredAll makes base rest level task cells children standing old new
GatherCame makes base rest level task cells children standing (Err full) old new =
    StopsAside rest (shape_with level cells) full old.seen new.seen new.full

abbrev pub WalksOctants : {T A : Type 0} → (T → Making) → ℕ → T → Walk T → List (Option Name)
    → List (Option Name) → Result A Full → Walk T → Type 0
WalksOctants makes level task old children standing result new =
    ForBuilding makes level task old
    (λ base rest cells. GatherCame makes base rest level task cells children standing result old
    new)

-- at most so many turns beside 16 for each level by which the full block aside grew, and 25 for
-- each mixed block; and how high it is at most now
pub record TookTurns (own top mixed : ℕ) (before after : Option Name) (old new : ℕ) : Type 0 where
  pub turns : new + 16 * height before ≤ old + 16 * height after + own + 25 * mixed
  pub height_is : height after ≤ max (height before) top

-- those of a walk that tells a block that stands from a share of one: the first takes no turn
abbrev pub FoundTurns : ℕ → ℕ → Result WalkedBlock Full → Option Name → Option Name → ℕ → ℕ → Type 0
FoundTurns top mixed (Ok (Stands name)) before after old new =
    TookTurns 0 top mixed before after old new
FoundTurns top mixed (Ok (Made name)) before after old new =
    TookTurns 1 top mixed before after old new
FoundTurns top mixed (Err full) before after old new = Unit {0}

-- the task makes some world of this side, a power of two, and P of each that it makes
abbrev pub MakesWorld : Making → List Tree → ℕ → Type 0
MakesWorld makes held side = (world : Cell → Bool) × makes held (side - 2) (world_cells world)

abbrev pub ForWorlds : Making → List Tree → ℕ → ((Cell → Bool) → Type 0) → Type 0
ForWorlds makes held side P =
    (world : Cell → Bool) → makes held (side - 2) (world_cells world) → P world
