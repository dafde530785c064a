-- The blocks that a walk remembers, each with the task that made it.
use Rattle.std.specs.Prelude.{◌≡◌, ℕ, Option, Some, None, List, slice_index_or}
use Rattle.node_words.specs.shapes.Tree.{Tree, shape_of}
use Rattle.node_words.specs.Gathering.{IsTreeOf}
use Rattle.node_words.specs.contents.CellShapes.{Cells, shape_with}
use Rattle.edit_walk.specs.cells.Tasks.{Making, MakeAlike}
use Rattle.node_words.proofs.HeldLaws.{Keeps}
use Rattle.edit_walk.specs.declared.memos.MemoEntry.{MemoEntry}

-- which blocks of each level are remembered
abbrev pub MemoSet : Type 0 → Type 1
MemoSet T = ℕ → MemoEntry T → Type 0

-- a block of this level that stands at some place
abbrev pub IsInMemo : {T : Type 0} → List (Option (MemoEntry T)) → ℕ → MemoEntry T → Type 0
IsInMemo places level e = (k : ℕ) × (slice_index_or places k None ≡ Some e) × (e.level ≡ level)

-- it was made by a task that makes the same cells
abbrev pub IsLike : {T : Type 0} → (T → Making) → T → MemoEntry T → Type 0
IsLike makes task e = MakeAlike (makes task) (makes e.task)

-- its name is that of the block that its task makes
pub record IsMade {T : Type 0} (makes : T → Making) (base held : List Tree) (level : ℕ)
    (e : MemoEntry T) : Type 0 where
  pub tree : Tree
  pub of : IsTreeOf held level tree e.name
  pub cells : Cells
  pub made : makes e.task base level cells
  pub shape : shape_of tree ≡ shape_with level cells

-- all that is remembered was made so, and is reached from what is held
pub record Recalls {T : Type 0} (makes : T → Making) (base held : List Tree)
    (memo : MemoSet T) : Type 0 where
  pub each : (level : ℕ) (e : MemoEntry T) → memo level e → IsMade makes base held level e

-- all that is remembered was made by trees that are held, and is reached
pub record RecallsHeld {T : Type 0} (makes : T → Making) (held : List Tree)
    (memo : MemoSet T) : Type 0 where
  pub base : List Tree
  pub keeps : Keeps base held
  pub recalls : Recalls makes base held memo
