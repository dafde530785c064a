-- What an edit of a root needs, and what it leaves for each outcome.
use Rattle.std.specs.Prelude.{◌≡◌, ℕ, ◌-◌, ◌≤◌, Bool, Option, Result, Ok, Err}
use Rattle.vw_cell.specs.declared.cells.Cell.{Cell}
use Rattle.node_words.specs.declared.shapes.names.Name.{Name}
use Rattle.node_words.specs.shapes.Shape.{Shape}
use Rattle.node_words.specs.shapes.Weights.{number_of_trees}
use Rattle.node_words.specs.declared.shares.Full.{Full}
use Rattle.node_words.specs.Held.{StoreState}
use Rattle.node_words.specs.Gathering.{GainsShare, Grows, Fails}
use Rattle.node_words.specs.descent.Roots.{HoldsRoot}
use Rattle.edit_walk.specs.cells.Worlds.{ForEdited, Rebuilt, world_shape}

-- a store of this side holds the root, and no more trees than so many
pub record MayEdit (most : ℕ) (seen : StoreState) (side : ℕ) (root : Option Name) : Type 0 where
  pub side_is : side ≡ seen.plan.side
  pub root_is : HoldsRoot seen.held side root
  pub room : number_of_trees seen.held ≤ most

-- a share of a block of this shape came; parts of it may have been made, and nothing met a full
-- bucket
pub record MadeBlock (level : ℕ) (target : Shape) (name : Option Name)
    (old new : StoreState) : Type 0 where
  pub came : GainsShare old.held level target name new.held
  pub grows : Grows target old new

-- or a part of it met this full bucket, and the store holds what it held
abbrev pub MakesBlock : ℕ → Shape → Result (Option Name) Full → StoreState → StoreState → Type 0
MakesBlock level target (Ok name) old new = MadeBlock level target name old new
MakesBlock level target (Err full) old new = Fails target full.level full.bucket old new

-- the same of the root of a world
pub record MadeRoot (level : ℕ) (world : Cell → Bool) (name : Option Name)
    (old new : StoreState) : Type 0 where
  pub came : Rebuilt level world name old new
  pub grows : Grows (world_shape level world) old new

abbrev pub Rebuilds : ℕ → (Cell → Bool) → Result (Option Name) Full → StoreState → StoreState
    → Type 0
Rebuilds level world (Ok name) old new = MadeRoot level world name old new
Rebuilds level world (Err full) old new =
    Fails (world_shape level world) full.level full.bucket old new

-- so the edit was made of each world that the root shows
abbrev pub Edits : StoreState → ℕ → Option Name → ((Cell → Bool) → Cell → Bool)
    → Result (Option Name) Full → StoreState → Type 0
Edits old side root edit result new =
    ForEdited old side root edit (λ world. Rebuilds (side - 2) world result old new)
