-- The region of a place of a model, which is stamped at the origin of the least world that holds
-- it.
use Rattle.std.specs.Prelude.{◌≡◌, ℕ, ◌^◌, ◌<◌, ◌≤◌, ◌∷◌, [], false, ◌||◌, Bool, List, Option, Some, None, All, replicate, IsTrue, ⊤}
use Rattle.std.specs.List.{slice_get}
use Rattle.vw_cell.specs.declared.cells.Cell.{Cell}
use Rattle.vw_cell.specs.declared.boxes.Boxed.{Boxed}
use Rattle.vw_cell.specs.Counts.{cell_at, number_in}
use Rattle.vw_cell.specs.Places.{is_in_box}
use Rattle.vox_read.specs.Contents.{Content, is_cell}
use Rattle.node_words.specs.shapes.Shape.{Shape}
use Rattle.node_words.specs.Plans.{Layout}
use Rattle.node_words.specs.Enough.{HasEnough}
use Rattle.node_words.specs.declared.shares.Full.{Full}
use Rattle.history_model.specs.declared.acts.Act.TheVariants.{Stamp}
use Rattle.history_model.specs.Worlds.{World, is_in_stamp}
use Rattle.extract.specs.Saved.{file_of_box}
use Rattle.conformance.specs.possible.Needed.{Span, IsPossible}
use Rattle.conformance.specs.scripts.Keeping.{IsPartOfWorld}
use Rattle.flood.specs.Regions.{IsRegion}
use Rattle.flood.specs.declared.models.FloodRefused.{FloodRefused}
use Rattle.flood.specs.declared.models.FloodRefused.TheVariants.{StoreFull, Memory}

-- all places of a model of this size
abbrev pub whole_box : Cell → Boxed
whole_box size = record { at = cell_at 0 0 0; size = size }

-- the model of a list has the place
abbrev pub has_start : Option Content → Cell → Bool
has_start None from = false
has_start (Some m) from = is_in_box (whole_box m.size) from

abbrev pub has_place : List Content → ℕ → Cell → Bool
has_place models number from = has_start (slice_get models number) from

-- the region of the place among the places of the model that are no cells: the number of its cells,
-- and the file whose one model has the model's size and those cells
pub record FloodsModel (models : List Content) (number : ℕ) (from : Cell) (cells : ℕ)
    (file : List ℕ) : Type 0 where
  pub model : Content
  pub there : slice_get models number ≡ Some model
  pub inside : IsTrue (is_in_box (whole_box model.size) from)
  pub region : Cell → Bool
  pub is_region : IsRegion (whole_box model.size) (is_cell model.voxels) from region
  pub counted : cells ≡ number_in (whole_box model.size) region
  pub filed : file ≡ file_of_box (whole_box model.size) region

-- the world with the model at its origin
abbrev pub stamped_alone : Content → World
stamped_alone m p = is_in_stamp (Some m) (cell_at 0 0 0) p || false

-- the exponent of the least side that holds a model of this size
pub record IsLeastHolding (size : Cell) (side : ℕ) : Type 0 where
  pub low : 2 ≤ side
  pub high : side ≤ 12
  pub holds : (size.x ≤ 2 ^ side) × (size.y ≤ 2 ^ side) × (size.z ≤ 2 ^ side)
  pub no_lower : (e : ℕ) → 2 ≤ e → e < side
      → (size.x ≤ 2 ^ e) × (size.y ≤ 2 ^ e) × (size.z ≤ 2 ^ e) → ⊥

-- the store's plan
abbrev pub flood_plan : ℕ → Layout
flood_plan side = record { side = side; buckets = replicate 11 4096; cap = 256 }

-- the stamp, as the one edit of a run
abbrev pub the_stamp : ℕ → Span
the_stamp number = record { act = Stamp number (cell_at 0 0 0); first = 0; last = 0 }

-- the stamp can need as many contents of this level and bucket as the bucket has room for
pub record MayFillStore (models : List Content) (number : ℕ) (from : Cell)
    (full : Full) : Type 0 where
  pub model : Content
  pub there : slice_get models number ≡ Some model
  pub inside : IsTrue (is_in_box (whole_box model.size) from)
  pub side : ℕ
  pub least : IsLeastHolding model.size side
  pub possible : IsPossible (flood_plan side) models [] (the_stamp number ∷ []) full.level
      full.bucket 256

-- what a refusal says: want of memory says nothing
abbrev pub RefusesFlood : List Content → ℕ → Cell → FloodRefused → Type 0
RefusesFlood models number from (StoreFull full) = MayFillStore models number from full
RefusesFlood models number from Memory = ⊤

-- parts of this world were made, as many different ones of the bucket as it has room for
pub record MetFull (p : Layout) (w : World) (full : Full) : Type 0 where
  pub made : List Shape
  pub parts : All (IsPartOfWorld p w) made
  pub enough : HasEnough p made full.level full.bucket

abbrev pub RefusesStamp : Layout → World → FloodRefused → Type 0
RefusesStamp p w (StoreFull full) = MetFull p w full
RefusesStamp p w Memory = ⊤
