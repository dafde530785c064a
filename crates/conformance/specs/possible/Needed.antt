-- Which contents an act needs, and how many different ones a run can have needed.
use Rattle.std.specs.Prelude.{◌≡◌, ℕ, ◌+◌, ◌^◌, ◌≤◌, true, List, length, slice_index, All}
use Rattle.std.specs.List.{AllPairs, Contains}
use Rattle.std.proofs.Common.{zero, suc}
use Rattle.vw_cell.specs.declared.blocks.Block.{Block}
use Rattle.vw_cell.specs.Counts.{cell_at, number_below}
use Rattle.vw_cell.specs.Places.{block_side}
use Rattle.core_laws.specs.HistoryModelContents.{Content}
use Rattle.core_laws.specs.Act.{Act}
use Rattle.core_laws.specs.Record.{Record}
use Rattle.core_laws.specs.Worlds.{World, is_edit}
use Rattle.core_laws.specs.Stores.{stored_in, edit_part_number, made_by_parts}
use Rattle.node_words.specs.shapes.Buckets.{leaf_bucket, node_bucket}
use Rattle.node_words.specs.Plans.{Layout}
use Rattle.core_laws.specs.contents.Aligned.{world_block, IsAligned}
use Rattle.core_laws.specs.contents.Contents.{HasCellIn}
use Rattle.node_words.specs.contents.CellShapes.{Cells, octant_cells, SameIn, bits_with}

-- the content of a block: which of its cells are set
abbrev pub content_of : World → Block → Cells
content_of w b x y z = w (cell_at (b.at.x + x) (b.at.y + y) (b.at.z + z))

-- how many cells of a block of this level are set
abbrev pub number_of_cells : ℕ → Cells → ℕ
number_of_cells level cells = number_below (cell_at (block_side level) (block_side level)
    (block_side level)) (λ c. cells c.x c.y c.z)

-- what stands in a node's hash for an octant with so many set cells and this bucket: 0 where no
-- cell is set
abbrev pub content_term : ℕ → ℕ → ℕ
content_term zero bucket = 0
content_term (suc cells) bucket = 1 + bucket

-- the bucket of a content of this level, by a plan's numbers of buckets from level 0 up: from the
-- 64 bits of a leaf, or
-- from the buckets of the eight octants
unfoldable pub bucket_of_cells : List ℕ → ℕ → Cells → ℕ
bucket_of_cells buckets zero cells = leaf_bucket (bits_with cells) (slice_index buckets 0)
bucket_of_cells buckets (suc level) cells =
    node_bucket (λ k. content_term (number_of_cells level (octant_cells level cells k))
    (bucket_of_cells buckets level (octant_cells level cells k)))
    (slice_index buckets (suc level))

-- the cells of the store after so many parts of what an edit makes of a version
abbrev pub made_of : ℕ → List Content → List Record → Act → ℕ → ℕ → World
made_of side models records act version parts =
    made_by_parts side models act parts (stored_in side models records version)

-- after so many parts that the edit makes of the version, the store has this block of this level,
-- with a set cell and a content of this bucket
pub record IsNeeded (p : Layout) (models : List Content) (records : List Record) (act : Act)
    (version parts level bucket : ℕ) (b : Block) : Type 0 where
  pub edit : is_edit act ≡ true
  pub some_part : 1 ≤ parts
  pub few_parts : parts ≤ edit_part_number act
  pub aligned : IsAligned (world_block p.side) b
  pub same_level : b.level ≡ level
  pub some : HasCellIn b (made_of (2 ^ p.side) models records act version parts)
  pub of_bucket : bucket_of_cells p.buckets level
      (content_of (made_of (2 ^ p.side) models records act version parts) b) ≡ bucket

-- a script's act, and the moments between which it was answered
pub record Span : Type 0 where
  pub act : Act
  pub first : ℕ
  pub last : ℕ

-- a block of what so many parts of an act make of a version
pub record Need : Type 0 where
  pub act : Act
  pub version : ℕ
  pub parts : ℕ
  pub block : Block

-- the block is needed by an act of the run, of a version of its moments
pub record IsNeed (p : Layout) (models : List Content) (records : List Record) (spans : List Span)
    (level bucket : ℕ) (need : Need) : Type 0 where
  pub span : Span
  pub listed : Contains spans span
  pub same_act : need.act ≡ span.act
  pub low : span.first ≤ need.version
  pub high : need.version ≤ span.last
  pub needed : IsNeeded p models records need.act need.version need.parts level bucket need.block

-- the content that is needed
abbrev pub content_needed : ℕ → List Content → List Record → Need → Cells
content_needed side models records need =
    content_of (made_of side models records need.act need.version need.parts) need.block

-- the two blocks have the same content
abbrev pub SameNeed : ℕ → List Content → List Record → ℕ → Need → Need → Type 0
SameNeed side models records level s t =
    SameIn level (content_needed side models records s) (content_needed side models records t)

-- some block of this level and bucket is needed
pub record NeedsSome (p : Layout) (models : List Content) (records : List Record) (act : Act)
    (version level bucket : ℕ) : Type 0 where
  pub parts : ℕ
  pub block : Block
  pub needed : IsNeeded p models records act version parts level bucket block

-- the acts of the run need so many different contents of this level and bucket, or more
pub record IsPossible (p : Layout) (models : List Content) (records : List Record)
    (spans : List Span) (level bucket number : ℕ) : Type 0 where
  pub needs : List Need
  pub as_many : number ≤ length needs
  pub each : All (IsNeed p models records spans level bucket) needs
  pub different : AllPairs (λ s t. ¬ SameNeed (2 ^ p.side) models records level s t) needs
