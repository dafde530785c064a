-- Words for cubes of leaves, over those of a model's leaves.
use Rattle.std.specs.Prelude.{◌≡◌, ◌≢◌, ℕ, ◌+◌, ◌/◌, ◌^◌, ◌<◌, slice_index}
use Rattle.vw_cell.specs.declared.cells.Cell.{Cell}
use Rattle.vw_cell.specs.Counts.{cell_at}
use Rattle.edit_stamp.specs.Drawings.{Drawn, leaves_of, leaf_number}

-- half of a size, upward
abbrev pub half_of : Cell → Cell
half_of size = cell_at ((size.x + 1) / 2) ((size.y + 1) / 2) ((size.z + 1) / 2)

-- the size has a leaf at this place
abbrev pub IsLeaf : Cell → ℕ → ℕ → ℕ → Type 0
IsLeaf size i j k = (i < leaves_of size.x) × (j < leaves_of size.y) × (k < leaves_of size.z)

-- the word of a leaf
abbrev pub leaf_word : Drawn → ℕ → ℕ → ℕ → ℕ
leaf_word drawn i j k = slice_index drawn.words (leaf_number drawn.size i j k)

-- a word over the cube of 2 x 2 x 2 leaves at a place: 1, or the word of each of them
pub record IsWordOver (below : Drawn) (x y z word : ℕ) : Type 0 where
  pub each : (i j k : ℕ) → i < leaves_of below.size.x → j < leaves_of below.size.y
      → k < leaves_of below.size.z → i / 2 ≡ x → j / 2 ≡ y → k / 2 ≡ z → word ≢ 1
      → leaf_word below i j k ≡ word

-- a word of the tier stands over each cube of 2 ^ up leaves a side: it is 1, or the word of each of
-- them
pub record TellsTier (drawn : Drawn) (up : ℕ) (tier : Drawn) : Type 0 where
  pub stands : (i j k : ℕ) → i < leaves_of drawn.size.x → j < leaves_of drawn.size.y
      → k < leaves_of drawn.size.z
      → (i / 2 ^ up < leaves_of tier.size.x) × (j / 2 ^ up < leaves_of tier.size.y)
      × (k / 2 ^ up < leaves_of tier.size.z)
  pub each : (i j k : ℕ) → i < leaves_of drawn.size.x → j < leaves_of drawn.size.y
      → k < leaves_of drawn.size.z → leaf_word tier (i / 2 ^ up) (j / 2 ^ up) (k / 2 ^ up) ≢ 1
      → leaf_word drawn i j k ≡ leaf_word tier (i / 2 ^ up) (j / 2 ^ up) (k / 2 ^ up)

-- six tiers stand over the leaves, each over cubes twice as large as those before
pub record HasTiers (drawn first second third fourth fifth sixth : Drawn) : Type 0 where
  pub in_first : TellsTier drawn 1 first
  pub in_second : TellsTier drawn 2 second
  pub in_third : TellsTier drawn 3 third
  pub in_fourth : TellsTier drawn 4 fourth
  pub in_fifth : TellsTier drawn 5 fifth
  pub in_sixth : TellsTier drawn 6 sixth
