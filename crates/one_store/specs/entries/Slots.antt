-- Where the slots of a plan stand in rows. Each level has a row of its own for books, and one for
-- the bits of leaves or the words of nodes. In each the first slots of all buckets of the level
-- stand side by side, then their second slots, and so on. Tags stand in blocks of sixteen: the
-- first blocks of all buckets side by side, then their second blocks, and so on.
use Rattle.std.specs.Prelude.{◌≡◌, ℕ, ◌+◌, ◌*◌, ◌/◌, ◌^◌, ◌<◌, ◌≤◌, List, slice_index}
use Rattle.core_laws.specs.Sums.{sum_below}
use Rattle.node_words.specs.declared.shapes.names.Name.{Name}
use Rattle.node_words.specs.Plans.{Layout}
use Rattle.core_laws.specs.places.WordIds.{levels, buckets_at}

-- how many buckets all levels have
abbrev pub number_of_buckets : Layout → ℕ
number_of_buckets p = sum_below (levels p) (buckets_at p)

-- how many slots a level has
abbrev pub slots_at : Layout → ℕ → ℕ
slots_at p level = buckets_at p level * p.cap

-- the place of a bucket among those of all levels
abbrev pub bucket_place : Layout → ℕ → ℕ → ℕ
bucket_place p level bucket = sum_below level (buckets_at p) + bucket

-- the place of a slot in the rows of its level
abbrev pub slot_place : Layout → Name → ℕ
slot_place p n = n.slot * buckets_at p n.level + n.bucket

-- how many blocks of tags there are, and the place of one of a bucket's
abbrev pub number_of_blocks : Layout → ℕ
number_of_blocks p = number_of_buckets p * ((p.cap + 15) / 16)

abbrev pub block_place : Layout → ℕ → ℕ → ℕ → ℕ
block_place p level bucket block = block * number_of_buckets p + bucket_place p level bucket

-- a bucket of the plan
pub record IsBucket (p : Layout) (level bucket : ℕ) : Type 0 where
  pub level_in : level < levels p
  pub bucket_in : bucket < buckets_at p level

-- for each number of levels, how many buckets they have
pub record AreEnds (p : Layout) (ends : List ℕ) : Type 0 where
  pub end : (level : ℕ) → level ≤ 11 → slice_index ends level ≡ sum_below level (buckets_at p)
  pub small : (level : ℕ) → level ≤ 11 → slice_index ends level < 2 ^ 20
