-- How a store of nodes is laid out.
use Rattle.std.specs.Prelude.{ℕ, ◌≡◌, ◌≤◌, List, [], ◌∷◌, Bool, false, if◌then◌else◌, nat_le, IsTrue, length, slice_index}
use Rattle.std.specs.List.{list_all}

-- the side of the world as a power of two, the number of buckets on each level, and the slots of
-- each bucket
pub record Layout : Type 0 where
  pub side : ℕ
  pub buckets : List ℕ
  pub cap : ℕ

abbrev pub is_from_to : ℕ → ℕ → ℕ → Bool
is_from_to low high n = if nat_le low n then nat_le n high else false

abbrev pub is_number_of_buckets : ℕ → Bool
is_number_of_buckets n = is_from_to 1 4096 n

abbrev pub is_cap : ℕ → Bool
is_cap n = is_from_to 1 256 n

-- the number of buckets on a level
abbrev pub buckets_at : Layout → ℕ → ℕ
buckets_at p level = slice_index p.buckets level

-- a plan has 1 to 4,096 buckets on each of the levels 0 to 10, and 1 to 256 slots in each bucket
pub record IsPlan (p : Layout) : Type 0 where
  pub side_low : 2 ≤ p.side
  pub side_high : p.side ≤ 12
  pub levels : length p.buckets ≡ 11
  pub buckets : IsTrue (list_all is_number_of_buckets p.buckets)
  pub cap_low : 1 ≤ p.cap
  pub cap_high : p.cap ≤ 256

-- how many buckets a level has, where nothing else is asked for
abbrev pub usual_buckets : List ℕ
usual_buckets = 4096 ∷ 4096 ∷ 4096 ∷ 1024 ∷ 1024 ∷ 256 ∷ 256 ∷ 256 ∷ 256 ∷ 256 ∷ 256 ∷ []
