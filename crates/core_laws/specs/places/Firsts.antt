-- Where the buckets of each level begin and how many words they have, found once for a plan.
use Rattle.std.specs.Prelude.{◌≡◌, ◌≢◌, ℕ, ◌+◌, ◌^◌, ◌<◌, ◌≤◌, List, slice_index}
use Rattle.node_words.specs.Sums.{sum_below}
use Rattle.node_words.specs.Plans.{Layout, IsPlan}
use Rattle.core_laws.specs.places.WordIds.{head_words, bucket_words, level_words, first_bucket}

-- how many words the head of a bucket has, a bucket of leaves and one of nodes; and for each number
-- of levels, where the buckets of so many levels end
pub record AreFirsts (p : Layout) (head leaves nodes : ℕ) (starts : List ℕ) : Type 0 where
  pub plan : IsPlan p
  pub head_is : head ≡ head_words p
  pub leaves_are : leaves ≡ bucket_words p 0
  pub nodes_are : (level : ℕ) → level ≢ 0 → nodes ≡ bucket_words p level
  pub starts_are : (levels : ℕ) → levels ≤ 11
      → slice_index starts levels ≡ first_bucket + sum_below levels (level_words p)
  pub small : (head < 2 ^ 20) × (leaves < 2 ^ 20) × (nodes < 2 ^ 20)
  pub starts_small : (levels : ℕ) → levels ≤ 11 → slice_index starts levels < 2 ^ 40
