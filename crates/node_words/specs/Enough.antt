-- Lists of shapes by level and bucket: when as many different ones are listed as a bucket has
-- slots.
use Rattle.std.specs.Prelude.{◌≡◌, ◌≢◌, ℕ, List, All, length}
use Rattle.std.specs.List.{AllPairs, Contains}
use Rattle.node_words.specs.shapes.Shape.{Shape, Clear, IsCanonical}
use Rattle.node_words.specs.shapes.Buckets.{bucket_of_shape}
use Rattle.node_words.specs.Plans.{Layout}

-- a list with as many different shapes of this level and bucket as a bucket has slots
pub record HasEnough (p : Layout) (made : List Shape) (level bucket : ℕ) : Type 0 where
  pub shapes : List Shape
  pub number : length shapes ≡ p.cap
  pub different : AllPairs (λ s t. s ≢ t) shapes
  pub of_level : All (λ s. IsCanonical level s × (s ≢ Clear)) shapes
  pub of_bucket : All (λ s. bucket_of_shape p.buckets level s ≡ bucket) shapes
  pub listed : All (λ s. Contains made s) shapes

-- a list that contains all of another has enough where that one has
pub enough_stays : (p : Layout) (made more : List Shape) (level bucket : ℕ)
    → ((s : Shape) → Contains made s → Contains more s)
    → HasEnough p made level bucket → HasEnough p more level bucket
enough_stays p made more level bucket more_of e = record {
  shapes = e.shapes;
  number = e.number;
  different = e.different;
  of_level = e.of_level;
  of_bucket = e.of_bucket;
  listed = λ k s lt. more_of _ (e.listed k s lt);
}
