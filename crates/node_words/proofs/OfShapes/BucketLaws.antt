-- Laws of buckets.
use Rattle.std.proofs.Common.{◌≡◌, ◌≢◌, ℕ, zero, suc, ◌+◌, ◌<◌, ◌≤◌, List, refl, arith}
use Rattle.std.proofs.lemmas.Nat.{mod_below}
use Rattle.std.specs.Prelude.{slice_index}
use Rattle.node_words.specs.shapes.Shape.{Shape, Clear, Leaf, Branch, octant_shape}
use Rattle.node_words.specs.shapes.Buckets.{bucket_of_hash, node_bucket, leaf_bucket, octant_term, bucket_of_shape}

pub bucket_below : (h buckets : ℕ) → 1 ≤ buckets → bucket_of_hash h buckets < buckets
bucket_below h buckets some = mod_below _ buckets some

-- a node's bucket follows from what stands for its octants
pub node_bucket-same : (terms others : ℕ → ℕ) (buckets : ℕ) → ((k : ℕ) → k < 8 → terms k ≡ others k)
    → node_bucket terms buckets ≡ node_bucket others buckets
node_bucket-same t u buckets h =
    rw (
      h 0 (omega arith),
      h 1 (omega arith),
      h 2 (omega arith),
      h 3 (omega arith),
      h 4
          (omega arith),
      h 5 (omega arith),
      h 6 (omega arith),
      h 7 (omega arith),
    ) refl

pub octant_term-clear : (s : Shape) (bucket : ℕ) → s ≡ Clear → octant_term s bucket ≡ 0
octant_term-clear s bucket e = rw e refl

pub octant_term-there : (s : Shape) (bucket : ℕ) → s ≢ Clear → octant_term s bucket ≡ 1 + bucket
octant_term-there Clear bucket ne = absurd (ne refl)
octant_term-there (Leaf bits) bucket ne = refl
octant_term-there (Branch a b c d e f g h) bucket ne = refl

pub bucket_of_shape-leaf : (buckets : List ℕ) (bits : ℕ)
    → bucket_of_shape buckets 0 (Leaf bits) ≡ leaf_bucket bits (slice_index buckets 0)
unfolding bucket_of_shape
bucket_of_shape-leaf buckets bits = refl

pub bucket_of_shape-node : (buckets : List ℕ) (level : ℕ) (s : Shape)
    → bucket_of_shape buckets (suc level) s ≡ node_bucket
    (λ k. octant_term (octant_shape s k) (bucket_of_shape buckets level (octant_shape s k)))
    (slice_index buckets (suc level))
unfolding bucket_of_shape
bucket_of_shape-node buckets level s = refl

-- the bucket of a shape is one of its level's
pub shape_bucket_below : (buckets : List ℕ) (level : ℕ) (s : Shape) → 1 ≤ slice_index buckets level
    → bucket_of_shape buckets level s < slice_index buckets level
unfolding bucket_of_shape
shape_bucket_below buckets zero s h = bucket_below _ _ h
shape_bucket_below buckets (suc level) s h = bucket_below _ _ h
