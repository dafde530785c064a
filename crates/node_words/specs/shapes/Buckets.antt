-- The bucket that a node's key is kept in, by a hash of its content alone.
use Rattle.std.specs.Prelude.{ℕ, ◌+◌, ◌*◌, ◌/◌, ◌%◌, ◌^◌, List, bit_xor, slice_index}
use Rattle.std.proofs.Common.{zero, suc}
use Rattle.node_words.specs.shapes.Shape.{Shape, Clear, Leaf, Branch, octant_shape, bits_of}

-- what a hash starts with
abbrev pub hash_start : ℕ
hash_start = 0x9E3779B97F4A7C15

-- the high bits of a word of 64 bits go into its low ones
abbrev pub folded : ℕ → ℕ → ℕ
folded h by = bit_xor h (h / 2 ^ by)

-- a word mixed into a hash
unfoldable pub mixed : ℕ → ℕ → ℕ
mixed h word = folded ((bit_xor h word * 0xBF58476D1CE4E5B9) % 2 ^ 64) 29

-- the last step of a hash
unfoldable pub finished : ℕ → ℕ
finished h = folded ((folded h 32 * 0x94D049BB133111EB) % 2 ^ 64) 29

-- the bucket of a hash, of so many buckets
abbrev pub bucket_of_hash : ℕ → ℕ → ℕ
bucket_of_hash h buckets = finished h / 2 ^ 32 % buckets

-- the bucket of a leaf of these bits
abbrev pub leaf_bucket : ℕ → ℕ → ℕ
leaf_bucket bits buckets = bucket_of_hash (mixed hash_start bits) buckets

-- a word of a node's hash, from what stands for two of its octants
abbrev pub pair_word : ℕ → ℕ → ℕ
pair_word low high = low + 2 ^ 32 * high

-- the hash of a node before its last step. For each octant stands 0 where there is no child, else 1
-- and the child's bucket
abbrev pub node_hash : (ℕ → ℕ) → ℕ
node_hash terms =
    mixed (mixed
    (mixed (mixed hash_start (pair_word (terms 0) (terms 1))) (pair_word (terms 2) (terms 3)))
    (pair_word (terms 4) (terms 5))) (pair_word (terms 6) (terms 7))

-- the bucket of a node
abbrev pub node_bucket : (ℕ → ℕ) → ℕ → ℕ
node_bucket terms buckets = bucket_of_hash (node_hash terms) buckets

-- what stands for an octant: 0 where it is clear, else 1 and its bucket
abbrev pub octant_term : Shape → ℕ → ℕ
octant_term Clear bucket = 0
octant_term (Leaf bits) bucket = 1 + bucket
octant_term (Branch a b c d e f g h) bucket = 1 + bucket

-- the bucket of a shape of this level, by a plan's numbers of buckets from level 0 up
unfoldable pub bucket_of_shape : List ℕ → ℕ → Shape → ℕ
bucket_of_shape buckets zero s = leaf_bucket (bits_of s) (slice_index buckets 0)
bucket_of_shape buckets (suc level) s =
    node_bucket (λ k. octant_term (octant_shape s k)
    (bucket_of_shape buckets level (octant_shape s k))) (slice_index buckets (suc level))
