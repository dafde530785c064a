-- The keys that tell a bucket's entries apart.
use Rattle.std.specs.Prelude.{◌≡◌, ◌≢◌, ℕ, ◌+◌, ◌<◌, Option, Some, None, List}
use Rattle.node_words.specs.declared.shapes.names.Name.{Name}
use Rattle.node_words.specs.shapes.Shape.{Shape, Clear, octant_shape}
use Rattle.node_words.specs.shapes.Shape as shape
use Rattle.node_words.specs.shapes.Buckets.{leaf_bucket, node_hash, bucket_of_hash, bucket_of_shape}
use Rattle.node_words.specs.declared.keys.Key.{Key}
use Rattle.node_words.specs.declared.keys.Key.TheVariants.{Leaf, Node}
use Rattle.node_words.specs.Held.{name_in}

-- what stands for an octant in a node's hash: 0 where there is no child, else 1 and the child's
-- bucket
abbrev pub child_term : Option Name → ℕ
child_term None = 0
child_term (Some n) = 1 + n.bucket

-- a node's hash before its last step
abbrev pub children_hash : List (Option Name) → ℕ
children_hash children = node_hash (λ k. child_term (name_in children k))

-- the bucket of a key, of so many buckets
abbrev pub bucket_of_key : Key → ℕ → ℕ
bucket_of_key (Leaf bits) buckets = leaf_bucket bits buckets
bucket_of_key (Node children) buckets = bucket_of_hash (children_hash children) buckets

-- an octant has no child where it is clear, and else a child in its shape's bucket
pub record ChildFits (buckets : List ℕ) (level : ℕ) (octant : Shape)
    (child : Option Name) : Type 0 where
  pub clear : child ≡ None → octant ≡ Clear
  pub there : (n : Name) → child ≡ Some n → octant ≢ Clear
  pub bucket : (n : Name) → child ≡ Some n → n.bucket ≡ bucket_of_shape buckets level octant

-- the key is that of a node of this level and shape, whose children stand in their shapes' buckets
pub data IsKeyOf (buckets : List ℕ) : ℕ → Shape → Key → Type 0 where
  of_leaf : (bits : ℕ) → IsKeyOf buckets 0 (shape.Leaf bits) (Leaf bits)
  of_node : (level : ℕ) (s : Shape) (children : List (Option Name))
      → ((k : ℕ) → k < 8 → ChildFits buckets level (octant_shape s k) (name_in children k))
      → IsKeyOf buckets (level + 1) s (Node children)
