-- The bucket of a key is that of the node's shape.
use Rattle.std.proofs.Common.{◌≡◌, ℕ, suc, ◌+◌, Some, None, Option, List, refl, sym, ◌∙◌, ap, add-one}
use Rattle.std.specs.Prelude.{slice_index}
use Rattle.node_words.specs.declared.shapes.names.Name.{Name}
use Rattle.node_words.specs.shapes.Shape.{Shape, octant_shape}
use Rattle.node_words.specs.shapes.Buckets.{octant_term, bucket_of_shape}
use Rattle.node_words.proofs.OfShapes.BucketLaws.{node_bucket-same, octant_term-clear, octant_term-there, bucket_of_shape-leaf, bucket_of_shape-node}
use Rattle.node_words.specs.declared.keys.Key.{Key}
use Rattle.node_words.specs.Held.{name_in}
use Rattle.node_words.specs.Keys.{child_term, bucket_of_key, ChildFits, IsKeyOf, of_leaf, of_node}

child_fits : (buckets : List ℕ) (level : ℕ) (octant : Shape) (child : Option Name)
    → ChildFits buckets level octant child
    → child_term child ≡ octant_term octant (bucket_of_shape buckets level octant)
child_fits buckets level octant None h = sym (octant_term-clear octant _ (h.clear refl))
child_fits buckets level octant (Some n) h =
    ap (λ (b : ℕ). 1 + b) (h.bucket n refl) ∙ sym (octant_term-there octant _ (h.there n refl))

pub key_bucket : (buckets : List ℕ) (level : ℕ) (s : Shape) (key : Key)
    → IsKeyOf buckets level s key
    → bucket_of_key key (slice_index buckets level) ≡ bucket_of_shape buckets level s
key_bucket buckets level s key (of_leaf bits) = sym (bucket_of_shape-leaf buckets bits)
key_bucket buckets level s key (of_node l t children h) = rw add-one (
    node_bucket-same (λ k. child_term (name_in children k))
    (λ k. octant_term (octant_shape t k) (bucket_of_shape buckets l (octant_shape t k)))
    (slice_index buckets (suc l))
    (λ k lt. child_fits buckets l (octant_shape t k) (name_in children k) (h k lt))
    ∙ sym (bucket_of_shape-node buckets l t))
