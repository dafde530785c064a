-- The names that a store of a plan has, and what a node's key says.
use Rattle.std.specs.Prelude.{◌≡◌, ℕ, ◌<◌, Option, Some, None}
use Rattle.node_words.specs.declared.shapes.names.Name.{Name}
use Rattle.node_words.specs.declared.keys.Key.{Key}
use Rattle.node_words.specs.declared.keys.Key.TheVariants.{Leaf, Node}
use Rattle.node_words.specs.Held.{name_in}
use Rattle.node_words.specs.Plans.{Layout}
use Rattle.core_laws.specs.places.WordIds.{IsSlot}

abbrev pub named : ℕ → ℕ → ℕ → Name
named level bucket slot = record { level = level; bucket = bucket; slot = slot }

-- a name that a store of this plan has
abbrev pub IsName : Layout → Name → Type 0
IsName p n = IsSlot p n.level n.bucket n.slot

-- the bits of a leaf's key
abbrev pub key_bits : Key → ℕ
key_bits (Leaf bits) = bits
key_bits (Node children) = 0

-- the child in an octant, by a node's key
abbrev pub key_child : Key → ℕ → Option Name
key_child (Leaf bits) octant = None
key_child (Node children) octant = name_in children octant

-- each child is a name of the plan
pub record HasNames (p : Layout) (key : Key) : Type 0 where
  pub each : (k : ℕ) (m : Name) → k < 8 → key_child key k ≡ Some m → IsName p m
