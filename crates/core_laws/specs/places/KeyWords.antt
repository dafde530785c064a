-- The words of a key: a leaf's bits are one word, and a node's eight children are two in each of
-- four words.
use Rattle.std.specs.Prelude.{◌≡◌, ℕ, zero, suc, ◌+◌, ◌-◌, ◌*◌, ◌/◌, ◌%◌, ◌^◌, ◌<◌, ◌≤◌, Option, Some, None, List, [], ◌∷◌, length, map}
use Rattle.node_words.specs.declared.shapes.names.Name.{Name}
use Rattle.node_words.specs.declared.keys.Key.{Key}
use Rattle.node_words.specs.declared.keys.Key.TheVariants.{Leaf, Node}
use Rattle.node_words.specs.Held.{name_in}
use Rattle.core_laws.specs.places.Words.{word_of_child, IsChildAt}

-- the child of this level that a word stands for
abbrev pub child_of_word : ℕ → ℕ → Option Name
child_of_word level zero = None
child_of_word level (suc at) = Some (record { level = level; bucket = at / 256; slot = at % 256 })

-- a half of a word, the low one first
abbrev pub half : ℕ → ℕ → ℕ
half zero word = word % 2 ^ 32
half (suc k) word = word / 2 ^ 32

-- the children of this level that four words stand for, by octant
abbrev pub children_of_words : ℕ → (ℕ → ℕ) → List (Option Name)
children_of_words level words =
    map (λ k. child_of_word level (half (k % 2) (words (k / 2))))
    (0 ∷ 1 ∷ 2 ∷ 3 ∷ 4 ∷ 5 ∷ 6 ∷ 7 ∷ [])

-- the key that words stand for, of a node of this level
abbrev pub key_of_words : ℕ → (ℕ → ℕ) → Key
key_of_words zero words = Leaf (words 0)
key_of_words (suc level) words = Node (children_of_words level words)

-- a word of a key, by its number
abbrev pub key_word : Key → ℕ → ℕ
key_word (Leaf bits) i = bits
key_word (Node children) i =
    word_of_child (name_in children (2 * i)) + 2 ^ 32 * word_of_child (name_in children (2 * i + 1))

-- a child of this level, or none, whose word is half of a key's word
pub record FitsHalf (level : ℕ) (child : Option Name) : Type 0 where
  pub is_child : IsChildAt level child
  pub low : word_of_child child < 2 ^ 32

-- a node's eight children of the level below, which words can say
pub record HasHalves (level : ℕ) (children : List (Option Name)) : Type 0 where
  pub above : 1 ≤ level
  pub eight : length children ≡ 8
  pub each : (k : ℕ) → k < 8 → FitsHalf (level - 1) (name_in children k)

-- a key of this level that words can say
abbrev pub IsKeyAt : ℕ → Key → Type 0
IsKeyAt level (Leaf bits) = level ≡ 0
IsKeyAt level (Node children) = HasHalves level children
