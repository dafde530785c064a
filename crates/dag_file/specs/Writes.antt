-- The bytes of a DAG file, of its numbers and entries; and what a writer has of a store's names:
-- the keys of each level, by which it tells them apart.
use Rattle.std.specs.Prelude.{◌≡◌, ℕ, ◌+◌, ◌^◌, ◌<◌, ◌⊎◌, List, [], ◌∷◌, ◌++◌, length, Option, Some, None, slice_index, slice_index_or, slice_get, MatchOption, codes}
use Rattle.std.specs.List.{Contains, flat_map}
use Rattle.std.specs.List.Sorted.{IsStrictlyIncreasing}
use Rattle.byteorder.specs.Endian.{little_bytes}
use Rattle.node_words.specs.declared.shapes.names.Name.{Name}
use Rattle.node_words.specs.shapes.Shape.{bits_of}
use Rattle.node_words.specs.shapes.Tree.{Tree}
use Rattle.node_words.specs.descent.Roots.{IsOctantOf, HasBlock, ForBlock}
use Rattle.dag_file.specs.Trees.{entry_name, named_index}

-- ---- bytes

abbrev pub word_bytes : ℕ → List ℕ
word_bytes n = little_bytes 4 n

abbrev pub leaf_bytes : ℕ → List ℕ
leaf_bytes bits = little_bytes 8 bits

abbrev pub numbers_bytes : List ℕ → List ℕ
numbers_bytes ns = flat_map word_bytes ns

-- the mark, the 1, the side, the number of versions, and the numbers of entries
unfoldable pub header_bytes : ℕ → ℕ → List ℕ → List ℕ
header_bytes side versions counts =
    codes "VDAG" ++ numbers_bytes (1 ∷ (side ∷ (versions ∷ counts)))

-- the whole file: behind its header the leaves, the words of each node, by rising level, and the
-- number and root word of each version
unfoldable pub file_bytes : ℕ → List ℕ → List ℕ → List (List ℕ) → List (List ℕ) → List ℕ
file_bytes side counts leaves nodes pairs =
    header_bytes side (length pairs) counts
    ++ (flat_map leaf_bytes leaves
    ++ (flat_map numbers_bytes nodes ++ flat_map numbers_bytes pairs))

-- ---- keys

-- what was found is added: all of it, and nothing else
pub record AddsKeys (Found : ℕ → Type 0) (old new : List ℕ) : Type 0 where
  pub keeps : (x : ℕ) → Contains old x → Contains new x
  pub adds : (x : ℕ) → Found x → Contains new x
  pub only : (x : ℕ) → Contains new x → Contains old x ⊎ Found x

-- the key of a name, where there is one
abbrev pub keys_of : Option Name → List ℕ
keys_of None = []
keys_of (Some n) = named_index n ∷ []

-- a name's slot is a byte, and its index has 24 bits
abbrev pub HasByteSlot : Option Name → Type 0
HasByteSlot None = Unit {0}
HasByteSlot (Some n) = (n.slot < 256) × (named_index n < 2 ^ 24)

-- the keys are those of nodes of a level that may be read
pub record AreReached (held : List Tree) (level : ℕ) (keys : List ℕ) : Type 0 where
  pub below : (j : ℕ) → j < length keys → slice_index keys j < 2 ^ 24
  pub blocks : (j : ℕ) → j < length keys
      → HasBlock held level (Some (entry_name level (slice_index keys j)))

-- x is the key of what stands in one of the first n octants of a node
pub record IsChildKey (held : List Tree) (level : ℕ) (node : Name) (n x : ℕ) : Type 0 where
  pub k : ℕ
  pub octant : k < n
  pub name : Name
  pub child : IsOctantOf held level (Some node) k (Some name)
  pub slot : HasByteSlot (Some name)
  pub is : x ≡ named_index name

-- it is that of one of the first n nodes of a list
pub record IsChildOf (held : List Tree) (level : ℕ) (keys : List ℕ) (n x : ℕ) : Type 0 where
  pub j : ℕ
  pub before : j < n
  pub child : IsChildKey held level (entry_name level (slice_index keys j)) 8 x

-- the keys of all octants of some nodes, each once, by rising size
pub record AreChildren (held : List Tree) (level : ℕ) (keys children : List ℕ) : Type 0 where
  pub rises : IsStrictlyIncreasing children
  pub all : (x : ℕ) → IsChildOf held level keys (length keys) x → Contains children x
  pub only : (x : ℕ) → Contains children x → IsChildOf held level keys (length keys) x

-- the bits of the leaves of the first n keys, in their order
pub record AreLeaves (held : List Tree) (keys : List ℕ) (n : ℕ) (leaves : List ℕ) : Type 0 where
  pub many : length leaves ≡ n
  pub bits : (j : ℕ) → j < n
      → ForBlock held 0 (Some (entry_name 0 (slice_index keys j)))
      (λ s. slice_index leaves j ≡ bits_of s)

-- the word of what stands in an octant: 0 for none, else 1 + the index that its key has
abbrev pub IsWordOfName : List ℕ → List ℕ → Option Name → ℕ → Type 0
IsWordOfName keys indices name word = MatchOption name (word ≡ 0)
    (λ n. (j : ℕ) → j < length keys → slice_index keys j ≡ named_index n
    → word ≡ slice_index indices j + 1)

-- the word is that of what stands in an octant of a node
pub record IsOctantWord (held : List Tree) (level : ℕ) (node : Name) (keys indices : List ℕ)
    (k word : ℕ) : Type 0 where
  pub child : Option Name
  pub octant : IsOctantOf held level (Some node) k child
  pub slot : HasByteSlot child
  pub word_is : IsWordOfName keys indices child word

-- the first n words of a node
abbrev pub AreOctantWords : List Tree → ℕ → Name → List ℕ → List ℕ → ℕ → List ℕ → Type 0
AreOctantWords held level node keys indices n words =
    (k : ℕ) → k < n → IsOctantWord held level node keys indices k (slice_index words k)

-- the words of the nodes of the first n keys, in their order
pub record AreNodeWords (held : List Tree) (level : ℕ) (keys below indices : List ℕ) (n : ℕ)
    (nodes : List (List ℕ)) : Type 0 where
  pub many : length nodes ≡ n
  pub words : (j : ℕ) → j < n
      → AreOctantWords held level (entry_name level (slice_index keys j)) below indices 8
      (slice_index_or nodes j [])
  pub eight : (j : ℕ) → j < n → length (slice_index_or nodes j []) ≡ 8

-- where each of the first n leaves stands among the sorted ones
pub record AreIndices (leaves sorted : List ℕ) (n : ℕ) (indices : List ℕ) : Type 0 where
  pub many : length indices ≡ n
  pub below : (j : ℕ) → j < n → slice_index indices j < length sorted
  pub there : (j : ℕ) → j < n
      → slice_index sorted (slice_index indices j) ≡ slice_index leaves j

-- x is the key of one of the first n roots
pub record IsRootKey (roots : List (ℕ × Option Name)) (n x : ℕ) : Type 0 where
  pub v : ℕ
  pub before : v < n
  pub number : ℕ
  pub name : Name
  pub there : slice_get roots v ≡ Some (number, Some name)
  pub slot : HasByteSlot (Some name)
  pub is : x ≡ named_index name

-- the keys of the roots, each once, by rising size
pub record AreRootKeys (roots : List (ℕ × Option Name)) (keys : List ℕ) : Type 0 where
  pub rises : IsStrictlyIncreasing keys
  pub all : (x : ℕ) → IsRootKey roots (length roots) x → Contains keys x
  pub only : (x : ℕ) → Contains keys x → IsRootKey roots (length roots) x

-- where each of the first n nodes stands among the sorted ones
pub record AreNodeIndices (nodes sorted : List (List ℕ)) (n : ℕ) (indices : List ℕ) : Type 0 where
  pub many : length indices ≡ n
  pub below : (j : ℕ) → j < n → slice_index indices j < length sorted
  pub there : (j : ℕ) → j < n
      → slice_index_or sorted (slice_index indices j) [] ≡ slice_index_or nodes j []
