-- What a writer makes of a store's names, level by level: the different entries of each level by
-- rising order, and for each name the index of its entry.
use Rattle.std.specs.Prelude.{◌≡◌, ℕ, zero, suc, ◌+◌, ◌^◌, ◌<◌, ◌≤◌, List, [], length, Option, Some, slice_index, slice_index_or, slice_get}
use Rattle.std.specs.List.{Contains}
use Rattle.std.specs.List.Sorted.{IsStrictlyIncreasing, IsStrictlySortedBy}
use Rattle.std.specs.Cmp.Lexicographic.{slice_cmp}
use Rattle.std.specs.Ordering.{nat_cmp}
use Rattle.node_words.specs.declared.shapes.names.Name.{Name}
use Rattle.node_words.specs.shapes.Tree.{Tree}
use Rattle.dag_file.specs.Writes.{AreLeaves, AreNodeWords, AreIndices, AreNodeIndices, AreChildren, IsWordOfName, HasByteSlot}

-- where the nodes of the level above this one begin among the nodes of all levels
abbrev pub first_node : List ℕ → ℕ → ℕ
first_node counts zero = 0
first_node counts (suc level) = first_node counts level + slice_index counts (suc level)

-- the leaves are the different bits of those of the keys, by rising size, and the indices say where
-- each stands
pub record AreLeafEntries (held : List Tree) (keys indices counts leaves : List ℕ) : Type 0 where
  pub bits : List ℕ
  pub contents : AreLeaves held keys (length keys) bits
  pub placed : AreIndices bits leaves (length bits) indices
  pub rises : IsStrictlyIncreasing leaves
  pub only : (x : ℕ) → Contains leaves x → Contains bits x
  pub count : slice_index counts 0 ≡ length leaves
  pub few : length leaves ≤ 2 ^ 24

-- the same of the nodes of a level above, by their lists of words
pub record AreNodeEntries (held : List Tree) (level : ℕ)
    (keys below below_indices indices : List ℕ) (sorted : List (List ℕ)) : Type 0 where
  pub contents : List (List ℕ)
  pub words : AreNodeWords held level keys below below_indices (length keys) contents
  pub placed : AreNodeIndices contents sorted (length contents) indices
  pub rises : IsStrictlySortedBy (slice_cmp nat_cmp) sorted
  pub only : (x : List ℕ) → Contains sorted x → Contains contents x
  pub few : length sorted ≤ 2 ^ 24

-- the level above one over which the levels below stand: the keys below are those of all octants,
-- and its nodes stand behind those of the levels below
pub record IsLayer (held : List Tree) (counts : List ℕ) (nodes : List (List ℕ)) (level : ℕ)
    (keys indices : List ℕ) (Below : List ℕ → List ℕ → Type 0) : Type 0 where
  pub below : List ℕ
  pub below_indices : List ℕ
  pub stands : Below below below_indices
  pub children : AreChildren held (suc level) keys below
  pub sorted : List (List ℕ)
  pub entries : AreNodeEntries held (suc level) keys below below_indices indices sorted
  pub count : slice_index counts (suc level) ≡ length sorted
  pub here : (i : ℕ) → i < length sorted
      → slice_index_or nodes (first_node counts level + i) [] ≡ slice_index_or sorted i []

-- the entries of a level and of all below it are those of these keys
unfoldable pub AreEntriesUpTo : List Tree → List ℕ → List ℕ → List (List ℕ) → ℕ → List ℕ → List ℕ
    → Type 0
AreEntriesUpTo held counts leaves nodes zero keys indices =
    AreLeafEntries held keys indices counts leaves
AreEntriesUpTo held counts leaves nodes (suc level) keys indices =
    IsLayer held counts nodes level keys indices (AreEntriesUpTo held counts leaves nodes level)

-- they are all that there is
pub record AreLayers (held : List Tree) (level : ℕ) (keys indices counts leaves : List ℕ)
    (nodes : List (List ℕ)) : Type 0 where
  pub stands : AreEntriesUpTo held counts leaves nodes level keys indices
  pub levels : length counts ≡ suc level
  pub all : first_node counts level ≡ length nodes
  pub eight : (i : ℕ) → i < length nodes → length (slice_index_or nodes i []) ≡ 8
  pub small : (i k : ℕ) → i < length nodes → k < 8
      → slice_index (slice_index_or nodes i []) k ≤ 2 ^ 24

-- the pair of version v: its number, and the word of its root
pub record IsPairOf (keys indices : List ℕ) (x : ℕ × Option Name) (words : List ℕ) : Type 0 where
  pub two : length words ≡ 2
  pub number : slice_index words 0 ≡ x.0
  pub slot : HasByteSlot x.1
  pub word : IsWordOfName keys indices x.1 (slice_index words 1)

-- the pairs of the first n versions
pub record AreVersionPairs (roots : List (ℕ × Option Name)) (keys indices : List ℕ) (n : ℕ)
    (pairs : List (List ℕ)) : Type 0 where
  pub many : length pairs ≡ n
  pub each : (v : ℕ) (x : ℕ × Option Name) → v < n → slice_get roots v ≡ Some x
      → IsPairOf keys indices x (slice_index_or pairs v [])
