-- The tags of books: bits of an entry's key, by which most searches tell other entries apart.
use Rattle.std.specs.Prelude.{◌≡◌, ℕ, zero, suc, ◌+◌, ◌*◌, ◌/◌, ◌%◌, ◌^◌, ◌<◌, ◌⊎◌, Some, List}
use Rattle.node_words.specs.declared.shapes.names.Name.{Name}
use Rattle.core_laws.specs.places.WordIds.{WordId, key_words}
use Rattle.table_rule.specs.Reading.{book_of}
use Rattle.table_rule.specs.Views.{key_word_id, known_at}

-- the words of a leaf's or a node's key mixed into one
unfoldable pub mixed_words : ℕ → (ℕ → ℕ) → ℕ
mixed_words zero words = words 0 * 0x9E3779B97F4A7C15 % 2 ^ 64
mixed_words (suc level) words =
    (((words 0 * 0x9E3779B97F4A7C15 % 2 ^ 64 + words 1 * 0xC2B2AE3D27D4EB4F % 2 ^ 64) % 2 ^ 64
    + words 2 * 0x165667B19E3779F9 % 2 ^ 64) % 2 ^ 64
    + words 3 * 0xD6E8FEB86659FD93 % 2 ^ 64) % 2 ^ 64

-- the tag of the key that has these words: the high 24 bits
abbrev pub key_tag : ℕ → (ℕ → ℕ) → ℕ
key_tag level words = mixed_words level words / 2 ^ 40

-- a book's word, where the key has these words: 0 where the entry is free, and else how many shares
-- there are, and from bit 40 on the key's tag
abbrev pub IsBookWord : ℕ → (ℕ → ℕ) → ℕ → Type 0
IsBookWord level words book =
    (book ≡ 0) ⊎ ((0 < book % 2 ^ 40) × (book / 2 ^ 40 ≡ key_tag level words))

-- such is the word of each book
abbrev pub AreTagged : (WordId → ℕ) → Type 0
AreTagged stored =
    (n : Name) → IsBookWord n.level (λ i. stored (key_word_id n i)) (stored (book_of n))

-- the entry's key is known, and has this tag
pub record ShowsTag (words : List (WordId × ℕ)) (n : Name) (tag : ℕ) : Type 0 where
  pub found : ℕ → ℕ
  pub known : (i : ℕ) → i < key_words n.level
      → known_at (key_word_id n i) words ≡ Some (found i)
  pub is : tag ≡ key_tag n.level found

-- a book's word, by what is known of the entry's key
abbrev pub ShowsBook : List (WordId × ℕ) → Name → ℕ → Type 0
ShowsBook words n book =
    (book ≡ 0) ⊎ ((0 < book % 2 ^ 40) × ShowsTag words n (book / 2 ^ 40))
