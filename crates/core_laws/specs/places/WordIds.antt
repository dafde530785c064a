-- Where each word of a store and of its log stands in one table.
use Rattle.std.specs.Prelude.{ℕ, zero, suc, ◌+◌, ◌-◌, ◌*◌, ◌/◌, ◌<◌}
use Rattle.node_words.specs.Sums.{sum_below}
use Rattle.node_words.specs.Plans.{Layout}
pub use Rattle.node_words.specs.Plans.{buckets_at}

-- the words: the number of sessions made, the log's turn and its length; the words of each version;
-- the turn of each bucket, and how many of its slots were ever used; and of each entry the words of
-- its key and its book
pub data WordId : Type 0 where
  Sessions : WordId
  LogTurn : WordId
  LogLength : WordId
  Version : (version word : ℕ) → WordId
  Turn : (level bucket : ℕ) → WordId
  Used : (level bucket : ℕ) → WordId
  Key : (level bucket slot word : ℕ) → WordId
  Book : (level bucket slot : ℕ) → WordId
  deriving Discrete as WordId-discrete

-- how many versions a log has, the first of no record included, and the words of each
abbrev pub versions : ℕ
versions = 65536

abbrev pub version_words : ℕ
version_words = 8

-- a leaf's key has one word and a node's has four
abbrev pub key_words : ℕ → ℕ
key_words zero = 1
key_words (suc level) = 4

-- the number of levels of the world
abbrev pub levels : Layout → ℕ
levels p = p.side - 1

-- so many words, up to a whole line of memory, which has eight
unfoldable pub whole_lines : ℕ → ℕ
whole_lines n = (n + 7) / 8 * 8

-- a bucket begins with its turn, the number of its used slots and the books of all slots
abbrev pub head_words : Layout → ℕ
head_words p = whole_lines (p.cap + 2)

-- the words of a bucket, in which the keys stand behind the head, and of all buckets of a level
abbrev pub bucket_words : Layout → ℕ → ℕ
bucket_words p level = whole_lines (p.cap + 2) + whole_lines (key_words level * p.cap)

abbrev pub level_words : Layout → ℕ → ℕ
level_words p level = bucket_words p level * buckets_at p level

-- The buckets stand behind the words of versions and three words that stay 0. Where the table's
-- block of memory begins two words behind a line, each bucket begins with a line.
abbrev pub first_bucket : ℕ
first_bucket = 6 + version_words * versions

-- the place of a word of a bucket, by its number in the bucket
abbrev pub word_place : Layout → ℕ → ℕ → ℕ → ℕ
word_place p level bucket i =
    first_bucket + (sum_below level (level_words p) + (bucket * bucket_words p level + i))

-- behind the head the keys stand one by one, the words of each side by side
abbrev pub place : Layout → WordId → ℕ
place p Sessions = 0
place p LogTurn = 1
place p LogLength = 2
place p (Version version word) = 3 + (version * version_words + word)
place p (Turn level bucket) = word_place p level bucket 0
place p (Used level bucket) = word_place p level bucket 1
place p (Book level bucket slot) = word_place p level bucket (2 + slot)
place p (Key level bucket slot word) =
    word_place p level bucket (head_words p + (slot * key_words level + word))

-- how many words there are
abbrev pub width : Layout → ℕ
width p = first_bucket + sum_below (levels p) (level_words p)

-- a slot of a bucket of a level
pub record IsSlot (p : Layout) (level bucket slot : ℕ) : Type 0 where
  pub level_in : level < levels p
  pub bucket_in : bucket < buckets_at p level
  pub slot_in : slot < p.cap

-- a word that the table has
abbrev pub IsWordId : Layout → WordId → Type 0
IsWordId p Sessions = Unit {0}
IsWordId p LogTurn = Unit {0}
IsWordId p LogLength = Unit {0}
IsWordId p (Version version word) = (version < versions) × (word < version_words)
IsWordId p (Turn level bucket) = (level < levels p) × (bucket < buckets_at p level)
IsWordId p (Used level bucket) = (level < levels p) × (bucket < buckets_at p level)
IsWordId p (Key level bucket slot word) = IsSlot p level bucket slot × (word < key_words level)
IsWordId p (Book level bucket slot) = IsSlot p level bucket slot
