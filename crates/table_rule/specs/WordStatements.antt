-- What the laws say of words that are written.
use Rattle.std.specs.Prelude.{◌≡◌, ℕ, suc, ◌+◌, ◌<◌, ◌≤◌, Some, List, slice_set, sum_by, map, length}
use Rattle.std.specs.List.{slice_get}
use Rattle.node_words.specs.shapes.Tree.{Tree}
use Rattle.node_words.specs.declared.shapes.names.Name.{Name}
use Rattle.core_laws.specs.Keys.{bucket_of_key}
use Rattle.core_laws.specs.Plans.{Layout}
use Rattle.core_laws.specs.places.Names.{IsName}
use Rattle.core_laws.specs.places.WordIds.{WordId, LogLength, Version, Key, IsWordId, buckets_at, versions, place, width}
use Rattle.core_laws.specs.Key as keys
use Rattle.core_laws.specs.Logs.{Log}
use Rattle.core_laws.specs.Soundness.{FitsLevel}
use Rattle.core_laws.specs.Events.{Trades, EntriesStay, IsMissing, Raises, Adds, Lowers, Frees, PutsRoot, TakesRoot, no_weight, one_name, at_most_one, children_named}
use Rattle.table_rule.specs.Views.{key_word_id}
use Rattle.table_rule.specs.Tags.{IsBookWord, AreTagged}
use Rattle.table_rule.specs.Rules.{IsOutside}
use Rattle.table_rule.specs.Reading.{names_of, read, Wrote, book_of, root_word, stored_at}

-- a book of a live entry that becomes one more is a raise
abbrev pub BooksRaise : Type 0
BooksRaise =
    (p : Layout) (log_in : (WordId → ℕ) → Log) (old new : WordId → ℕ)
    (held after : List (List Name))
    (holder : ℕ) (n : Name) → IsName p n
    → 0 < old (book_of n) → Wrote old (book_of n) (old (book_of n) + 1) new
    → Trades held holder no_weight (one_name n) after
    → Raises p holder n (read p log_in old held) (read p log_in new after)

-- a book of a free entry that becomes 1 adds the entry of the key that its words stand for
abbrev pub BooksAdd : Type 0
BooksAdd =
    (p : Layout) (log_in : (WordId → ℕ) → Log) (old new : WordId → ℕ)
    (held after : List (List Name))
    (holder : ℕ) (n : Name) (key : keys.Key) → IsName p n
    → old (book_of n) ≡ 0 → Wrote old (book_of n) 1 new
    → (read p log_in old held).key n ≡ key → FitsLevel n.level key
    → n.bucket ≡ bucket_of_key key (buckets_at p n.level)
    → IsMissing p (read p log_in old held) n.level key
    → Trades held holder (children_named key) (one_name n) after
    → Adds p holder n key (read p log_in old held) (read p log_in new after)

-- a book over 1 that becomes one less is a lower
abbrev pub BooksLower : Type 0
BooksLower =
    (p : Layout) (log_in : (WordId → ℕ) → Log) (old new : WordId → ℕ)
    (held after : List (List Name))
    (holder book : ℕ) (n : Name) → IsName p n
    → old (book_of n) ≡ book + 1 → 0 < book → Wrote old (book_of n) book new
    → Trades held holder (one_name n) no_weight after
    → Lowers p holder n (read p log_in old held) (read p log_in new after)

-- a book of 1 that becomes 0 frees the entry
abbrev pub BooksFree : Type 0
BooksFree =
    (p : Layout) (log_in : (WordId → ℕ) → Log) (old new : WordId → ℕ)
    (held after : List (List Name))
    (holder : ℕ) (n : Name) → IsName p n
    → old (book_of n) ≡ 1 → Wrote old (book_of n) 0 new
    → Trades held holder (one_name n) (children_named ((read p log_in old held).key n)) after
    → Frees p holder n (read p log_in old held) (read p log_in new after)

-- a key word of a free entry changes no entry that counts
abbrev pub FreeKeysChange : Type 0
FreeKeysChange =
    (p : Layout) (log_in : (WordId → ℕ) → Log) (old new : WordId → ℕ)
    (held after : List (List Name))
    (n : Name) (word k : ℕ)
    → old (book_of n) ≡ 0 → Wrote old (Key n.level n.bucket n.slot word) k new
    → EntriesStay p (read p log_in old held) (read p log_in new after)

-- a word of no entry that is stored leaves books tagged
abbrev pub OthersKeepTags : Type 0
OthersKeepTags = (p : Layout) (stored new : WordId → ℕ) (x : WordId) (n : ℕ) → IsOutside p x
    → Wrote stored x n new → AreTagged stored → AreTagged new

-- so does a word of a free entry's key
abbrev pub FreeKeysKeepTags : Type 0
FreeKeysKeepTags = (stored new : WordId → ℕ) (n : Name) (word k : ℕ)
    → Wrote stored (key_word_id n word) k new → stored (book_of n) ≡ 0
    → AreTagged stored → AreTagged new

-- and a book's word that is 0 or has the tag of the entry's key
abbrev pub BooksKeepTags : Type 0
BooksKeepTags = (stored new : WordId → ℕ) (n : Name) (k : ℕ) → Wrote stored (book_of n) k new
    → IsBookWord n.level (λ i. stored (key_word_id n i)) k → AreTagged stored → AreTagged new

-- a log that becomes one version longer, where that has no mark, puts the root of its word
abbrev pub LengthsPutRoots : Type 0
LengthsPutRoots =
    (p : Layout) (log_in : (WordId → ℕ) → Log) (old new : WordId → ℕ)
    (held after : List (List Name))
    (holder next : ℕ) → next ≡ old LogLength + 1
    → next < versions → old (Version next 6) ≡ 0 → Wrote old LogLength next new
    → Trades held holder (at_most_one (root_word p old next)) no_weight after
    → PutsRoot p holder next (root_word p old next) (read p log_in old held)
    (read p log_in new after)

-- a mark that is written takes the root of its version
abbrev pub MarksTakeRoots : Type 0
MarksTakeRoots =
    (p : Layout) (log_in : (WordId → ℕ) → Log) (old new : WordId → ℕ)
    (held after : List (List Name))
    (holder version at : ℕ) → version < versions
    → Wrote old (Version version 6) (suc at) new
    → Trades held holder no_weight (at_most_one ((read p log_in old held).root version)) after
    → TakesRoot p holder version (read p log_in old held) (read p log_in new after)

-- what a seat's trees weigh by their names is what the seat trades
abbrev pub SeatsTrade : Type 0
SeatsTrade =
    (seats : List (List Tree)) (seat : ℕ) (before after : List Tree) (gives takes : (Name → ℕ) → ℕ)
    → slice_get seats seat ≡ Some before
    → ((f : Name → ℕ) → gives f ≤ sum_by f (names_of before))
    → ((f : Name → ℕ) → sum_by f (names_of after) + gives f ≡ sum_by f (names_of before) + takes f)
    → Trades (map names_of seats) seat gives takes (map names_of (slice_set seats seat after))

-- one word of the row that is written is one word of the table
abbrev pub RowsAreWritten : Type 0
RowsAreWritten = (p : Layout) (words : List ℕ) (x : WordId) (n : ℕ) → length words ≡ width p
    → IsWordId p x
    → Wrote (stored_at p words) x n (stored_at p (slice_set words (place p x) n))
