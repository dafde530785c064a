-- The core's state as the words of one table and what each seat holds show it.
use Rattle.std.specs.Prelude.{◌≡◌, ◌≢◌, ℕ, zero, suc, ◌%◌, ◌^◌, Bool, true, false, nat_lt, Option, Some, None, List, map, slice_index}
use Rattle.node_words.specs.declared.shapes.names.Name.{Name}
use Rattle.node_words.specs.shapes.Tree.{Tree, root_of}
use Rattle.core_laws.specs.Plans.{Layout}
use Rattle.core_laws.proofs.OfPlaces.SpotTests.{word_id_dec}
use Rattle.core_laws.specs.places.Names.{named}
use Rattle.core_laws.specs.places.WordIds.{WordId, LogLength, Version, Key, Book, place}
use Rattle.core_laws.specs.places.KeyWords.{child_of_word, key_of_words}
use Rattle.core_laws.specs.Logs.{Log}
use Rattle.core_laws.specs.contents.Aligned.{top}
use Rattle.core_laws.specs.States.{State}

-- the name that a tree begins with, and names of the trees that a seat holds
abbrev pub name_or : Option Name → Name
name_or None = named 0 0 0
name_or (Some n) = n

abbrev pub names_of : List Tree → List Name
names_of held = map (λ t. name_or (root_of t)) held

-- the place of a name's book
abbrev pub book_of : Name → WordId
book_of n = Book n.level n.bucket n.slot

-- the root that a version's word stands for, whether or not the version is kept
abbrev pub root_word : Layout → (WordId → ℕ) → ℕ → Option Name
root_word p mem v = child_of_word (top p.side) (mem (Version v 5))

-- the root of a version: none past the log's length, and none with a mark
abbrev pub root_if_held : Bool → ℕ → Option Name → Option Name
root_if_held true mark root = None
root_if_held false zero root = root
root_if_held false (suc mark) root = None

-- the state, where the log's words are read in this way
abbrev pub read : Layout → ((WordId → ℕ) → Log) → (WordId → ℕ) → List (List Name) → State
read p log_in mem held = record {
  book = λ n. mem (book_of n);
  key = λ n. key_of_words n.level (λ i. mem (Key n.level n.bucket n.slot i));
  root = λ v. root_if_held (nat_lt (mem LogLength) v) (mem (Version v 6)) (root_word p mem v);
  log = log_in mem;
  held = held;
}

-- the word at x became n, and no other changed
pub record Wrote (old : WordId → ℕ) (x : WordId) (n : ℕ) (new : WordId → ℕ) : Type 0 where
  pub here : new x ≡ n
  pub others : (y : WordId) → y ≢ x → new y ≡ old y

-- a word where the table has one, and 0 where it has none
abbrev pub where_there : {A : Type 0} → Dec A → ℕ → ℕ
where_there (yes there) n = n
where_there (no absent) n = 0

-- the words of one row as they are stored, each at its place
unfoldable pub stored_at : Layout → List ℕ → WordId → ℕ
stored_at p words x = where_there (word_id_dec p x) (slice_index words (place p x))

-- what a stored word says: that of a book, how many shares there are, without its tag
abbrev pub said : WordId → ℕ → ℕ
said (Book level bucket slot) word = word % 2 ^ 40
said _ word = word

-- what stored words say
abbrev pub saying : (WordId → ℕ) → WordId → ℕ
saying stored x = said x (stored x)

-- what the words of one row say, each at its place
unfoldable pub word_at : Layout → List ℕ → WordId → ℕ
word_at p words x = said x (stored_at p words x)
