-- How the words of slots change.
use Rattle.std.specs.Prelude.{◌≡◌, ◌≢◌, ℕ}
use Rattle.node_words.specs.declared.shapes.names.Name.{Name}
use Rattle.node_words.specs.declared.keys.Key.{Key}
use Rattle.node_words.specs.Plans.{Layout}
use Rattle.core_laws.specs.places.Names.{IsName}
use Rattle.one_store.specs.entries.Words.{Written, book_in, key_in}

-- the books of all names but n are as they were
pub record OtherBooksStay (p : Layout) (n : Name) (old new : Name → ℕ) : Type 0 where
  pub each : (m : Name) → IsName p m → m ≢ n → new m ≡ old m

-- the keys of all names but n are as they were
pub record OtherKeysStay (p : Layout) (n : Name) (old new : Name → Key) : Type 0 where
  pub each : (m : Name) → IsName p m → m ≢ n → new m ≡ old m

-- the book of n is this one now, and nothing else changed
pub record SetsBook (old : Written) (n : Name) (book : ℕ) (new : Written) : Type 0 where
  pub keys : new ≡ record old { books = new.books }
  pub book_is : book_in new n ≡ book
  pub others : OtherBooksStay old.plan n (book_in old) (book_in new)

-- n has this key, and nothing else changed
pub record PutsKey (old : Written) (n : Name) (key : Key) (new : Written) : Type 0 where
  pub plan : new.plan ≡ old.plan
  pub books : new.books ≡ old.books
  pub key_is : key_in new n ≡ key
  pub others : OtherKeysStay old.plan n (key_in old) (key_in new)

-- n has this key and one reference, and nothing else changed
pub record PutsEntry (old : Written) (n : Name) (key : Key) (new : Written) : Type 0 where
  pub plan : new.plan ≡ old.plan
  pub key_is : key_in new n ≡ key
  pub book_is : book_in new n ≡ 1
  pub other_keys : OtherKeysStay old.plan n (key_in old) (key_in new)
  pub other_books : OtherBooksStay old.plan n (book_in old) (book_in new)
