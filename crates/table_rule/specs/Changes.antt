-- What each kind of step makes of a view.
use Rattle.std.specs.Prelude.{◌≡◌, ◌≢◌, ℕ, ◌+◌, ◌%◌, ◌^◌, ◌<◌, ◌≤◌, ◌⊎◌, Option, Some, List, [], ◌∷◌}
use Rattle.node_words.specs.declared.shapes.names.Name.{Name}
use Rattle.node_words.specs.shapes.Shape.{Shape, IsPart}
use Rattle.node_words.specs.shapes.Tree.{Tree, LeafAt, node_at, root_of, child_of, shape_of}
use Rattle.node_words.specs.shapes.Weights.{weigh, weight_below, number_of_trees}
use Rattle.node_words.specs.declared.keys.Key as keys
use Rattle.node_words.specs.declared.keys.Key.TheVariants.{Leaf, Node}
use Rattle.node_words.specs.Held.{Wanted, HoldsChildren, IsHeld}
use Rattle.node_words.specs.Keys.{bucket_of_key}
use Rattle.node_words.specs.Plans.{Layout}
use Rattle.core_laws.specs.places.KeyWords.{key_word}
use Rattle.core_laws.specs.places.Names.{named}
use Rattle.core_laws.specs.places.WordIds.{WordId, Book, key_words, buckets_at}
use Rattle.core_laws.specs.Soundness.{FitsLevel}
use Rattle.table_rule.specs.Reading.{book_of}
use Rattle.table_rule.specs.Views.{SeatView, BucketAt, bucket_of, key_word_id, known_at}
use Rattle.table_rule.specs.Tags.{ShowsBook}
use Rattle.table_rule.specs.TurnRules.{used_of}
use Rattle.table_rule.specs.ViewFacts.{tree_word}

-- a turn comes or goes: the view has a bucket's turn, or none, and knows no word
abbrev pub under_turn : SeatView → Option BucketAt → SeatView
under_turn v b = record v { turn = b; words = [] }

-- a word is loaded, or stored in a free entry: it is known
abbrev pub knowing : SeatView → WordId → ℕ → SeatView
knowing v x n = record v { words = (x, n) ∷ v.words }

-- the slots of the bucket from this one on are known to be free
pub record AreFreeFrom (words : List (WordId × ℕ)) (b : BucketAt) (first cap : ℕ) : Type 0 where
  pub each : (slot : ℕ) → first ≤ slot → slot < cap
      → known_at (Book b.level b.bucket slot) words ≡ Some 0

-- a load shows how many slots of the bucket were ever used, and that the others are free
pub record Counted (v : SeatView) (b : BucketAt) (cap number : ℕ) (w : SeatView) : Type 0 where
  pub words : List (WordId × ℕ)
  pub is : w ≡ record v { words = words }
  pub stays : (x : WordId) (n : ℕ) → known_at x v.words ≡ Some n → known_at x words ≡ Some n
  pub known : known_at (used_of b) words ≡ Some number
  pub free : AreFreeFrom words b number cap

-- the slot of n is known to be one of those that were ever used
pub record IsUsed (words : List (WordId × ℕ)) (n : Name) : Type 0 where
  pub number : ℕ
  pub known : known_at (used_of (bucket_of n)) words ≡ Some number
  pub inside : n.slot < number

-- a book's load shows how many shares there are, and, where it isn't free, the words of the key
-- whose tag it has
pub record BookFound (v : SeatView) (n : Name) (book : ℕ) (w : SeatView) : Type 0 where
  pub words : List (WordId × ℕ)
  pub is : w ≡ record v { words = words }
  pub stays : (x : WordId) (k : ℕ) → known_at x v.words ≡ Some k → known_at x words ≡ Some k
  pub known : known_at (book_of n) words ≡ Some (book % 2 ^ 40)
  pub shows : ShowsBook words n book
  pub small : book % 2 ^ 40 < 2 ^ 39

-- a load shows a full bucket
abbrev pub meeting : SeatView → Wanted → SeatView
meeting v m = record v { met = m ∷ v.met }

-- the book of n is written, and other trees are held
abbrev pub holding : SeatView → Name → ℕ → List Tree → SeatView
holding v n book held = record v { words = (book_of n, book) ∷ v.words; held = held }

-- an entry is added
abbrev pub making : SeatView → Name → List Tree → Shape → SeatView
making v n held s = record v {
  words = (book_of n, 1) ∷ v.words;
  held = held;
  made = s ∷ v.made;
}

-- a word of the entry n is known that the key doesn't have
pub record HasOther (words : List (WordId × ℕ)) (key : keys.Key) (n : Name) : Type 0 where
  pub word : ℕ
  pub inside : word < key_words n.level
  pub found : ℕ
  pub known : known_at (key_word_id n word) words ≡ Some found
  pub other : found ≢ key_word key word

-- the entry n is known to be free, or to have another key
abbrev pub PassesEntry : List (WordId × ℕ) → keys.Key → Name → Type 0
PassesEntry words key n = (known_at (book_of n) words ≡ Some 0) ⊎ HasOther words key n

-- the first slots of the bucket are known to be free or to have other keys
pub record PassesBelow (words : List (WordId × ℕ)) (key : keys.Key) (b : BucketAt)
    (slots : ℕ) : Type 0 where
  pub each : (slot : ℕ) → slot < slots → PassesEntry words key (named b.level b.bucket slot)

-- the entry n is known to have this key
pub record HasKeyWords (words : List (WordId × ℕ)) (key : keys.Key) (n : Name) : Type 0 where
  pub each : (i : ℕ) → i < key_words n.level
      → known_at (key_word_id n i) words ≡ Some (key_word key i)

-- each slot of the bucket is known to have a book that isn't 0
pub record IsFullIn (words : List (WordId × ℕ)) (b : BucketAt) (cap : ℕ) : Type 0 where
  pub each : (slot : ℕ) → slot < cap
      → (book : ℕ) × (known_at (Book b.level b.bucket slot) words ≡ Some book) × (0 < book)

-- the children that a key names
abbrev pub children_of_key : keys.Key → List (Option Name)
children_of_key (Leaf bits) = []
children_of_key (Node children) = children

-- the tree of a new entry over these children
abbrev pub tree_for : Name → keys.Key → (ℕ → Tree) → Tree
tree_for n (Leaf bits) row = LeafAt n bits
tree_for n (Node children) row = node_at n row

-- what a key wants, where its children have these trees
abbrev pub wanted : Name → keys.Key → (ℕ → Tree) → Wanted
wanted n key row =
    record { level = n.level; bucket = n.bucket; shape = shape_of (tree_for n key row) }

-- the children of a key went into a new entry, of which the view holds a share
pub record Published (v : SeatView) (n : Name) (key : keys.Key) (row : ℕ → Tree)
    (w : SeatView) : Type 0 where
  pub held : List Tree
  pub weighs : (f : Tree → ℕ)
      → weigh f held + weight_below f row 8 ≡ f (tree_for n key row) + weigh f v.held
  pub is : w ≡ making v n held (shape_of (tree_for n key row))

-- a share of a live entry came; its tree has the words that are known
pub record Raised (v : SeatView) (n : Name) (book : ℕ) (w : SeatView) : Type 0 where
  pub tree : Tree
  pub root : root_of tree ≡ Some n
  pub words : (i k : ℕ) → i < key_words n.level → known_at (key_word_id n i) v.words ≡ Some k
      → k ≡ tree_word tree i
  pub is : w ≡ holding v n book (tree ∷ v.held)

-- a share went
pub record Lowered (v : SeatView) (t : Tree) (n : Name) (book : ℕ) (w : SeatView) : Type 0 where
  pub held : List Tree
  pub weighs : (f : Tree → ℕ) → weigh f v.held ≡ f t + weigh f held
  pub is : w ≡ holding v n book held

-- a share went, and those of the children came; the shape that went is part of none that is held
-- then
pub record Freed (v : SeatView) (t : Tree) (n : Name) (w : SeatView) : Type 0 where
  pub held : List Tree
  pub weighs : (f : Tree → ℕ)
      → weigh f held + f t ≡ weight_below f (λ k. child_of t k) 8 + weigh f v.held
  pub unheld : (u : Tree) → IsHeld held u → ¬ IsPart (shape_of t) (shape_of u)
  pub is : w ≡ holding v n 0 held

-- what a view must know and hold to add an entry
pub record IsReady (p : Layout) (v : SeatView) (n : Name) (key : keys.Key) : Type 0 where
  pub free : known_at (book_of n) v.words ≡ Some 0
  pub used : IsUsed v.words n
  pub has_key : HasKeyWords v.words key n
  pub fits : FitsLevel n.level key
  pub bucket : n.bucket ≡ bucket_of_key key (buckets_at p n.level)
  pub missing : PassesBelow v.words key (bucket_of n) p.cap
  pub held : HoldsChildren v.held (children_of_key key)
  pub room : number_of_trees v.held ≤ 4095
