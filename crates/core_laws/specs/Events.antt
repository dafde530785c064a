-- What may happen to entries and roots. Each event says what it needs, what it changes and what
-- stays, look-up by look-up. Keys of free entries may change with every event.
use Rattle.std.specs.Prelude.{◌≡◌, ◌≢◌, ℕ, ◌+◌, ◌<◌, ◌≤◌, Option, Some, None, List, sum_by, slice_set}
use Rattle.std.specs.List.{slice_get}
use Rattle.node_words.specs.declared.shapes.names.Name.{Name}
use Rattle.node_words.specs.declared.keys.Key.{Key}
use Rattle.node_words.specs.Keys.{bucket_of_key}
use Rattle.node_words.specs.Plans.{Layout}
use Rattle.core_laws.specs.places.Names.{IsName}
use Rattle.core_laws.specs.places.WordIds.{buckets_at, versions}
use Rattle.core_laws.specs.States.{State, IsLive}
use Rattle.core_laws.specs.Counting.{weight, children_weight}
use Rattle.core_laws.specs.Soundness.{FitsLevel}

-- the holder gives some names that it holds and takes some others, both told by what they weigh
pub record Trades (old : List (List Name)) (holder : ℕ) (gives takes : (Name → ℕ) → ℕ)
    (new : List (List Name)) : Type 0 where
  pub before : List Name
  pub after : List Name
  pub had : slice_get old holder ≡ Some before
  pub has : new ≡ slice_set old holder after
  pub holds : (f : Name → ℕ) → gives f ≤ sum_by f before
  pub weighs : (f : Name → ℕ) → sum_by f after + gives f ≡ sum_by f before + takes f

abbrev pub no_weight : (Name → ℕ) → ℕ
no_weight f = 0

abbrev pub one_name : Name → (Name → ℕ) → ℕ
one_name n f = f n

abbrev pub at_most_one : Option Name → (Name → ℕ) → ℕ
at_most_one n f = weight f n

abbrev pub children_named : Key → (Name → ℕ) → ℕ
children_named key f = children_weight f key

-- all entries stay
pub record EntriesStay (p : Layout) (old new : State) : Type 0 where
  pub book : (m : Name) → IsName p m → new.book m ≡ old.book m
  pub key : (m : Name) → IsLive p old m → new.key m ≡ old.key m

-- all entries but that of n stay
pub record OthersStay (p : Layout) (n : Name) (old new : State) : Type 0 where
  pub book : (m : Name) → IsName p m → m ≢ n → new.book m ≡ old.book m
  pub key : (m : Name) → IsLive p old m → m ≢ n → new.key m ≡ old.key m

-- an entry that is live before and after keeps its key
pub record KeysStay (p : Layout) (old new : State) : Type 0 where
  pub key : (n : Name) → IsLive p old n → IsLive p new n → new.key n ≡ old.key n

-- all roots stay
abbrev pub RootsStay : State → State → Type 0
RootsStay old new = (v : ℕ) → new.root v ≡ old.root v

-- no live entry of the level has the key
abbrev pub IsMissing : Layout → State → ℕ → Key → Type 0
IsMissing p state level key = (m : Name) → IsLive p state m → m.level ≡ level → state.key m ≢ key

-- nothing that counts changes
pub record Rests (p : Layout) (old new : State) : Type 0 where
  pub entries : EntriesStay p old new
  pub roots : RootsStay old new
  pub held : new.held ≡ old.held

-- a live entry gets one more share, which the holder takes
pub record Raises (p : Layout) (holder : ℕ) (n : Name) (old new : State) : Type 0 where
  pub live : IsLive p old n
  pub book : new.book n ≡ old.book n + 1
  pub key : new.key n ≡ old.key n
  pub others : OthersStay p n old new
  pub roots : RootsStay old new
  pub held : Trades old.held holder no_weight (one_name n) new.held

-- a free entry gets a key that no live one of its level has; the holder gives the children and
-- takes the share
pub record Adds (p : Layout) (holder : ℕ) (n : Name) (key : Key) (old new : State) : Type 0 where
  pub name : IsName p n
  pub free : old.book n ≡ 0
  pub fits : FitsLevel n.level key
  pub bucket : n.bucket ≡ bucket_of_key key (buckets_at p n.level)
  pub missing : IsMissing p old n.level key
  pub book : new.book n ≡ 1
  pub new_key : new.key n ≡ key
  pub others : OthersStay p n old new
  pub roots : RootsStay old new
  pub held : Trades old.held holder (children_named key) (one_name n) new.held

-- the holder gives a share back, which isn't the last one
pub record Lowers (p : Layout) (holder : ℕ) (n : Name) (old new : State) : Type 0 where
  pub name : IsName p n
  pub left : 0 < new.book n
  pub book : new.book n + 1 ≡ old.book n
  pub key : new.key n ≡ old.key n
  pub others : OthersStay p n old new
  pub roots : RootsStay old new
  pub held : Trades old.held holder (one_name n) no_weight new.held

-- the holder gives the last share back: the entry is freed, and the holder takes the children
pub record Frees (p : Layout) (holder : ℕ) (n : Name) (old new : State) : Type 0 where
  pub name : IsName p n
  pub last : old.book n ≡ 1
  pub book : new.book n ≡ 0
  pub others : OthersStay p n old new
  pub roots : RootsStay old new
  pub held : Trades old.held holder (one_name n) (children_named (old.key n)) new.held

-- a root comes to a place that keeps none; the holder gives its share
pub record PutsRoot (p : Layout) (holder place : ℕ) (root : Option Name)
    (old new : State) : Type 0 where
  pub in_range : place < versions
  pub free : old.root place ≡ None
  pub new_root : new.root place ≡ root
  pub roots : (v : ℕ) → v ≢ place → new.root v ≡ old.root v
  pub entries : EntriesStay p old new
  pub held : Trades old.held holder (at_most_one root) no_weight new.held

-- a root leaves its place; the holder takes its share
pub record TakesRoot (p : Layout) (holder place : ℕ) (old new : State) : Type 0 where
  pub in_range : place < versions
  pub no_root : new.root place ≡ None
  pub roots : (v : ℕ) → v ≢ place → new.root v ≡ old.root v
  pub entries : EntriesStay p old new
  pub held : Trades old.held holder no_weight (at_most_one (old.root place)) new.held

-- what one holder does to entries and roots
pub data StoreStep (p : Layout) (holder : ℕ) (old new : State) : Type 0 where
  rests : Rests p old new → StoreStep p holder old new
  raises : (n : Name) → Raises p holder n old new → StoreStep p holder old new
  adds : (n : Name) (key : Key) → Adds p holder n key old new → StoreStep p holder old new
  lowers : (n : Name) → Lowers p holder n old new → StoreStep p holder old new
  frees : (n : Name) → Frees p holder n old new → StoreStep p holder old new
  puts_root : (place : ℕ) (root : Option Name) → PutsRoot p holder place root old new
      → StoreStep p holder old new
  takes_root : (place : ℕ) → TakesRoot p holder place old new → StoreStep p holder old new
