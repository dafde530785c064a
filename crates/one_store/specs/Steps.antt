-- The steps of a store for one thread.
use Rattle.std.specs.Prelude.{◌≡◌, ◌≢◌, ℕ, ◌+◌, ◌-◌, ◌<◌, Option, Some, None, List}
use Rattle.std.proofs.Common.{zero, suc, refl, sym, ap, ◌∙◌}
use Rattle.node_words.specs.declared.shapes.names.Name.{Name}
use Rattle.node_words.specs.shapes.Shape.{Shape, Leaf, branch_of}
use Rattle.node_words.specs.shapes.Tree.{Tree, LeafAt, node_at, shape_of}
use Rattle.node_words.specs.declared.keys.Key.{Key}
use Rattle.node_words.specs.Held.{HoldsName, Wanted}
use Rattle.node_words.specs.Gathering.{Loses, LosesAll}
use Rattle.node_words.specs.Keys.{bucket_of_key}
use Rattle.node_words.specs.Plans.{Layout}
use Rattle.core_laws.specs.places.Names.{HasNames, named, key_bits}
use Rattle.core_laws.specs.places.WordIds.{levels, buckets_at}
use Rattle.core_laws.specs.Soundness.{FitsLevel}
use Rattle.core_laws.specs.Returning.{FreesParts}
use Rattle.one_store.specs.entries.Slots.{IsBucket}
use Rattle.one_store.specs.entries.Coding.{key_of}
use Rattle.one_store.specs.entries.Words.{Written, book_in, key_in, IsLowestFree, AreLiveBelow}
use Rattle.one_store.specs.entries.Changes.{SetsBook, PutsEntry}
use Rattle.one_store.specs.notes.Changes.{MakesNothing, NotesGain, NotesLoss, NotesFreeing, NotesEntry, NotesFull}
use Rattle.one_store.specs.declared.sought.SoughtKey.{SoughtKey}
use Rattle.one_store.specs.Known.{Known, tree_in, trees_below, stored_root, root_tree}

-- the same keys with other books
abbrev pub with_books : Written → List (List ℕ) → Written
with_books w books = record w { books = books }

-- only books and notes changed
pub record Moves (old new : Known) : Type 0 where
  pub words : new.words ≡ with_books old.words new.words.books
  pub roots : new.roots ≡ old.roots

-- one more share of a name
pub record RaisesShare (old : Known) (n : Name) (new : Known) : Type 0 where
  pub words : SetsBook old.words n (book_in old.words n + 1) new.words
  pub roots : new.roots ≡ old.roots
  pub told : NotesGain old.told (tree_in old n) new.told

-- one share less, where another reference is left
pub record LowersShare (old : Known) (n : Name) (new : Known) : Type 0 where
  pub words : SetsBook old.words n (book_in old.words n - 1) new.words
  pub roots : new.roots ≡ old.roots
  pub told : NotesLoss old.told (tree_in old n) new.told

-- the last share of a node goes: its slot is free, and the children's shares come
pub record FreesNode (old : Known) (n : Name) (new : Known) : Type 0 where
  pub words : SetsBook old.words n 0 new.words
  pub roots : new.roots ≡ old.roots
  pub told : NotesFreeing old.told (tree_in old n)
      (trees_below (key_in old.words) (n.level - 1) (key_in old.words n)) new.told

-- a share was given back, where there was a node, and what only it kept was freed
pub record Releases (old : Known) (t : Tree) (new : Known) (steps now : ℕ) : Type 0 where
  pub moves : Moves old new
  pub only : MakesNothing old.told new.told
  pub loses : Loses old.told.held t new.told.held
  pub frees : FreesParts old.words.plan (key_in old.words) (shape_of t) 1 (book_in old.words)
      (book_in new.words) steps now

-- the shares of the first k trees of a row were given back
pub record ReleasesRow (old : Known) (row : ℕ → Tree) (k : ℕ) (new : Known)
    (steps now : ℕ) : Type 0 where
  pub moves : Moves old new
  pub only : MakesNothing old.told new.told
  pub loses : LosesAll old.told.held row k new.told.held
  pub frees : FreesParts old.words.plan (key_in old.words) (branch_of (λ j. shape_of (row j))) k
      (book_in old.words) (book_in new.words) steps now

-- a share of the child is held, which is of the level below this
pub record HoldsChild (held : List Tree) (level : ℕ) (child : Option Name) : Type 0 where
  pub name : (n : Name) → child ≡ Some n → HoldsName held n
  pub below : (n : Name) → child ≡ Some n → n.level + 1 ≡ level

-- the key that is sought
abbrev pub sought_key : SoughtKey → Key
sought_key s = key_of s.level s.words

-- a key that fits its level, of children of the plan, with its bucket
pub record IsSoughtKey (p : Layout) (s : SoughtKey) : Type 0 where
  pub level_in : s.level < levels p
  pub fits : FitsLevel s.level (sought_key s)
  pub names : HasNames p (sought_key s)
  pub bucket_is : s.bucket ≡ bucket_of_key (sought_key s) (buckets_at p s.level)
  pub bucket_in : IsBucket p s.level s.bucket

-- the tree and the shape of a new entry of this level and key
abbrev pub tree_over : ℕ → (Name → Key) → Name → Key → Tree
tree_over zero key n k = LeafAt n (key_bits k)
tree_over (suc level) key n k = node_at n (trees_below key level k)

abbrev pub shape_over : ℕ → (Name → Key) → Key → Shape
shape_over zero key k = Leaf (key_bits k)
shape_over (suc level) key k = branch_of (λ j. shape_of (trees_below key level k j))

-- a new entry for the key in the lowest free slot of its bucket, over the shares of its children
pub record AddsNode (old : Known) (s : SoughtKey) (n : Name) (new : Known) : Type 0 where
  pub name_is : n ≡ named s.level s.bucket n.slot
  pub lowest : IsLowestFree old.words s.level s.bucket n.slot
  pub words : PutsEntry old.words n (sought_key s) new.words
  pub roots : new.roots ≡ old.roots
  pub told : NotesEntry old.told (trees_below (key_in old.words) (s.level - 1) (sought_key s))
      (tree_over s.level (key_in old.words) n (sought_key s))
      (shape_over s.level (key_in old.words) (sought_key s)) new.told

-- what is noted where a sought key meets a full bucket
abbrev pub met_by : Written → SoughtKey → Wanted
met_by words s = record
    { level = s.level; bucket = s.bucket; shape = shape_over s.level (key_in words) (sought_key s) }

-- each slot of the key's bucket is live, and this was noted
pub record MeetsFull (old : Known) (s : SoughtKey) (new : Known) : Type 0 where
  pub words : new.words ≡ old.words
  pub roots : new.roots ≡ old.roots
  pub full : AreLiveBelow old.words s.level s.bucket old.words.plan.cap
  pub told : NotesFull old.told (met_by old.words s) new.told

-- the root came to its place, and its share went, where there is one
pub record KeepsRoot (old : Known) (place : ℕ) (root : Option Name) (new : Known) : Type 0 where
  pub words : new.words ≡ old.words
  pub here : stored_root new.roots place ≡ root
  pub elsewhere : (other : ℕ) → other ≢ place
      → stored_root new.roots other ≡ stored_root old.roots other
  pub only : MakesNothing old.told new.told
  pub loses : Loses old.told.held (root_tree old root) new.told.held

-- the place is empty, and a share of the root that it had came, where there was one
pub record GivesRoot (old : Known) (place : ℕ) (new : Known) : Type 0 where
  pub words : new.words ≡ old.words
  pub here : stored_root new.roots place ≡ None
  pub elsewhere : (other : ℕ) → other ≢ place
      → stored_root new.roots other ≡ stored_root old.roots other
  pub only : MakesNothing old.told new.told
  pub gains : Loses new.told.held (root_tree old (stored_root old.roots place)) old.told.held

-- the roots stay in their places, each with its tree, and so does the plan
pub record SparesRoots (old new : Known) : Type 0 where
  pub plan : new.words.plan ≡ old.words.plan
  pub roots : new.roots ≡ old.roots
  pub trees : (place : ℕ) → root_tree new (stored_root old.roots place)
      ≡ root_tree old (stored_root old.roots place)

-- one more share came of the root in the place, where there is one, which stays there
pub record GainsRoot (old : Known) (place : ℕ) (new : Known) : Type 0 where
  pub spares : SparesRoots old new
  pub only : MakesNothing old.told new.told
  pub gains : Loses new.told.held (root_tree old (stored_root old.roots place)) old.told.held

-- all roots stay with their trees
pub spares_itself : (v : Known) → SparesRoots v v
spares_itself v = record { plan = refl; roots = refl; trees = λ place. refl }

pub spares_on : (a b c : Known) → SparesRoots a b → SparesRoots b c → SparesRoots a c
spares_on a b c f g = record {
  plan = g.plan ∙ f.plan;
  roots = g.roots ∙ f.roots;
  trees = λ place.
      ap (λ (r : List (Option Name)). root_tree c (stored_root r place)) (sym f.roots)
      ∙ g.trees place
      ∙ ap (λ (r : List (Option Name)). root_tree b (stored_root r place)) f.roots
      ∙ f.trees place;
}
