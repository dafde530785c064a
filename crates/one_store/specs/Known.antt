-- What a store for one thread is: words for its entries, roots in places, and what it noted. It is
-- sound where the state of a core that these are read as is.
use Rattle.std.specs.Prelude.{◌≡◌, ℕ, Option, Some, None, List, [], ◌∷◌, All, length, slice_index_or, false}
use Rattle.std.specs.List.{Contains}
use Rattle.node_words.specs.declared.shapes.names.Name.{Name}
use Rattle.node_words.specs.shapes.Tree.{Tree, root_of}
use Rattle.node_words.specs.shapes.Weights.{number_of_trees}
use Rattle.node_words.specs.declared.keys.Key.{Key}
use Rattle.node_words.specs.Held.{StoreState}
use Rattle.node_words.specs.Plans.{Layout, IsPlan}
use Rattle.core_laws.specs.places.Names.{key_child}
use Rattle.core_laws.specs.places.WordIds.{versions}
use Rattle.one_store.specs.entries.Words.{Written, book_in, key_in}
use Rattle.one_store.specs.notes.StoreNotes.{StoreNotes}
use Rattle.core_laws.specs.contents.Aligned.{top}
use Rattle.core_laws.specs.States.{State, IsLive, tree_at, shape_in}
use Rattle.node_words.specs.Enough.{HasEnough}
use Rattle.core_laws.specs.Soundness.{SoundEntries}
use Rattle.core_laws.specs.LiveTrees.{AreLiveTrees}

-- the words of the entries, the roots by place, and what was noted
pub record Known : Type 0 where
  pub words : Written
  pub roots : List (Option Name)
  pub told : StoreNotes

abbrev pub known_state : Known → StoreState
known_state v =
    record { plan = v.words.plan; held = v.told.held; made = v.told.made; met = v.told.met }

-- the names at which held trees begin
abbrev pub with_name : Option Name → List Name → List Name
with_name None names = names
with_name (Some n) names = n ∷ names

abbrev pub root_names : List Tree → List Name
root_names [] = []
root_names (t ∷ ts) = with_name (root_of t) (root_names ts)

-- the root in a place
abbrev pub stored_root : List (Option Name) → ℕ → Option Name
stored_root roots place = slice_index_or roots place None

-- the state of a core that the store is read as: its log is empty, and one holder holds all shares
abbrev pub core_of : Known → State
core_of v = record {
  book = book_in v.words;
  key = key_in v.words;
  root = stored_root v.roots;
  log = record { side = v.words.plan.side; coloured = false; records = []; marks = [] };
  held = root_names v.told.held ∷ [];
}

-- the tree of a name, and the trees of a key's children, which are of this level
abbrev pub tree_in : Known → Name → Tree
tree_in v n = tree_at (key_in v.words) n.level (Some n)

abbrev pub trees_below : (Name → Key) → ℕ → Key → ℕ → Tree
trees_below key level k octant = tree_at key level (key_child k octant)

-- the tree of a root, which is of the top level
abbrev pub root_tree : Known → Option Name → Tree
root_tree v root = tree_at (key_in v.words) (top v.words.plan.side) root

-- the entries are sound, what is held stands in them and is counted; each live entry was made, and
-- each full bucket that was met had enough different shapes made; and there are places for roots,
-- which are of the top level
pub record IsStoreOf (p : Layout) (v : Known) (number : ℕ) : Type 0 where
  pub plan : IsPlan p
  pub sound : SoundEntries p (core_of v)
  pub stand : AreLiveTrees p (core_of v) v.told.held
  pub number_is : number ≡ number_of_trees v.told.held
  pub listed : (n : Name) → IsLive p (core_of v) n → Contains v.told.made (shape_in (core_of v) n)
  pub enough : All (λ w. HasEnough p v.told.made w.level w.bucket) v.told.met
  pub places : length v.roots ≡ versions
  pub tops : (place : ℕ) (n : Name) → stored_root v.roots place ≡ Some n → n.level ≡ top p.side

-- so many shares are held of a store
abbrev pub IsStore : Known → ℕ → Type 0
IsStore v number = IsStoreOf v.words.plan v number
