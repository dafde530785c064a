-- Roots that are taken out of their places, one after the other, with a share of each.
use Rattle.std.specs.Prelude.{◌≡◌, ◌≢◌, ℕ, ◌+◌, ◌-◌, ◌<◌, ◌≤◌, Option, Some, None, List, [], ◌∷◌, length}
use Rattle.std.specs.List.{AllPairs, Contains}
use Rattle.std.specs.Option.{ForSome}
use Rattle.vox_read.specs.Contents.{Content}
use Rattle.history_model.specs.declared.histories.Mark.{Mark}
use Rattle.history_model.specs.Logs.{Log}
use Rattle.node_words.specs.declared.shapes.names.Name.{Name}
use Rattle.node_words.specs.shapes.Tree.{Tree}
use Rattle.node_words.specs.shapes.Weights.{weigh, weight_of}
use Rattle.node_words.specs.Held.{HoldsName}
use Rattle.core_laws.specs.contents.Aligned.{top}
use Rattle.core_laws.specs.contents.Versions.{HoldsVersion}
use Rattle.dag_file.specs.Lists.{IsFileOfList}
use Rattle.one_store.specs.notes.Changes.{MakesNothing}
use Rattle.one_store.specs.Known.{Known, root_tree, stored_root}
use Rattle.store_run.specs.Kept.{log_of, moment_of, AreStoredVersions, HoldsNothing}
use Rattle.store_run.specs.declared.stored_versions.Versions.{Versions}
use Rattle.store_run.specs.Marked.{Rooted, HoldsVersions}

-- how much the trees of some roots weigh
abbrev pub rooted_weight : (Tree → ℕ) → Known → List Rooted → ℕ
rooted_weight f store [] = 0
rooted_weight f store (x ∷ roots) =
    weight_of f (root_tree store x.1) + rooted_weight f store roots

-- of the versions below this number, those that are kept have their roots here, and a share of each
-- is all that is held; the places from it on are as they were
pub record AreTakenRoots (old : Versions) (n : ℕ) (new : Known) (roots : List Rooted) : Type 0 where
  pub words : new.words ≡ old.store.words
  pub only : MakesNothing old.store.told new.told
  pub places : (v : ℕ) → n ≤ v → stored_root new.roots v ≡ stored_root old.store.roots v
  pub weighs : (f : Tree → ℕ) → weigh f new.told.held ≡ rooted_weight f old.store roots
  pub few : length roots ≤ n
  pub rising : AllPairs (λ a b. a.0 < b.0) roots
  pub below : (x : Rooted) → Contains roots x → x.0 < n
  pub listed : (x : Rooted) → Contains roots x → HoldsVersion (log_of old) x.0
  pub roots_are : (x : Rooted) → Contains roots x → x.1 ≡ stored_root old.store.roots x.0
  pub all : (v : ℕ) → v < n → HoldsVersion (log_of old) v
      → Contains roots (v, stored_root old.store.roots v)
  pub gone : (x : Rooted) → Contains roots x → stored_root new.roots x.0 ≡ None
  pub others : (v : ℕ) → (HoldsVersion (log_of old) v → ⊥)
      → stored_root new.roots v ≡ stored_root old.store.roots v

-- versions over this store, of which nothing is held, with these marks, and so many of them
pub record AreToBeTaken (v : Versions) (store : Known) (marks : List (Option Mark)) (count : ℕ)
    : Type 0 where
  pub are : AreStoredVersions v
  pub nothing : HoldsNothing v.store
  pub store_is : v.store ≡ store
  pub marks_are : v.marks.items ≡ marks
  pub many : moment_of v + 1 ≡ count

-- of roots that were taken out, these are still out of their places, and a share of each is all
-- that is held; all other roots stand in their places, and each has its tree
pub record AreLeftOut (old new : Known) (roots : List Rooted) : Type 0 where
  pub plan : new.words.plan ≡ old.words.plan
  pub trees : (v : ℕ) → root_tree new (stored_root old.roots v)
      ≡ root_tree old (stored_root old.roots v)
  pub only : MakesNothing old.told new.told
  pub weighs : (f : Tree → ℕ) → weigh f new.told.held ≡ rooted_weight f old roots
  pub rising : AllPairs (λ a b. a.0 < b.0) roots
  pub small : (x : Rooted) → Contains roots x → x.0 < 65536
  pub tops : (x : Rooted) → Contains roots x → (n : Name) → x.1 ≡ Some n
      → n.level ≡ top old.words.plan.side
  pub roots_are : (x : Rooted) → Contains roots x → x.1 ≡ stored_root old.roots x.0
  pub gone : (x : Rooted) → Contains roots x → stored_root new.roots x.0 ≡ None
  pub others : (v : ℕ) → ((x : Rooted) → Contains roots x → x.0 ≢ v)
      → stored_root new.roots v ≡ stored_root old.roots v

-- so it is with some store from which they were taken
pub record AreLent (now : Known) (roots : List Rooted) : Type 0 where
  pub from : Known
  pub left : AreLeftOut from now roots

-- a share of the root is held, and the place of its version is empty
pub record CanComeBack (now : Known) (x : Rooted) : Type 0 where
  pub place : x.0 < 65536
  pub empty : stored_root now.roots x.0 ≡ None
  pub held : ForSome x.1 (λ n. HoldsName now.told.held n)
  pub at_top : ForSome x.1 (λ n. n.level ≡ top now.words.plan.side)

-- the file is that of a list of the versions that a history keeps, whose roots a store holds
pub record IsFileOfHeld (models : List Content) (log : Log) (file : List ℕ) : Type 0 where
  pub low : 2 ≤ log.side
  pub held : List Tree
  pub roots : List Rooted
  pub versions : HoldsVersions log.side models log held roots
  pub file_is : IsFileOfList held (log.side - 1) roots file
