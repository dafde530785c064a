-- A history that is replayed record by record over a store, and whose versions are forgotten at
-- their marks.
use Rattle.std.specs.Prelude.{ℕ, ◌<◌, ◌≤◌, ◌-◌, Option, List, All}
use Rattle.std.specs.List.{AllPairs, Contains}
use Rattle.vox_read.specs.Contents.{Content}
use Rattle.history_model.specs.declared.histories.Mark.{Mark}
use Rattle.history_model.specs.Logs.{Log}
use Rattle.history_model.specs.Stores.{store_has}
use Rattle.node_words.specs.declared.shapes.names.Name.{Name}
use Rattle.node_words.specs.shapes.Tree.{Tree}
use Rattle.edit_walk.specs.cells.Worlds.{ShowsWorld}
use Rattle.node_words.specs.descent.Roots.{HoldsRoot}
use Rattle.core_laws.specs.contents.Versions.{HoldsVersion}
use Rattle.store_run.specs.Replaying.{ReplayState}
use Rattle.store_run.specs.Worlds.{WorldState}

-- what was replayed, without the marks
abbrev pub replayed : WorldState → ReplayState
replayed w = record {
  plan = w.plan;
  tint = w.log.coloured;
  models = w.models;
  records = w.log.records;
  noted = w.noted;
}

-- marks of rising versions, each of an earlier version than its moment, which is at most this one
pub record AreLegalMarks (count : ℕ) (marks : List Mark) : Type 0 where
  pub rising : AllPairs (λ a b. a.version < b.version) marks
  pub marked : All (λ mark. (mark.version < mark.at) × (mark.at ≤ count)) marks

-- ---- the roots of all versions that are kept, in the end

-- a version's number, and its root
abbrev pub Rooted : Type 0
Rooted = ℕ × Option Name

-- the versions of some roots are just those of the history that are kept, by rising number
pub record AreOfHeld (log : Log) (roots : List Rooted) : Type 0 where
  pub rising : AllPairs (λ a b. a.0 < b.0) roots
  pub listed : (x : Rooted) → Contains roots x → HoldsVersion log x.0
  pub all : (v : ℕ) → HoldsVersion log v → (root : Option Name) × Contains roots (v, root)

-- the root is held, and shows the cells that the store keeps of its version
pub record ShowsVersion (side : ℕ) (models : List Content) (log : Log) (held : List Tree)
    (x : Rooted) : Type 0 where
  pub holds : HoldsRoot held side x.1
  pub shows : ShowsWorld held (side - 2) x.1 (store_has models log x.0)

-- so it is with each of them
pub record HoldsVersions (side : ℕ) (models : List Content) (log : Log) (held : List Tree)
    (roots : List Rooted) : Type 0 where
  pub versions : AreOfHeld log roots
  pub each : (x : Rooted) → Contains roots x → ShowsVersion side models log held x
