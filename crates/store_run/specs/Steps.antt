-- What the calls of versions over a store do.
use Rattle.std.specs.Prelude.{◌≡◌, ℕ, ◌-◌, ◌^◌, ◌<◌, ◌≤◌, Option, Some}
use Rattle.std.specs.List.{Contains}
use Rattle.vw_cell.specs.declared.boxes.Boxed.{Boxed}
use Rattle.vw_cell.specs.Extents.{IsExtent}
use Rattle.history_model.specs.declared.acts.Act.{Act}
use Rattle.history_model.specs.declared.histories.Mark.{Mark}
use Rattle.history_model.specs.declared.histories.Record.{Record}
use Rattle.history_model.specs.declared.questions.Question.{Question}
use Rattle.history_model.specs.Logs.{side_of_world}
use Rattle.history_model.specs.Stores.{edited_in}
use Rattle.history_model.specs.Worlds.{World}
use Rattle.node_words.specs.declared.shapes.names.Name.{Name}
use Rattle.node_words.specs.shapes.Shape.{Shape, ShowsCells}
use Rattle.node_words.specs.shapes.Tree.{shape_of}
use Rattle.node_words.specs.declared.shares.Full.{Full}
use Rattle.act_rebuilds.specs.Acts.{IsOfAct}
use Rattle.act_rebuilds.specs.Made.{GrowsBy as MadeBy, FailsBy}
use Rattle.core_laws.specs.contents.Aligned.{top, world_block}
use Rattle.core_laws.specs.contents.Versions.{HoldsVersion}
use Rattle.measure.specs.Changes.{differs}
use Rattle.edit_walk.specs.cells.Worlds.{Rebuilt}
use Rattle.one_store.specs.notes.Changes.{MakesNothing}
use Rattle.one_store.specs.Known.{known_state, root_tree, stored_root}
use Rattle.one_store.specs.Steps.{SparesRoots}
use Rattle.conformance.specs.Running.{GrowsByRecord, ForgetsBy}
use Rattle.conformance.specs.QuestionAnswers.{AnswersTo}
use Rattle.transcript.specs.declared.answers.Answer.{Answer}
use Rattle.store_run.specs.declared.stored_versions.Versions.{Versions}
use Rattle.store_run.specs.declared.stored_versions.VersionFound.{VersionFound}
use Rattle.store_run.specs.declared.stored_versions.VersionFound.TheVariants.{Kept, NotThere, Marked}
use Rattle.store_run.specs.Kept.{plan_of, log_of, moment_of, stored_of, world_of, tints_of, GainsTree, LosesTree}

-- a mark of the version is listed, so it can't be read
pub record IsVersionMarked (v : Versions) (version : ℕ) : Type 0 where
  pub mark : Mark
  pub listed : Contains (log_of v).marks mark
  pub same : mark.version ≡ version

abbrev pub IsVersionFound : Versions → ℕ → VersionFound → Type 0
IsVersionFound v version Kept = HoldsVersion (log_of v) version
IsVersionFound v version NotThere = moment_of v < version
IsVersionFound v version Marked = (version ≤ moment_of v) × IsVersionMarked v version

-- the side of the world that the store keeps
abbrev pub side_of : Versions → ℕ
side_of v = side_of_world v.models.tint (2 ^ v.side)

-- the answer tells what the question asks of a version
abbrev pub AnswersHeldVersion : Versions → ℕ → Question → Answer → Type 0
AnswersHeldVersion v version question answer =
    AnswersTo (side_of v) (world_of v version) (tints_of v version) question answer

-- models, records and marks stay, and so do the roots in their places
pub record StayVersions (old new : Versions) : Type 0 where
  pub models : new.models.models ≡ old.models.models
  pub log : log_of new ≡ log_of old
  pub spares : SparesRoots old.store new.store

-- the versions stand over another store, and all else stays
pub record IsOverStore (old new : Versions) : Type 0 where
  pub side : new.side ≡ old.side
  pub models : new.models ≡ old.models
  pub records : new.records ≡ old.records
  pub marks : new.marks ≡ old.marks
  pub trail : new.trail ≡ old.trail
  pub spares : SparesRoots old.store new.store

-- nothing changed that contracts see of the store
pub record StaysSeen (old new : Versions) : Type 0 where
  pub stay : StayVersions old new
  pub seen : known_state new.store ≡ known_state old.store

-- nothing was made or met
pub record LeavesAll (old new : Versions) : Type 0 where
  pub stay : StayVersions old new
  pub only : MakesNothing old.store.told new.store.told

-- a share of the root went back, where there is one
pub record PutsDown (old : Versions) (root : Option Name) (new : Versions) : Type 0 where
  pub leaves : LeavesAll old new
  pub loses : LosesTree old.store root new.store

-- a share of the version's root came
pub record SharesRootOfVersion (old : Versions) (version : ℕ) (root : Option Name)
    (new : Versions) : Type 0 where
  pub stay : StayVersions old new
  pub only : MakesNothing old.store.told new.store.told
  pub is : root ≡ stored_root new.store.roots version
  pub gains : GainsTree old.store root new.store

-- what an edit makes of the store's cells of the newest version, and the shapes that it wants for
-- that
abbrev pub edited_world : Versions → Act → World
edited_world v act = edited_in (2 ^ v.side) v.models.models act (stored_of v (moment_of v))

abbrev pub WantsFor : Versions → Act → Shape → Type 0
WantsFor v act = IsOfAct v.side v.models.models act (stored_of v (moment_of v))

-- a share came, beside what was held, of the root of what the edit makes of the newest version
pub record MakesBeside (old : Versions) (act : Act) (root : Option Name)
    (new : Versions) : Type 0 where
  pub rebuilt : Rebuilt (old.side - 2) (edited_world old act) root (known_state old.store)
      (known_state new.store)
  pub grows : MadeBy (WantsFor old act) (known_state old.store) (known_state new.store)

-- the root is that of what the edit makes, and shapes that it wants may have been made
pub record MakesRoot (old : Versions) (act : Act) (root : Option Name)
    (new : Versions) : Type 0 where
  pub stay : StayVersions old new
  pub level : (n : Name) → root ≡ Some n → n.level ≡ top (plan_of old).side
  pub shows : ShowsCells (world_block (plan_of old).side) (shape_of (root_tree new.store root))
      (edited_world old act)
  pub grows : MadeBy (WantsFor old act) (known_state old.store) (known_state new.store)

-- a shape that the edit wants met this full bucket
pub record MeetsBucket (old : Versions) (act : Act) (full : Full) (new : Versions) : Type 0 where
  pub stay : StayVersions old new
  pub fails : FailsBy (WantsFor old act) full.level full.bucket (known_state old.store)
      (known_state new.store)

-- models and plan stay, and nothing was made or met
pub record OnlyLogs (old new : Versions) : Type 0 where
  pub models : new.models.models ≡ old.models.models
  pub plan : plan_of new ≡ plan_of old
  pub only : MakesNothing old.store.told new.store.told

-- the record came behind the others
pub record GainsRecord (old : Versions) (r : Record) (new : Versions) : Type 0 where
  pub only : OnlyLogs old new
  pub grows : GrowsByRecord (plan_of old) old.models.models r (log_of old) (log_of new)

-- the mark came to its place
pub record GainsMark (old : Versions) (mark : Mark) (new : Versions) : Type 0 where
  pub only : OnlyLogs old new
  pub forgets : ForgetsBy (plan_of old) old.models.models mark (log_of old) (log_of new)

-- the box is the least one of all cells in which two versions differ; none where none does
abbrev pub DifferIn : Versions → ℕ → ℕ → Option Boxed → Type 0
DifferIn v a b found = IsExtent (2 ^ v.side) (differs (world_of v a) (world_of v b)) found
