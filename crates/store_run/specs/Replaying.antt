-- A history that is replayed record by record over a store, and of which no version is forgotten.
use Rattle.std.specs.Prelude.{◌≡◌, ℕ, ◌+◌, ◌^◌, ◌≤◌, Bool, true, false, List, [], ◌∷◌, ◌++◌, length, replicate, Result, Ok, Err, All, ⊤}
use Rattle.vox_read.specs.Contents.{Content}
use Rattle.history_model.specs.declared.acts.Act.{Act}
use Rattle.history_model.specs.declared.histories.Mark.{Mark}
use Rattle.history_model.specs.declared.histories.Record.{Record}
use Rattle.history_model.specs.Logs.{FitsWorld, MayFollow, MayFollowFrom}
use Rattle.history_model.specs.Positions.{beginning, position_after}
use Rattle.node_words.specs.declared.shares.Full.{Full}
use Rattle.node_words.specs.Enough.{HasEnough}
use Rattle.node_words.specs.Gathering.{Grew}
use Rattle.node_words.specs.Plans.{Layout}
use Rattle.conformance.specs.possible.Needed.{Span, IsPossible}
use Rattle.conformance.specs.scripts.Keeping.{MadeAndMet, IsMadeInRun}
use Rattle.one_store.specs.notes.Changes.{MakesNothing}
use Rattle.store_run.specs.declared.stored_versions.Versions.{Versions}
use Rattle.store_run.specs.declared.replaying.ReplayRefused.{ReplayRefused}
use Rattle.store_run.specs.declared.replaying.ReplayRefused.TheVariants as refusals
use Rattle.store_run.specs.Kept.{plan_of, log_of, noted_of, AreStoredVersions, HoldsNothing}
use Rattle.store_run.specs.Steps.{WantsFor}

-- the plan, whether cells have tints, the models, the records so far, and what the store noted
pub record ReplayState : Type 0 where
  pub plan : Layout
  pub tint : Bool
  pub models : List Content
  pub records : List Record
  pub noted : MadeAndMet

abbrev pub replay_state : Versions → ReplayState
replay_state v = record {
  plan = plan_of v;
  tint = v.models.tint;
  models = v.models.models;
  records = v.records.items;
  noted = noted_of v;
}

-- versions of which none has a mark, and no share is held
pub record IsReplay (v : Versions) : Type 0 where
  pub are : AreStoredVersions v
  pub free : HoldsNothing v.store
  pub unmarked : (log_of v).marks ≡ []

-- each of some records, of which the first is number n + 1, on the version before it alone
abbrev pub spans_from : ℕ → List Record → List Span
spans_from n [] = []
spans_from n (r ∷ more) = record { act = r.act; first = n; last = n } ∷ spans_from (n + 1) more

-- the records need as many different contents of this level and bucket as it has slots, or more,
-- each record on the version before it alone
abbrev pub MayFillReplay : Layout → List Content → List Record → Full → Type 0
MayFillReplay p models records full =
    IsPossible p models records (spans_from 0 records) full.level full.bucket p.cap

-- the rules of a legal history that its records keep, with these marks
pub record AreLegalRecords (side : ℕ) (models : List Content) (marks : List Mark)
    (records : List Record) : Type 0 where
  pub few : length records ≤ 65535
  pub fit : All (λ r. FitsWorld side models r.act) records
  pub follow : MayFollowFrom marks 1 beginning records

-- so do the records up to one of them, which keep those rules: what a replay with these marks that
-- ends at a full bucket says of all that it was to replay
pub record MayFillAlong (p : Layout) (models : List Content) (marks : List Mark)
    (records : List Record) (full : Full) : Type 0 where
  pub first : List Record
  pub rest : List Record
  pub begins : records ≡ first ++ rest
  pub legal : AreLegalRecords (2 ^ p.side) models marks first
  pub fills : MayFillReplay p models first full

-- the plan of a store over which a whole history is replayed, in worlds of side 2 ^ side
abbrev pub replay_plan : ℕ → Layout
replay_plan side = record { side = side; buckets = replicate 11 4096; cap = 256 }

-- whatever the store made is a part of what a record's parts leave of the version before it
pub record MakesOnlyParts (s : ReplayState) : Type 0 where
  pub parts : All (IsMadeInRun s.plan s.models s.records (spans_from 0 s.records)) s.noted.made

-- the record came behind the others
pub record TakesRecord (old : Versions) (r : Record) (new : Versions) : Type 0 where
  pub plan : plan_of new ≡ plan_of old
  pub tint : new.models.tint ≡ old.models.tint
  pub models : new.models.models ≡ old.models.models
  pub records : new.records.items ≡ old.records.items ++ r ∷ []
  pub marks : (log_of new).marks ≡ (log_of old).marks

-- an edit came behind the others, and shapes that it wants may have been made
pub record TakesEdit (old : Versions) (r : Record) (new : Versions) : Type 0 where
  pub takes : TakesRecord old r new
  pub made : Grew (WantsFor old r.act) old.store.told.made new.store.told.made

-- an undo or a redo did, for which nothing is made
pub record TakesUndo (old : Versions) (r : Record) (new : Versions) : Type 0 where
  pub takes : TakesRecord old r new
  pub only : MakesNothing old.store.told new.store.told

-- a shape that the edit wants found its bucket full, of which enough was made, and no record came
pub record FillsBucket (old : Versions) (act : Act) (full : Full) (new : Versions) : Type 0 where
  pub plan : plan_of new ≡ plan_of old
  pub models : new.models.models ≡ old.models.models
  pub log : log_of new ≡ log_of old
  pub made : Grew (WantsFor old act) old.store.told.made new.store.told.made
  pub enough : HasEnough (plan_of old) new.store.told.made full.level full.bucket

-- the record can follow these, of which no version is forgotten
abbrev pub CanFollow : List Record → Record → Type 0
CanFollow records r = MayFollow [] (length records + 1) r.act (position_after records)

-- what comes of a record that is to be replayed
abbrev pub Replays : List Record → Record → Result Bool ReplayRefused → List Record → Type 0
Replays old r (Ok true) new = CanFollow old r × (new ≡ old ++ r ∷ [])
Replays old r (Ok false) new = (CanFollow old r → ⊥) × (new ≡ old)
Replays old r (Err refused) new = new ≡ old

-- what a refusal says: a bucket is full for a record that can follow, and want of memory says
-- nothing
abbrev pub RefusesRecord : ReplayState → Record → ReplayRefused → Type 0
RefusesRecord s r (refusals.Full full) =
    CanFollow s.records r × MayFillReplay s.plan s.models (s.records ++ r ∷ []) full
RefusesRecord s r refusals.Memory = ⊤
