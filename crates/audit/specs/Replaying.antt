-- A history whose marks are legal is legal where each of its records can follow those before it.
use Rattle.std.specs.Prelude.{◌≡◌, ℕ, ◌+◌, ◌^◌, ◌<◌, ◌≤◌, Bool, true, false, List, [], ◌∷◌, ◌++◌, length, Result, Ok, Err, slice_index_or, Option, Some, None, All, ⊤}
use Rattle.history_model.specs.Contents.{Content}
use Rattle.history_model.specs.declared.acts.Act.TheVariants.{Undo, Redo}
use Rattle.history_model.specs.declared.histories.Record.{Record}
use Rattle.history_model.specs.declared.histories.Mark.{Mark}
use Rattle.history_model.specs.Logs.{FitsWorld, MayFollow, MayFollowFrom, suits_tints}
use Rattle.history_model.specs.Positions.{position_after, beginning}
use Rattle.conformance.specs.Answers.{target_at}
use Rattle.store_run.specs.Replaying.{MakesOnlyParts, MayFillReplay, ReplayState}
use Rattle.audit.specs.declared.audits.AuditRefused.{AuditRefused}
use Rattle.audit.specs.declared.audits.AuditRefused.TheVariants as refusals
use Rattle.audit.specs.declared.replaying.UndoTargets.{UndoTargets}
use Rattle.audit.specs.Marks.{HeldBy}

-- the record comes behind these, and no mark forbids it
pub record IsFollowing (side : ℕ) (models : List Content) (marks : List Mark)
    (before : List Record) (r : Record) : Type 0 where
  pub fits : FitsWorld side models r.act
  pub follows : MayFollow marks (length before + 1) r.act (position_after before)

-- some records follow one another
pub record FollowEach (side : ℕ) (models : List Content) (marks : List Mark)
    (records : List Record) : Type 0 where
  pub fit : All (λ r. FitsWorld side models r.act) records
  pub follow : MayFollowFrom marks 1 beginning records

-- the record is one of the replay's world, which has room for it
pub record MayTakeNext (s : ReplayState) (r : Record) : Type 0 where
  pub early : length s.records < 65535
  pub suits : suits_tints s.tint r.act ≡ true
  pub fits : FitsWorld (2 ^ s.plan.side) s.models r.act
  pub made : MakesOnlyParts s

-- nothing is replayed, and these records are ones of the replay's world
pub record MayTakeAll (s : ReplayState) (rs : List Record) : Type 0 where
  pub empty : s.records ≡ []
  pub few : length rs ≤ 65535
  pub fit : All (λ r. FitsWorld (2 ^ s.plan.side) s.models r.act) rs
  pub made : MakesOnlyParts s

-- it is a replay in the same world
pub record StaysInWorld (s t : ReplayState) : Type 0 where
  pub plan : t.plan ≡ s.plan
  pub tint : t.tint ≡ s.tint
  pub models : t.models ≡ s.models

-- the versions that an undo goes back to after so many records, and a redo on to
abbrev pub undo_targets_at : List Record → ℕ → UndoTargets
undo_targets_at records n = record {
  undo = target_at records n Undo;
  redo = target_at records n Redo;
}

-- they are told for each number of records
pub record AreUndoTargets (records : List Record) (ways : List UndoTargets) : Type 0 where
  pub as_many : length ways ≡ length records + 1
  pub each : (n : ℕ) (d : UndoTargets) → n ≤ length records
      → slice_index_or ways n d ≡ undo_targets_at records n

-- what comes of a record, behind these
abbrev pub Steps : ℕ → List Content → List Mark → List Record → Record → Result Bool AuditRefused
    → List Record → Type 0
Steps side models marks before r (Ok true) new =
    IsFollowing side models marks before r × (new ≡ before ++ r ∷ [])
Steps side models marks before r (Ok false) new = IsFollowing side models marks before r → ⊥
Steps side models marks before r (Err (refusals.Full full)) new =
    IsFollowing side models marks before r
Steps side models marks before r (Err refusals.Memory) new = ⊤

-- no mark forbids record n to go to this version
abbrev pub FreeBy : Option ℕ → List (Option Mark) → ℕ → Type 0
FreeBy None table n = ⊤
FreeBy (Some to) table n = HeldBy (slice_index_or table to None) n

-- why a record behind those of a replay was not replayed: want of memory says nothing
abbrev pub RefusesNext : ReplayState → Record → AuditRefused → Type 0
RefusesNext s r (refusals.Full full) =
    MayFillReplay s.plan s.models (s.records ++ r ∷ []) full
RefusesNext s r refusals.Memory = ⊤
