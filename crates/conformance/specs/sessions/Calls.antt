-- What the calls of a session tell of what it has seen and done.
use Rattle.std.specs.Prelude.{◌≡◌, ℕ, ◌<◌, ◌≤◌, List, ◌∷◌, ◌++◌, length, All}
use Rattle.std.specs.List.{Contains}
use Rattle.history_model.specs.Contents.{Content}
use Rattle.history_model.specs.declared.acts.Act.{Act}
use Rattle.history_model.specs.declared.histories.Mark.{Mark}
use Rattle.node_words.specs.shapes.Shape.{Shape}
use Rattle.node_words.specs.Held.{Wanted, IsSought}
use Rattle.node_words.specs.Plans.{Layout}
use Rattle.core_laws.specs.contents.Versions.{IsUnmarked}
use Rattle.conformance.specs.Answers.{IsRecordOf, ExtendsLog, mark_of}
use Rattle.conformance.specs.Shown.{Accepted}
use Rattle.conformance.specs.scripts.Keeping.{IsWanted, MakesPart}
use Rattle.retain.specs.Retained.{falls_out}
use Rattle.conformance.specs.sessions.SessionViews.{SessionView}
use Rattle.conformance.specs.sessions.Fallen.{PushesOut}

-- of the marks that the session of this number has seen, its own are those that it lists, and each
-- was made at a length that it has seen
pub record KnowsOwn (session : ℕ) (s : SessionView) : Type 0 where
  pub own : All (λ m. m.session ≡ session → Contains s.marks m) s.log.marks
  pub listed : All (Contains s.log.marks) s.marks
  pub dated : All (λ m. (m.version < m.at) × (m.at ≤ length s.log.records)) s.log.marks

-- it has seen the history go on, and found no fewer versions
pub record FollowsHistory (old new : SessionView) : Type 0 where
  pub goes_on : ExtendsLog old.log new.log
  pub found : All (Contains new.found) old.found

-- and nothing of its own was accepted
pub record AcceptsNothing (old new : SessionView) : Type 0 where
  pub sees : FollowsHistory old new
  pub records : new.records ≡ old.records
  pub marks : new.marks ≡ old.marks

-- and nothing was made or met for it either
pub record OnlySees (old new : SessionView) : Type 0 where
  pub nothing : AcceptsNothing old new
  pub noted : new.noted ≡ old.noted

abbrev pub numbered_change : ℕ → ℕ → ℕ → Act → Accepted
numbered_change n session line act = record
    { at = n; entry = record { session = session; line = line; act = act } }

-- its change became the newest record, and the version that falls out of the last `keep` then has
-- a mark
pub record AppendsOwn (keep session line : ℕ) (act : Act) (old new : SessionView) : Type 0 where
  pub sees : FollowsHistory old new
  pub longer : length old.log.records < length new.log.records
  pub last : IsRecordOf new.log.records (length new.log.records) session line act
  pub records : new.records ≡ numbered_change (length new.log.records) session line act
      ∷ old.records
  pub marks : PushesOut (falls_out (length new.log.records) keep)
      (numbered_change (length new.log.records) session line act) old.marks new

-- it forgot a version, at the length that it has seen
pub record ForgetsOwn (session line version : ℕ) (old new : SessionView) : Type 0 where
  pub sees : FollowsHistory old new
  pub records : new.records ≡ old.records
  pub marks : new.marks ≡ mark_of version (length new.log.records) session line ∷ old.marks
  pub listed : Contains new.log.marks (mark_of version (length new.log.records) session line)
  pub noted : new.noted ≡ old.noted

-- each shape that was made or wanted of a full bucket is one that the act wants of a version
-- between the lengths that were seen before and after; so for an undo or a redo there is none
pub record NotesFor (p : Layout) (models : List Content) (act : Act)
    (old new : SessionView) : Type 0 where
  pub more : List Shape
  pub made : new.noted.made ≡ more ++ old.noted.made
  pub parts : All (MakesPart p models new.log.records act (length old.log.records)
      (length new.log.records)) more
  pub further : List Wanted
  pub met : new.noted.met ≡ further ++ old.noted.met
  pub wanted : All (λ w. MakesPart p models new.log.records act (length old.log.records)
      (length new.log.records) w.shape) further

-- and one that was wanted of this full bucket is one that the act wants of the newest version
pub record MeetsFullBucket (p : Layout) (models : List Content) (act : Act) (level bucket : ℕ)
    (old new : SessionView) : Type 0 where
  pub notes : NotesFor p models act old new
  pub shape : Shape
  pub listed : Contains notes.further
      (record { level = level; bucket = bucket; shape = shape })
  pub sought : IsSought p (record { level = level; bucket = bucket; shape = shape })
  pub wanted : IsWanted p models new.log.records act (length new.log.records) shape

-- the version is there, and was found without a mark at the length that was seen
pub record FindsVersion (s : SessionView) (version : ℕ) : Type 0 where
  pub there : version ≤ length s.log.records
  pub unmarked : IsUnmarked s.log.marks version
  pub listed : Contains s.found (record { version = version; at = length s.log.records })

-- a mark of the version was seen
pub record SeesForgotten (s : SessionView) (version : ℕ) : Type 0 where
  pub mark : Mark
  pub listed : Contains s.log.marks mark
  pub same : mark.version ≡ version
