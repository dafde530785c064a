-- What a session has seen and done, and which whole histories that allows.
use Rattle.std.specs.Prelude.{◌≡◌, ℕ, ◌^◌, ◌≤◌, Bool, true, false, List, [], All, ⊤}
use Rattle.history_model.specs.Contents.{Content}
use Rattle.core_laws.specs.tints.Planes.{TintsPlaces}
use Rattle.history_model.specs.declared.histories.Mark.{Mark}
use Rattle.history_model.specs.Logs.{Log, FitsWorld, IsLegal, IsVersionHeld, SuitsTints}
use Rattle.node_words.specs.Plans.{Layout}
use Rattle.conformance.specs.Answers.{ExtendsLog}
use Rattle.conformance.specs.Passes.{Found, own_of}
use Rattle.conformance.specs.Shown.{Accepted, SameItems, numbered}
use Rattle.conformance.specs.scripts.Keeping.{MadeAndMet}

-- the longest history that a session saw, its own records with their numbers and its own marks, the
-- newest first, the versions that it found without a mark, and what was made and met for it
pub record SessionView : Type 0 where
  pub log : Log
  pub records : List Accepted
  pub marks : List Mark
  pub found : List Found
  pub noted : MadeAndMet

-- which session it is: the plan and the models of its world, whether its cells have tints, how many
-- last versions alone are held there, or 0 for all, and its number
pub record SessionOf : Type 0 where
  pub plan : Layout
  pub models : List Content
  pub tint : Bool
  pub keep : ℕ
  pub number : ℕ

abbrev pub session_keeping : ℕ → Bool → Layout → List Content → ℕ → SessionOf
session_keeping keep tint p models number = record
    { plan = p; models = models; tint = tint; keep = keep; number = number }

-- where all versions are held, and cells have no tints
abbrev pub of_session : Layout → List Content → ℕ → SessionOf
of_session p models number = session_keeping 0 false p models number

abbrev pub none_noted : MadeAndMet
none_noted = record { made = []; met = [] }

-- the session has done nothing yet
pub record DidNothing (s : SessionView) : Type 0 where
  pub records : s.records ≡ []
  pub marks : s.marks ≡ []

-- a store of this plan can keep tints, and each place of a model has one
pub record CanTint (p : Layout) (models : List Content) : Type 0 where
  pub large : 4 ≤ p.side
  pub colours : All TintsPlaces models

-- which is so of a world whose cells have tints
abbrev pub MayTint : Bool → Layout → List Content → Type 0
MayTint true p models = CanTint p models
MayTint false p models = ⊤

-- what tints of a world need of a history besides: a store of the world's side, which can keep
-- them, and each act lies in the world
pub record KeepsTints (p : Layout) (models : List Content) (log : Log) : Type 0 where
  pub side : 2 ^ log.side ≡ 2 ^ p.side
  pub can : CanTint p models
  pub fit : All (λ r. FitsWorld (2 ^ p.side) models r.act) log.records

-- which is so of a history of a world whose cells have tints
abbrev pub MayKeep : Bool → Layout → List Content → Log → Type 0
MayKeep true p models log = KeepsTints p models log
MayKeep false p models log = ⊤

-- the history suits a world: it is coloured where cells have tints, which it then keeps, and each
-- act of it suits it
pub record SuitsWorld (tint : Bool) (p : Layout) (models : List Content) (log : Log) : Type 0 where
  pub coloured : log.coloured ≡ tint
  pub acts : SuitsTints log
  pub keeps : MayKeep tint p models log

-- the history of the same records and marks that is as coloured as this
abbrev pub log_as : Bool → Log → Log
log_as coloured log = record
    { side = log.side; coloured = coloured; records = log.records; marks = log.marks }

-- the history that the session has seen: records and marks are what it sees, and its world says
-- whether they are of a coloured one
abbrev pub history_seen : SessionOf → SessionView → Log
history_seen of s = log_as of.tint s.log

-- this history suits its world. What the session tells of cells is so where this holds, since it
-- takes from others what they append
abbrev pub SeesSuited : SessionOf → SessionView → Type 0
SeesSuited of s = SuitsWorld of.tint of.plan of.models (history_seen of s)

-- no mark forgets the version below the length at which it was found without one
abbrev pub IsStill : Log → Found → Type 0
IsStill whole f = IsVersionHeld whole.marks f.at f.version

-- a legal history that suits the world and goes on from what the session of this number saw: its
-- records and marks of the session are just the session's own, and it forgets no version before
-- that was found
pub record AllowsWhole (of : SessionOf) (s : SessionView) (whole : Log) : Type 0 where
  pub legal : IsLegal (2 ^ of.plan.side) of.models whole
  pub may : MayTint of.tint of.plan of.models
  pub coloured : whole.coloured ≡ of.tint
  pub suits : SuitsTints whole
  pub goes_on : ExtendsLog (history_seen of s) whole
  pub records : SameItems (own_of (λ c. c.entry.session) of.number (numbered 1 whole.records))
      s.records
  pub marks : SameItems (own_of (λ m. m.session) of.number whole.marks) s.marks
  pub found : All (IsStill whole) s.found
