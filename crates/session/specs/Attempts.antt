-- What the attempts at an edit leave of a session.
use Rattle.std.specs.Prelude.{◌≡◌, ℕ, ◌^◌, ◌<◌, ◌≤◌, true, Option, [], ◌∷◌, Result, Ok, Err}
use Rattle.history_model.specs.declared.acts.Act.{Act}
use Rattle.history_model.specs.declared.acts.Act.TheVariants.{Undo}
use Rattle.history_model.specs.Logs.{FitsWorld, suits_tints}
use Rattle.history_model.specs.Worlds.{is_edit}
use Rattle.act_rebuilds.specs.Acts.{IsLargeFor}
use Rattle.act_rebuilds.specs.Drawn.{WorldModels}
use Rattle.node_words.specs.declared.shapes.names.Name.{Name}
use Rattle.node_words.specs.declared.shares.Full.{Full}
use Rattle.node_words.specs.Held.{SameHeld}
use Rattle.node_words.specs.shapes.Weights.{number_of_trees}
use Rattle.table_rule.specs.LogFacts.{number_seen, seen_has}
use Rattle.node_table.specs.LogChanges.{HasOpenTarget}
use Rattle.table_rule.specs.Rules.{SameSession}
use Rattle.table_rule.specs.Views.{SeatView}
use Rattle.node_table.specs.TableStates.{TableState}
use Rattle.version_log.specs.declared.answers.Pinned.{Pinned}
use Rattle.version_log.specs.declared.answers.Committed.{Committed}
use Rattle.version_log.specs.declared.answers.SureRefused.{SureRefused}
use Rattle.retain.specs.declared.refusals.PinRefused.{PinRefused}
use Rattle.version_log.specs.Commits.{IsMadeOver}
use Rattle.version_log.specs.Falling.{CommitsNext}
use Rattle.version_log.specs.Finishing.{RefusesFinish}
use Rattle.version_log.specs.Pins.{IsPinned, PinsVersion, RefusesPin}
use Rattle.version_log.specs.Roots.{GetsRoot, HoldsRootOf}
use Rattle.version_log.specs.Targets.{IsMadeNow, KnowsNext}
use Rattle.version_log.specs.Seeing.{KnowsMore}
use Rattle.conformance.specs.declared.sessions.calls.ActAnswer.{ActAnswer}
use Rattle.conformance.specs.declared.sessions.calls.ActAnswer.TheVariants as acts
use Rattle.conformance.specs.declared.sessions.calls.OnceAnswer.{OnceAnswer}
use Rattle.conformance.specs.declared.sessions.calls.OnceAnswer.TheVariants as once
use Rattle.conformance.specs.sessions.Calls.{AcceptsNothing, MeetsFullBucket, NotesFor}
use Rattle.conformance.specs.sessions.CallSpecs.{ActSpec, HasFoundTarget, OnceSpec}
use Rattle.session.specs.declared.attempts.EditAnswer.{EditAnswer}
use Rattle.session.specs.declared.attempts.EditAnswer.TheVariants as edits
use Rattle.session.specs.declared.attempts.StaleRoot.{StaleRoot}
use Rattle.session.specs.declared.undoing.UndoTarget.{UndoTarget}
use Rattle.session.specs.SessionWorlds.{SessionWorld, of_world, session_view}

-- the act is an edit of a world whose cells have tints, or have none; it lies in the world, by the
-- world's models, and the world's store is large enough for it
pub record IsMaker (t : TableState) (drawn : WorldModels) (act : Act) : Type 0 where
  pub models_are : drawn.models ≡ t.models
  pub edit : is_edit act ≡ true
  pub suits : suits_tints drawn.tint act ≡ true
  pub fits : FitsWorld (2 ^ t.plan.side) t.models act
  pub large : IsLargeFor act t.plan.side

-- and what its maker recalls is of trees that are held
pub record MayBeMade (t : TableState) (drawn : WorldModels) (act : Act) (Recalls : Type 0) : Type 0
  where
    pub maker : IsMaker t drawn act
    pub recalled : Recalls

-- it makes the same act as before, by the same models
pub record SameEdit (drawn were : WorldModels) (act was : Act) : Type 0 where
  pub drawn_is : drawn ≡ were
  pub act_is : act ≡ was

-- it may be committed over the newest version that is seen
pub record MayCommitNext (t : TableState) (v : SeatView) (act : Act) (root : Option Name) : Type 0
  where
    pub edit : is_edit act ≡ true
    pub fits : FitsWorld (2 ^ t.plan.side) t.models act
    pub made : IsMadeOver v (number_seen v) act root

-- the session saw the history go on, and nothing of its own was accepted; what it made and met is
-- wanted by the act of versions that it saw
pub record WorksOn (t : TableState) (act : Act) (v w : SeatView) : Type 0 where
  pub session : SameSession v w
  pub sees : KnowsMore v w
  pub nothing : AcceptsNothing (session_view v) (session_view w)
  pub notes : NotesFor t.plan t.models act (session_view v) (session_view w)

-- a share came of the root of what the act makes of the newest version that is seen
pub record MakesNextRoot (t : TableState) (act : Act) (root : Option Name) (v w : SeatView) : Type 0
  where
    pub works : WorksOn t act v w
    pub made : IsMadeOver w (number_seen w) act root
    pub gains : GetsRoot v.held root w.held

-- a part of it met this full bucket, and the same is held
pub record FailsToMake (t : TableState) (act : Act) (full : Full) (v w : SeatView) : Type 0 where
  pub works : WorksOn t act v w
  pub meets : MeetsFullBucket t.plan t.models act full.level full.bucket (session_view v)
      (session_view w)
  pub held : SameHeld v.held w.held

abbrev pub MakesNext : TableState → Act → Result (Option Name) Full → SeatView → SeatView → Type 0
MakesNext t act (Ok root) v w = MakesNextRoot t act root v w
MakesNext t act (Err full) v w = FailsToMake t act full v w

-- the root of the newest version that is seen is held, beside no more trees than these
pub record HoldsHead (most : ℕ) (v : SeatView) (root : Option Name) : Type 0 where
  pub root_is : HoldsRootOf v root (seen_has v (number_seen v))
  pub room : number_of_trees v.held ≤ most

-- the newest version that is seen is pinned
pub record HasPinnedHead (v : SeatView) (base : Pinned) : Type 0 where
  pub pinned : IsPinned v base
  pub head : base.version ≡ base.moment
  pub now : base.moment ≡ number_seen v

-- the session of this world was answered so, whatever its number is
abbrev pub AnswersAct : SessionWorld → ℕ → Act → ActAnswer → SeatView → SeatView → Type 0
AnswersAct t line act answer v w = (number : ℕ) → v.numbers ≡ number ∷ []
    → ActSpec (of_world t number) line act (session_view v) (session_view w) answer

-- and one attempt so
abbrev pub AnswersOnce : SessionWorld → ℕ → Act → OnceAnswer → SeatView → SeatView → Type 0
AnswersOnce t line act answer v w = (number : ℕ) → v.numbers ≡ number ∷ []
    → OnceSpec (of_world t number) line act (session_view v) (session_view w) answer

-- the answer of an edit as one of an act
abbrev pub act_answer : EditAnswer → ActAnswer
act_answer (edits.Done n) = acts.Done n
act_answer (edits.Full at full) = acts.Full at full
act_answer edits.LogFull = acts.LogFull

-- another session was faster: the root that was made is held, and the log has this length
pub record IsLate (t : TableState) (act : Act) (base : Pinned) (late : StaleRoot) (v w : SeatView)
    : Type 0 where
  pub works : WorksOn t act v w
  pub gains : GetsRoot v.held late.root w.held
  pub at_is : late.at ≡ number_seen w
  pub over : base.moment < late.at
  pub room : late.at < 65535

-- it came to an answer, and the same is held; or it was too late
abbrev pub Attempts : SessionWorld → ℕ → Act → Pinned → Result EditAnswer StaleRoot → SeatView
    → SeatView
    → Type 0
Attempts t line act base (Ok answer) v w =
    SameHeld v.held w.held × AnswersAct t line act (act_answer answer) v w
Attempts t line act base (Err late) v w = IsLate t.table act base late v w

-- why an undo or a redo goes nowhere
abbrev pub nothing_to : Act → ℕ → ActAnswer
nothing_to Undo at = acts.NothingToUndo at
nothing_to other at = acts.NothingToRedo at

-- the way of an undo or a redo was found: a share of the root of the version that it goes to came,
-- which is what it makes now
pub record IsWayGone (act : Act) (way : UndoTarget) (v w : SeatView) : Type 0 where
  pub gains : GetsRoot v.held way.root w.held
  pub target : HasOpenTarget w act
  pub known : KnowsNext w.log.seen.records act way.ahead
  pub made : IsMadeNow w act way.root
  pub found : HasFoundTarget (session_view w) act

-- or it goes nowhere, which is told to whatever line
pub record IsNoWay (t : SessionWorld) (act : Act) (answer : ActAnswer)
    (v w : SeatView) : Type 0 where
  pub kept : w.held ≡ v.held
  pub told : (line : ℕ) → AnswersAct t line act answer v w

abbrev pub WayCame : SessionWorld → Act → Result UndoTarget ActAnswer → SeatView → SeatView → Type 0
WayCame t act (Ok way) v w = IsWayGone act way v w
WayCame t act (Err answer) v w = IsNoWay t act answer v w

-- it was appended under the turn, or there was no room, and nothing more was seen
pub record IsNoRoom (root : Option Name) (e : SureRefused) (v w : SeatView) : Type 0 where
  pub refused : RefusesFinish root e w
  pub seen : session_view w ≡ session_view v
  pub kept : w.held ≡ v.held

abbrev pub FinishEnds : ℕ → ℕ → Act → Option Name → Result Committed SureRefused → SeatView
    → SeatView → Type 0
FinishEnds keep line act root (Ok c) v w = CommitsNext v keep line act root c w
FinishEnds keep line act root (Err e) v w = IsNoRoom root e v w

-- the version was pinned, or it is told why not, and the same is held
pub record IsNotPinned (version : Option ℕ) (e : PinRefused) (v w : SeatView) : Type 0 where
  pub refused : RefusesPin version e w
  pub kept : w.held ≡ v.held

abbrev pub PinCame : Option ℕ → Result Pinned PinRefused → SeatView → SeatView → Type 0
PinCame version (Ok p) v w = PinsVersion v version p w
PinCame version (Err e) v w = IsNotPinned version e v w

-- the answer of an edit as one of an attempt
abbrev pub once_answer : EditAnswer → OnceAnswer
once_answer (edits.Done n) = once.Done n
once_answer (edits.Full at full) = once.Full at full
once_answer edits.LogFull = once.LogFull
