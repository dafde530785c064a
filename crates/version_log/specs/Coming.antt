-- What it needs to append a record, and what that comes to.
use Rattle.std.specs.Prelude.{◌≡◌, ◌≤◌, ◌^◌, ℕ, true, Option, Result, Ok, Err}
use Rattle.history_model.specs.declared.acts.Act.{Act}
use Rattle.history_model.specs.Logs.{FitsWorld}
use Rattle.history_model.specs.Worlds.{is_edit}
use Rattle.node_words.specs.declared.shapes.names.Name.{Name}
use Rattle.table_rule.specs.LogChanges.{HasOpenTarget}
use Rattle.table_rule.specs.LogFacts.{number_seen}
use Rattle.table_rule.specs.Views.{SeatView}
use Rattle.node_table.specs.LogTurns.{log_left}
use Rattle.node_table.specs.TableStates.{TableState}
use Rattle.version_log.specs.declared.lookahead.Lookahead.{Lookahead}
use Rattle.version_log.specs.declared.answers.Committed.{Committed}
use Rattle.version_log.specs.declared.answers.CommitRefused.{CommitRefused}
use Rattle.version_log.specs.declared.answers.Pinned.{Pinned}
use Rattle.version_log.specs.declared.answers.SureRefused.{SureRefused}
use Rattle.version_log.specs.declared.answers.TryRefused.{TryRefused}
use Rattle.version_log.specs.Commits.{IsMadeOver, RefusesCommit}
use Rattle.version_log.specs.Falling.{CommitsNext}
use Rattle.version_log.specs.Finishing.{RefusesFinish}
use Rattle.version_log.specs.Pins.{IsPinned}
use Rattle.version_log.specs.Seeing.{OnlyReadsLog}
use Rattle.version_log.specs.Targets.{IsMadeNow, KnowsNext}
use Rattle.version_log.specs.Tries.{RefusesTry}

-- the base was pinned by this pass, as the head then; the edit lies in the world, and the root is
-- what it makes of the base
pub record MayCommit (t : TableState) (v : SeatView) (base : Pinned) (act : Act)
    (root : Option Name) : Type 0 where
  pub pinned : IsPinned v base
  pub head : base.version ≡ base.moment
  pub edit : is_edit act ≡ true
  pub fits : FitsWorld (2 ^ t.plan.side) v.models act
  pub made : IsMadeOver v base.moment act root

-- and under the log's turn: it is so if no other session was faster
pub record MayCommitHere (t : TableState) (v : SeatView) (base : Pinned) (act : Act)
    (root : Option Name) : Type 0 where
  pub edit : is_edit act ≡ true
  pub fits : FitsWorld (2 ^ t.plan.side) v.models act
  pub long : base.moment ≤ number_seen v
  pub made : number_seen v ≡ base.moment → IsMadeOver v base.moment act root

-- the act lies in the world and has an open target, what is kept of that target is right, and the
-- root is what the act makes now
pub record MayFinish (t : TableState) (v : SeatView) (ahead : Lookahead) (act : Act)
    (root : Option Name) : Type 0 where
  pub fits : FitsWorld (2 ^ t.plan.side) v.models act
  pub target : HasOpenTarget v act
  pub known : KnowsNext v.log.seen.records act ahead
  pub made : IsMadeNow v act root

-- the edit was appended to what its base knew
pub record IsCommitted (base : Pinned) (keep line : ℕ) (act : Act) (root : Option Name)
    (c : Committed) (v w : SeatView) : Type 0 where
  pub number : number_seen v ≡ base.moment
  pub commits : CommitsNext v keep line act root c w

-- nothing was: the log was looked at, and the same is held
pub record IsNotCommitted (base : Pinned) (root : Option Name) (e : CommitRefused)
    (v w : SeatView) : Type 0 where
  pub refused : RefusesCommit base root e w
  pub looks : OnlyReadsLog v w
  pub kept : w.held ≡ v.held

abbrev pub CommitCame : Pinned → ℕ → ℕ → Act → Option Name → Result Committed CommitRefused
    → SeatView → SeatView → Type 0
CommitCame base keep line act root (Ok c) v w = IsCommitted base keep line act root c v w
CommitCame base keep line act root (Err e) v w = IsNotCommitted base root e v w

-- the turn came at once, and the edit was appended
pub record IsCommittedAtOnce (base : Pinned) (keep line : ℕ) (act : Act) (root : Option Name)
    (c : Committed) (v w : SeatView) : Type 0 where
  pub number : number_seen v ≡ base.moment
  pub commits : CommitsNext v keep line act root c w
  pub met_nobody : w.log.busy ≡ v.log.busy

-- it didn't, or nothing was; and the same is held
pub record IsNotTried (made : ℕ) (base : Pinned) (root : Option Name) (e : TryRefused)
    (v w : SeatView) : Type 0 where
  pub refused : RefusesTry made base root e v w
  pub kept : w.held ≡ v.held

abbrev pub TryCame : ℕ → Pinned → ℕ → ℕ → Act → Option Name → Result Committed TryRefused
    → SeatView → SeatView → Type 0
TryCame made base keep line act root (Ok c) v w =
    IsCommittedAtOnce base keep line act root c v w
TryCame made base keep line act root (Err e) v w = IsNotTried made base root e v w

-- nothing was finished, and the turn went back
pub record IsNotFinished (root : Option Name) (e : SureRefused) (v w : SeatView) : Type 0 where
  pub refused : RefusesFinish root e w
  pub left : w ≡ log_left v
  pub looks : OnlyReadsLog v w
  pub kept : w.held ≡ v.held

abbrev pub FinishCame : ℕ → ℕ → Act → Option Name → Result Committed SureRefused → SeatView
    → SeatView → Type 0
FinishCame keep line act root (Ok c) v w = CommitsNext v keep line act root c w
FinishCame keep line act root (Err e) v w = IsNotFinished root e v w
