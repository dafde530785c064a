-- What a commit that doesn't wait answers.
use Rattle.std.specs.Prelude.{◌≡◌, ℕ, Option}
use Rattle.std.specs.List.{Contains}
use Rattle.node_words.specs.declared.shapes.names.Name.{Name}
use Rattle.table_rule.specs.Views.{SeatView}
use Rattle.node_table.specs.LogTurns.{IsBusy}
use Rattle.version_log.specs.declared.answers.Pinned.{Pinned}
use Rattle.version_log.specs.declared.answers.CommitRefused.{CommitRefused}
use Rattle.version_log.specs.declared.answers.CommitRefused.TheVariants.{LogFull, Stale}
use Rattle.version_log.specs.declared.answers.TryRefused.{TryRefused}
use Rattle.version_log.specs.declared.answers.TryRefused.TheVariants as tries
use Rattle.version_log.specs.Commits.{RefusesCommit}
use Rattle.version_log.specs.Seeing.{OnlyReadsLog}

-- the same refusal, as one of a try
abbrev pub tried : CommitRefused → TryRefused
tried (LogFull back) = tries.LogFull back
tried (Stale now back) = tries.Stale now back

-- the turn came at once, the log was looked at, and nothing was committed
pub record RefusesAtOnce (base : Pinned) (root : Option Name) (e : CommitRefused)
    (v w : SeatView) : Type 0 where
  pub looks : OnlyReadsLog v w
  pub nobody : w.log.busy ≡ v.log.busy
  pub refused : RefusesCommit base root e w

-- or the number of another session, one of so many, joined those that were met with the log's turn,
-- and nothing else changed
abbrev pub RefusesTry : ℕ → Pinned → Option Name → TryRefused → SeatView → SeatView → Type 0
RefusesTry made base root (tries.LogFull back) v w = RefusesAtOnce base root (LogFull back) v w
RefusesTry made base root (tries.Stale now back) v w = RefusesAtOnce base root (Stale now back) v w
RefusesTry made base root (tries.Busy back) v w = (back ≡ root) × IsBusy made v w

-- in a table of one session, whose number is 0, nobody is told that another one has the turn
abbrev pub AloneIsNeverBusy : Type 0
AloneIsNeverBusy = (base : Pinned) (root back : Option Name) (v w : SeatView)
    → Contains v.numbers 0 → RefusesTry 1 base root (tries.Busy back) v w → ⊥
