-- What a record leaves where the last versions alone are kept.
use Rattle.std.specs.Prelude.{◌≡◌, ◌⊎◌, ℕ, Option, Some, None}
use Rattle.history_model.specs.declared.acts.Act.{Act}
use Rattle.history_model.specs.declared.histories.Mark.{Mark}
use Rattle.node_words.specs.declared.shapes.names.Name.{Name}
use Rattle.table_rule.specs.LogFacts.{number_seen}
use Rattle.table_rule.specs.Views.{SeatView}
use Rattle.retain.specs.Retained.{falls_out}
use Rattle.version_log.specs.declared.answers.Committed.{Committed}
use Rattle.version_log.specs.Commits.{AppendsNext}
use Rattle.version_log.specs.Forgets.{ForgetsVersion}
use Rattle.version_log.specs.Seeing.{HasSeenMark, OnlyReadsLog}

-- the version had a mark, which is seen now and was made at no more than this length; no share
-- came
pub record WasMarked (v : SeatView) (version n : ℕ) (fallen : Option Name)
    (w : SeatView) : Type 0 where
  pub none : fallen ≡ None
  pub length : number_seen w ≡ n
  pub mark : Mark
  pub marked : HasSeenMark w version mark
  pub looks : OnlyReadsLog v w
  pub held : w.held ≡ v.held

-- the version that falls out, where one does, was forgotten at this length, for this line, or it
-- had a mark; where none does, nothing changed
abbrev pub FallsOut : Option ℕ → ℕ → ℕ → Option Name → SeatView → SeatView → Type 0
FallsOut None line n fallen v w = (fallen ≡ None) × (w ≡ v)
FallsOut (Some version) line n fallen v w =
    ForgetsVersion v version line (record { at = n; root = fallen }) w
    ⊎ WasMarked v version n fallen w

-- the record was appended, and behind it the version that falls out of the last `keep` was
-- forgotten, where it had no mark
pub record CommitsNext (v : SeatView) (keep line : ℕ) (act : Act) (root : Option Name)
    (c : Committed) (w : SeatView) : Type 0 where
  pub behind : SeatView
  pub appends : AppendsNext v line act root c.n behind
  pub falls : FallsOut (falls_out c.n keep) line c.n c.fallen behind w

-- the record was appended, no version fell out, and nothing else changed
pub record CommitsAlone (v : SeatView) (line : ℕ) (act : Act) (root : Option Name)
    (c : Committed) (w : SeatView) : Type 0 where
  pub none : c.fallen ≡ None
  pub appends : AppendsNext v line act root c.n w
