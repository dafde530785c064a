-- What a call leaves of a pass's view.
use Rattle.std.specs.Prelude.{◌≡◌, ◌<◌, ◌≤◌, ℕ, List, ◌++◌, length}
use Rattle.std.specs.List.{Contains}
use Rattle.history_model.specs.declared.histories.Mark.{Mark}
use Rattle.history_model.specs.Logs.{Log}
use Rattle.table_rule.specs.LogKnowing.{IsPrefix}
use Rattle.retain.specs.Listing.{Found}
use Rattle.table_rule.specs.Rules.{SameSession}
use Rattle.table_rule.specs.Views.{SeatView}
use Rattle.table_rule.specs.LogFacts.{number_seen}
use Rattle.node_table.specs.LogTurns.{HasNoTurn}
use Rattle.node_table.specs.TableStates.{BelongsTo, PassState, TableState}

-- the pass is one of the table's, and has no turn
pub record StandsFree (t : TableState) (s : PassState) : Type 0 where
  pub of : BelongsTo t s
  pub idle : HasNoTurn s.view

-- no pair of what was found is lost
pub record KeepsFound (old new : List Found) : Type 0 where
  pub each : (f : Found) → Contains old f → Contains new f

-- each mark was made behind its version, at a length that the log has
pub record IsDated (log : Log) : Type 0 where
  pub each : (m : Mark) → Contains log.marks m
      → (m.version < m.at) × (m.at ≤ length log.records)

-- the log that was seen, and what was found, may have grown; it is a log of the same side, marks
-- that came are dated, and no other pass was joined
pub record KnowsMore (v w : SeatView) : Type 0 where
  pub seen : IsPrefix v.log.seen w.log.seen
  pub side : w.log.seen.side ≡ v.log.seen.side
  pub dated : IsDated v.log.seen → IsDated w.log.seen
  pub taken : w.log.taken ≡ v.log.taken
  pub found : KeepsFound v.log.found w.log.found

-- other sessions than these may have been met that had the log's turn
pub record MetOthers (own old new : List ℕ) : Type 0 where
  pub met : List ℕ
  pub others : (n : ℕ) → Contains met n → ¬ Contains own n
  pub is : new ≡ met ++ old

-- the same pass of the same session; what it made and met, and its own records and marks
-- stay, and what it saw of the log may grow
pub record OnlyReadsLog (v w : SeatView) : Type 0 where
  pub session : SameSession v w
  pub sees : KnowsMore v w
  pub records : w.log.records ≡ v.log.records
  pub marks : w.log.marks ≡ v.log.marks
  pub busy : MetOthers v.numbers v.log.busy w.log.busy
  pub made : w.made ≡ v.made
  pub met : w.met ≡ v.met

-- and the same is held
pub record ReadsHolding (v w : SeatView) : Type 0 where
  pub looks : OnlyReadsLog v w
  pub held : w.held ≡ v.held

-- the log that is seen has this mark on the version
pub record HasSeenMark (v : SeatView) (version : ℕ) (mark : Mark) : Type 0 where
  pub is : mark.version ≡ version
  pub marked : Contains v.log.seen.marks mark
  pub later : (version < mark.at) × (mark.at ≤ number_seen v)
