-- What the laws say of what is pinned.
use Rattle.std.specs.Prelude.{◌≡◌, ◌↔◌, ℕ, ◌^◌, ◌≤◌, None, false, List}
use Rattle.vw_cell.specs.declared.cells.Cell.{Cell}
use Rattle.vw_cell.specs.Places.{IsInWorld}
use Rattle.node_words.specs.shapes.Tree.{Tree}
use Rattle.node_words.specs.shapes.Weights.{weigh}
use Rattle.table_rule.specs.LogFacts.{seen_has}
use Rattle.table_rule.specs.ViewFacts.{ViewFacts}
use Rattle.table_rule.specs.Views.{SeatView}
use Rattle.version_log.specs.declared.answers.Pinned.{Pinned}
use Rattle.retain.specs.declared.refusals.PinRefused.{PinRefused}
use Rattle.version_log.specs.Pins.{IsPinned, RefusesPin}
use Rattle.version_log.specs.Seeing.{OnlyReadsLog}

-- all that was held is held
pub record KeepsAllHeld (old new : List Tree) : Type 0 where
  pub weighs : (f : Tree → ℕ) → weigh f old ≤ weigh f new

-- what is pinned stays so, whatever else the pass sees of the log, while its shares stay held
abbrev pub PinsStay : Type 0
PinsStay =
    (v w : SeatView) (p : Pinned) → OnlyReadsLog v w → KeepsAllHeld v.held w.held → IsPinned v p
    → IsPinned w p

-- a pin of the head is never refused
abbrev pub HeadsArePinned : Type 0
HeadsArePinned = (e : PinRefused) (w : SeatView) → RefusesPin None e w → ⊥

-- there is no root exactly where no cell of the version is set
abbrev pub PinnedRootsTellCells : Type 0
PinnedRootsTellCells = (v : SeatView) (p : Pinned) → 2 ≤ v.plan.side → ViewFacts v → IsPinned v p
    → (p.root ≡ None) ↔ ((q : Cell) → IsInWorld (2 ^ v.plan.side) q
    → seen_has v p.version q ≡ false)
