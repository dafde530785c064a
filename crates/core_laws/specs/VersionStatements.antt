-- What the laws say of versions and their roots.
use Rattle.std.specs.Prelude.{◌≡◌, ℕ, ◌+◌, ◌^◌, ◌<◌, ◌≤◌, None, false, List, length}
use Rattle.vw_cell.specs.declared.cells.Cell.{Cell}
use Rattle.vw_cell.specs.Places.{IsInWorld}
use Rattle.core_laws.specs.HistoryModelContents.{Content}
use Rattle.node_words.specs.Plans.{Layout}
use Rattle.core_laws.specs.Record.{Record}
use Rattle.core_laws.specs.Logs.{MayFollow}
use Rattle.core_laws.specs.Stores.{stored_in}
use Rattle.core_laws.specs.Positions.{position_after}
use Rattle.core_laws.specs.Worlds.{World, is_edit}
use Rattle.core_laws.specs.contents.Versions.{HoldsVersion, SameWorld}
use Rattle.core_laws.specs.States.{State}
use Rattle.core_laws.specs.Soundness.{Sound, IsUntouched}
use Rattle.core_laws.specs.Making.{version_gone_to}
use Rattle.core_laws.specs.LogEvents.{MayAppend}

-- a state in which nothing was done yet is sound
abbrev pub UntouchedStatesAreSound : Type 0
UntouchedStatesAreSound = (p : Layout) (models : List Content) (state : State)
    → IsUntouched p state → Sound p models state

-- the cells of the store at a version of the state
abbrev pub cells_at : Layout → List Content → State → ℕ → World
cells_at p models state v = stored_in (2 ^ p.side) models state.log.records v

-- two versions that are kept and have one root have the same cells
abbrev pub OneRootOneWorld : Type 0
OneRootOneWorld = (p : Layout) (models : List Content) (state : State) (v w : ℕ) → 2 ≤ p.side
    → Sound p models state
    → HoldsVersion state.log v → HoldsVersion state.log w → state.root v ≡ state.root w
    → SameWorld (2 ^ p.side) (cells_at p models state v) (cells_at p models state w)

-- two versions that are kept and have the same cells have one root
abbrev pub OneWorldOneRoot : Type 0
OneWorldOneRoot = (p : Layout) (models : List Content) (state : State) (v w : ℕ) → 2 ≤ p.side
    → Sound p models state
    → HoldsVersion state.log v → HoldsVersion state.log w
    → SameWorld (2 ^ p.side) (cells_at p models state v) (cells_at p models state w)
    → state.root v ≡ state.root w

-- a version with no root has no set cell
abbrev pub NoRootNoCell : Type 0
NoRootNoCell = (p : Layout) (models : List Content) (state : State) (v : ℕ) (q : Cell) → 2 ≤ p.side
    → Sound p models state
    → HoldsVersion state.log v → state.root v ≡ None → IsInWorld (2 ^ p.side) q
    → cells_at p models state v q ≡ false

-- a version with no set cell has no root
abbrev pub NoCellNoRoot : Type 0
NoCellNoRoot = (p : Layout) (models : List Content) (state : State) (v : ℕ) → 2 ≤ p.side
    → Sound p models state
    → HoldsVersion state.log v
    → ((q : Cell) → IsInWorld (2 ^ p.side) q → cells_at p models state v q ≡ false)
    → state.root v ≡ None

-- the version that an undo or a redo goes to is kept
abbrev pub TargetsAreHeld : Type 0
TargetsAreHeld = (p : Layout) (models : List Content) (r : Record) (state : State)
    → Sound p models state
    → is_edit r.act ≡ false
    → MayFollow state.log.marks (length state.log.records + 1) r.act
    (position_after state.log.records)
    → HoldsVersion state.log (version_gone_to state.log.records r.act)

-- and its root may be appended
abbrev pub TargetsMayBeAppended : Type 0
TargetsMayBeAppended = (p : Layout) (models : List Content) (r : Record) (state : State)
    → Sound p models state
    → length state.log.records < 65535 → is_edit r.act ≡ false
    → MayFollow state.log.marks (length state.log.records + 1) r.act
    (position_after state.log.records)
    → MayAppend p models r (state.root (version_gone_to state.log.records r.act)) state
