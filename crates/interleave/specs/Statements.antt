-- What holds of every run of events.
use Rattle.std.specs.Prelude.{◌≡◌, ◌≢◌, ℕ, ◌+◌, ◌^◌, ◌<◌, ◌≤◌, List, length}
use Rattle.vw_cell.specs.declared.cells.Cell.{Cell}
use Rattle.vox_read.specs.Contents.{Content}
use Rattle.node_words.specs.declared.shapes.names.Name.{Name}
use Rattle.node_words.specs.Plans.{Layout}
use Rattle.history_model.specs.Stores.{stored_in}
use Rattle.core_laws.specs.contents.Versions.{HoldsVersion, SameWorld}
use Rattle.core_laws.specs.Events.{Frees}
use Rattle.core_laws.specs.Soundness.{Sound}
use Rattle.core_laws.specs.States.{State, Holds, IsLive, IsUnder, tree_of}
use Rattle.core_laws.specs.StepStatements.{IsSpared}
use Rattle.world_core.specs.declared.events.Event.{Event}
use Rattle.world_core.specs.declared.events.Event.TheVariants.{Leaf, Node, Raise, Lower, Pin, Append, Forget}
use Rattle.world_core.specs.declared.events.Reply.{Reply}
use Rattle.interleave.specs.Runs.{IsRun, event_at}

-- the session of an event
abbrev pub session_of : Event → ℕ
session_of (Leaf session bits) = session
session_of (Node session level children) = session
session_of (Raise session n) = session
session_of (Lower session n) = session
session_of (Pin session version) = session
session_of (Append session line act base root) = session
session_of (Forget session line version) = session

-- P of each state of each run of the events
abbrev pub ForStates : Layout → List Content → ℕ → List Event → (State → Type 0) → Type 0
ForStates p models sessions events P = (replies : List Reply) (states : ℕ → State) (k : ℕ)
    → IsRun p models sessions events replies states → k ≤ length events → P (states k)

-- P of each event of each run, with the states before and after it
abbrev pub ForSteps : Layout → List Content → ℕ → List Event → (Event → State → State → Type 0)
    → Type 0
ForSteps p models sessions events P = (replies : List Reply) (states : ℕ → State) (k : ℕ)
    → IsRun p models sessions events replies states → k < length events
    → P (event_at events k) (states k) (states (k + 1))

-- the state is sound after every event
abbrev pub StatesAreSound : Layout → List Content → ℕ → List Event → Type 0
StatesAreSound p models sessions events = ForStates p models sessions events (Sound p models)

-- versions that are kept have one root
abbrev pub HaveOneRoot : State → ℕ → ℕ → Type 0
HaveOneRoot state v w = state.root v ≡ state.root w

-- versions have the same cells
abbrev pub HaveSameCells : Layout → List Content → State → ℕ → ℕ → Type 0
HaveSameCells p models state v w =
    SameWorld (2 ^ p.side) (stored_in (2 ^ p.side) models state.log.records v)
    (stored_in (2 ^ p.side) models state.log.records w)

-- two versions that are kept have one root just where their cells agree
abbrev pub RootsTellCells : Layout → List Content → ℕ → List Event → Type 0
RootsTellCells p models sessions events = ForStates p models sessions events
    (λ state. (v w : ℕ) → HoldsVersion state.log v → HoldsVersion state.log w
    → (HaveOneRoot state v w → HaveSameCells p models state v w)
    × (HaveSameCells p models state v w → HaveOneRoot state v w))

-- no event changes a cell of a version
abbrev pub VersionsKeepCells : Layout → List Content → ℕ → List Event → Type 0
VersionsKeepCells p models sessions events = ForSteps p models sessions events
    (λ event old new. (v : ℕ) (q : Cell) → v ≤ length old.log.records
    → stored_in (2 ^ p.side) models new.log.records v q
    ≡ stored_in (2 ^ p.side) models old.log.records v q)

-- what a session holds before and after an event keeps its tree, and so its shape
abbrev pub HeldShapesStay : Layout → List Content → ℕ → List Event → Type 0
HeldShapesStay p models sessions events = ForSteps p models sessions events
    (λ event old new. (session : ℕ) (n : Name) → Holds old.held session n → Holds new.held session n
    → tree_of new n ≡ tree_of old n)

-- what stands at or below a share of one session is spared by the events of all others
abbrev pub RunsSpareShares : Layout → List Content → ℕ → List Event → Type 0
RunsSpareShares p models sessions events = ForSteps p models sessions events
    (λ event old new. (session : ℕ) (m n : Name) → session ≢ session_of event
    → Holds old.held session n → IsUnder old.key m n → IsSpared p old new m)

-- an entry leaves by the lower alone that finds its book at 1, and its children are then the
-- session's
pub record LeavesByLastShare (p : Layout) (n : Name) (event : Event)
    (old new : State) : Type 0 where
  pub last : old.book n ≡ 1
  pub frees : Frees p (session_of event) n old new

abbrev pub EntriesLeaveByLastShares : Layout → List Content → ℕ → List Event → Type 0
EntriesLeaveByLastShares p models sessions events = ForSteps p models sessions events
    (λ event old new. (n : Name) → IsLive p old n → new.book n ≡ 0
    → LeavesByLastShare p n event old new)
