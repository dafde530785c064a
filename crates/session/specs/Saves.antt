-- A session that holds the roots of what it saved.
use Rattle.std.specs.Prelude.{◌≡◌, ℕ, ◌≤◌, Option, Some, List, ◌++◌, length, map, Result, Ok, Err}
use Rattle.std.specs.List.{AllZip, Contains, sum_by}
use Rattle.history_model.specs.Stores.{store_has}
use Rattle.node_words.specs.declared.shapes.names.Name.{Name}
use Rattle.node_words.specs.shapes.Shape.{ShowsCells}
use Rattle.node_words.specs.shapes.Tree.{Tree, root_of, shape_of}
use Rattle.node_words.specs.shapes.Weights.{weigh, weight_of}
use Rattle.node_words.specs.Gathering.{Loses}
use Rattle.node_words.specs.Held.{SameHeld}
use Rattle.core_laws.specs.contents.Aligned.{top, world_block}
use Rattle.transcript.specs.declared.answers.Answer.{Answer}
use Rattle.transcript.specs.declared.answers.Answer.TheVariants as answers
use Rattle.table_rule.specs.Views.{SeatView}
use Rattle.node_table.specs.TableStates.{TableState}
use Rattle.version_log.specs.declared.answers.Pinned.{Pinned}
use Rattle.retain.specs.declared.refusals.PinRefused.{PinRefused}
use Rattle.conformance.specs.Answers.{asked_version}
use Rattle.conformance.specs.declared.sessions.calls.SavedAt.{SavedAt}
use Rattle.conformance.specs.sessions.SessionViews.{SessionView}
use Rattle.session.specs.SessionWorlds.{session_view}
use Rattle.session.specs.declared.saves.PinnedSave.{PinnedSave}

-- the session found the version without a mark at the pin's moment, which it has seen, and the tree
-- has the pin's root, which is of the top level, and shows just the version's cells in the store
pub record IsSavedRoot (w : TableState) (s : SessionView) (p : Pinned) (t : Tree) : Type 0 where
  pub version : p.version ≤ p.moment
  pub moment : p.moment ≤ length s.log.records
  pub found : Contains s.found (record { version = p.version; at = p.moment })
  pub name : root_of t ≡ p.root
  pub level : (n : Name) → p.root ≡ Some n → n.level ≡ top w.plan.side
  pub shows : ShowsCells (world_block w.plan.side) (shape_of t)
      (store_has w.models s.log p.version)

-- what is held is one share of the root of each pin, where there is one
pub record HoldsSaves (w : TableState) (s : SessionView) (held : List Tree) (pins : List Pinned)
    : Type 0 where
  pub trees : List Tree
  pub are : AllZip (IsSavedRoot w s) pins trees
  pub weighs : (f : Tree → ℕ) → weigh f held ≡ sum_by (weight_of f) trees

-- what a session holds is that
abbrev pub SeatHoldsPins : TableState → SeatView → List Pinned → Type 0
SeatHoldsPins w v pins = HoldsSaves w (session_view v) v.held pins

-- pins came behind those that were there, and what a session holds is the roots of these
pub record SeatHoldsMore (w : TableState) (v : SeatView) (were are : List Pinned) : Type 0 where
  pub more : List Pinned
  pub pushed : are ≡ were ++ more
  pub holds : SeatHoldsPins w v more

abbrev pub pinned_versions : List Pinned → List ℕ
pinned_versions pins = map (λ p. p.version) pins

-- one share of the pin's root came, where there is one
pub record AddsPin (w : TableState) (s : SessionView) (old new : List Tree) (p : Pinned) : Type 0
  where
    pub tree : Tree
    pub is : IsSavedRoot w s p tree
    pub gains : Loses new tree old

-- the save was told, and its version is pinned; or nothing is, and the same is held
pub record IsSavePinned (w : TableState) (s : SessionView) (asked : Option ℕ) (old new : List Tree)
    (p : PinnedSave) : Type 0 where
  pub pinned : AddsPin w s old new p.pin
  pub asked_for : p.pin.version ≡ asked_version asked p.saved.at

abbrev pub SaveCame : TableState → Option ℕ → Result PinnedSave PinRefused → SeatView → SeatView
    → Type 0
SaveCame t asked (Ok p) v w = IsSavePinned t (session_view w) asked v.held w.held p
SaveCame t asked (Err e) v w = SameHeld v.held w.held

-- how many cells the answer to a count tells
abbrev pub cells_counted : Answer → ℕ
cells_counted (answers.Count cells) = cells
cells_counted _ = 0

-- what was told of a save
abbrev pub saved_told : Result PinnedSave PinRefused → Result SavedAt PinRefused
saved_told (Ok p) = Ok p.saved
saved_told (Err refused) = Err refused
