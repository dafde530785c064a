-- What may happen to the log, and all that may happen to a state.
use Rattle.std.specs.Prelude.{◌≡◌, ℕ, ◌+◌, ◌^◌, ◌<◌, Option, Some, None, List, [], ◌∷◌, ◌++◌, length}
use Rattle.core_laws.specs.HistoryModelContents.{Content}
use Rattle.node_words.specs.declared.shapes.names.Name.{Name}
use Rattle.node_words.specs.shapes.Shape.{ShowsCells}
use Rattle.node_words.specs.shapes.Tree.{shape_of}
use Rattle.node_words.specs.Plans.{Layout}
use Rattle.core_laws.specs.Record.{Record}
use Rattle.core_laws.specs.Mark.{Mark}
use Rattle.core_laws.specs.Worlds.{World}
use Rattle.core_laws.specs.Positions.{position_after}
use Rattle.core_laws.specs.Logs.{FitsWorld, MayFollow}
use Rattle.core_laws.specs.contents.Aligned.{top, world_block}
use Rattle.core_laws.specs.contents.Versions.{HoldsVersion, InsertsMark}
use Rattle.core_laws.specs.States.{State, tree_at}
use Rattle.core_laws.specs.Counting.{holdings}
use Rattle.core_laws.specs.Making.{Makes}
use Rattle.core_laws.specs.Events.{EntriesStay, RootsStay, Rests, Raises, PutsRoot, TakesRoot, StoreStep}

-- the act can become the next record, and the root has just the cells that it makes
pub record MayAppend (p : Layout) (models : List Content) (r : Record) (root : Option Name)
    (state : State) : Type 0 where
  pub room : length state.log.records < 65535
  pub fits : FitsWorld (2 ^ p.side) models r.act
  pub follows : MayFollow state.log.marks (length state.log.records + 1) r.act
      (position_after state.log.records)
  pub level : (n : Name) → root ≡ Some n → n.level ≡ top p.side
  pub cells : World
  pub shows : ShowsCells (world_block p.side) (shape_of (tree_at state.key (top p.side) root)) cells
  pub makes : Makes (2 ^ p.side) models state.log.records r.act cells

-- a record is appended, and its root comes to the place of the next version
pub record Appends (p : Layout) (models : List Content) (holder : ℕ) (r : Record)
    (root : Option Name) (old new : State) : Type 0 where
  pub may : MayAppend p models r root old
  pub log : new.log
      ≡ record {
        side = old.log.side;
        coloured = old.log.coloured;
        records = old.log.records ++ r ∷ [];
        marks = old.log.marks;
      }
  pub puts : PutsRoot p holder (length old.log.records + 1) root old new

-- an earlier version is marked at the log's length, and its root leaves
pub record Forgets (p : Layout) (holder : ℕ) (mark : Mark) (old new : State) : Type 0 where
  pub earlier : mark.version < length old.log.records
  pub now : mark.at ≡ length old.log.records
  pub side : new.log.side ≡ old.log.side
  pub coloured : new.log.coloured ≡ old.log.coloured
  pub records : new.log.records ≡ old.log.records
  pub marks : InsertsMark old.log.marks mark new.log.marks
  pub takes : TakesRoot p holder mark.version old new

-- a version that is kept is looked up: the holder takes a share of its root, where it has one
pub record Pins (p : Layout) (holder v : ℕ) (old new : State) : Type 0 where
  pub kept : HoldsVersion old.log v
  pub empty : old.root v ≡ None → Rests p old new
  pub root : (n : Name) → old.root v ≡ Some n → Raises p holder n old new

-- holders come, go or hand over what they hold, and nothing else changes
pub record Reseats (p : Layout) (old new : State) : Type 0 where
  pub entries : EntriesStay p old new
  pub roots : RootsStay old new
  pub log : new.log ≡ old.log
  pub held : (f : Name → ℕ) → holdings f new.held ≡ holdings f old.held

-- what one holder does
pub data Step (p : Layout) (models : List Content) (holder : ℕ) (old new : State) : Type 0 where
  stores : StoreStep p holder old new → RootsStay old new → new.log ≡ old.log
      → Step p models holder old new
  pins : (v : ℕ) → Pins p holder v old new → new.log ≡ old.log → Step p models holder old new
  appends : (r : Record) (root : Option Name) → Appends p models holder r root old new
      → Step p models holder old new
  forgets : (mark : Mark) → Forgets p holder mark old new → Step p models holder old new
