-- What each kind of step on the log makes of a view.
use Rattle.std.specs.Prelude.{◌≡◌, ℕ, suc, ◌+◌, ◌^◌, ◌<◌, ◌⊎◌, ⊤, Bool, true, false, Option, Some, List, [], ◌∷◌, ◌++◌, if◌then◌else◌, eqb, nat_lt, slice_index}
use Rattle.std.specs.List.{Contains}
use Rattle.node_words.specs.declared.shapes.names.Name.{Name}
use Rattle.node_words.specs.shapes.Shape.{ShowsCells}
use Rattle.node_words.specs.shapes.Tree.{Tree, Gone, root_of, shape_of}
use Rattle.node_words.specs.shapes.Weights.{weigh, weight_of}
use Rattle.node_words.specs.Held.{IsHeld}
use Rattle.node_words.specs.Plans.{Layout}
use Rattle.core_laws.specs.places.WordIds.{WordId, LogLength, Version}
use Rattle.core_laws.specs.places.Words.{word_of_child}
use Rattle.history_model.specs.declared.acts.Act.{Act}
use Rattle.history_model.specs.declared.acts.Act.TheVariants.{Undo, Redo}
use Rattle.history_model.specs.declared.histories.Record.{Record}
use Rattle.history_model.specs.declared.histories.Mark.{Mark}
use Rattle.history_model.specs.Logs.{FitsWorld}
use Rattle.history_model.specs.Packing.{log_words}
use Rattle.history_model.specs.Positions.{position_after}
use Rattle.history_model.specs.Worlds.{World}
use Rattle.core_laws.specs.contents.Aligned.{top, world_block}
use Rattle.core_laws.specs.Making.{Makes}
use Rattle.table_rule.specs.LogWords.{FitsFields}
use Rattle.table_rule.specs.LogFacts.{number_seen, seen_has, IsShownUnmarked}
use Rattle.table_rule.specs.Views.{SeatView, known_at}

-- the log's turn comes or goes: no word is known
abbrev pub under_log_turn : SeatView → Bool → SeatView
under_log_turn v has = record v { log = record v.log { turn = has; words = [] } }

-- another session has the log's turn
abbrev pub met_busy : SeatView → ℕ → SeatView
met_busy v number = record v { log = record v.log { busy = number ∷ v.log.busy } }

-- a word of the log is loaded, or stored behind its length: it is known
abbrev pub log_knowing : SeatView → WordId → ℕ → SeatView
log_knowing v x n = record v { log = record v.log { words = (x, n) ∷ v.log.words } }

-- the log that is seen grows by a record
abbrev pub with_record : SeatView → Record → SeatView
with_record v r = record v {
  log = record v.log {
    seen = record v.log.seen { records = v.log.seen.records ++ r ∷ [] };
  };
}

-- whether one of the marks is this version's
unfoldable pub has_mark : ℕ → List Mark → Bool
has_mark u [] = false
has_mark u (m ∷ marks) = if eqb m.version u then true else has_mark u marks

-- a mark comes to its place among marks by rising version
unfoldable pub place_mark : Mark → List Mark → List Mark
place_mark mark [] = mark ∷ []
place_mark mark (m ∷ marks) =
    if nat_lt mark.version m.version then mark ∷ m ∷ marks else m ∷ place_mark mark marks

-- but where its version has one
abbrev pub marks_with : Mark → List Mark → List Mark
marks_with mark marks =
    if has_mark mark.version marks then marks else place_mark mark marks

-- the log that is seen grows by a mark
abbrev pub with_seen_mark : SeatView → Mark → SeatView
with_seen_mark v m = record v {
  log = record v.log {
    seen = record v.log.seen { marks = marks_with m v.log.seen.marks };
  };
}

-- a version is found without a mark
abbrev pub with_found : SeatView → ℕ → SeatView
with_found v u = record v {
  log = record v.log {
    found = record { version = u; at = number_seen v } ∷ v.log.found;
  };
}

-- the first words of the version behind the last are known to be those of this record and this root
pub record HasNextWords (v : SeatView) (r : Record) (root : Option Name) : Type 0 where
  pub words : (i : ℕ) → i < 5 → known_at (Version (suc (number_seen v)) i) v.log.words
      ≡ Some (slice_index (log_words (v.log.seen.records ++ r ∷ []) r) i)
  pub root_word : known_at (Version (suc (number_seen v)) 5) v.log.words
      ≡ Some (word_of_child root)

-- the turn has shown that the version that an undo or a redo goes to has no mark
abbrev pub IsOpenTarget : SeatView → List ℕ → Type 0
IsOpenTarget v [] = ⊥
IsOpenTarget v (to ∷ others) = IsShownUnmarked v to

abbrev pub HasOpenTarget : SeatView → Act → Type 0
HasOpenTarget v Undo = IsOpenTarget v (position_after v.log.seen.records).past
HasOpenTarget v Redo = IsOpenTarget v (position_after v.log.seen.records).future
HasOpenTarget v edit = ⊤

-- the act can become the next record, and this tree, which is held where there is one, has just the
-- cells that it makes
pub record IsAppendable (p : Layout) (v : SeatView) (r : Record) (root : Tree) : Type 0 where
  pub room : number_seen v < 65535
  pub is_record : FitsFields r
  pub fits : FitsWorld (2 ^ p.side) v.models r.act
  pub target : HasOpenTarget v r.act
  pub is_held : (root ≡ Gone) ⊎ IsHeld v.held root
  pub level : (n : Name) → root_of root ≡ Some n → n.level ≡ top p.side
  pub cells : World
  pub shows : ShowsCells (world_block p.side) (shape_of root) cells
  pub makes : Makes (2 ^ p.side) v.models v.log.seen.records r.act cells

-- the log has the record: the root's share went to it
abbrev pub appending : SeatView → Record → List Tree → SeatView
appending v r held = record v {
  held = held;
  log = record v.log {
    words = (LogLength, suc (number_seen v)) ∷ v.log.words;
    seen = record v.log.seen { records = v.log.seen.records ++ r ∷ [] };
    records = record { at = suc (number_seen v); entry = r } ∷ v.log.records;
  };
}

pub record Appended (v : SeatView) (r : Record) (root : Tree) (w : SeatView) : Type 0 where
  pub held : List Tree
  pub weighs : (f : Tree → ℕ) → weigh f v.held ≡ weight_of f root + weigh f held
  pub is : w ≡ appending v r held

-- the log has the mark: the root's share came
abbrev pub forgetting : SeatView → Mark → List Tree → SeatView
forgetting v m held = record v {
  held = held;
  log = record v.log {
    words = (Version m.version 6, suc m.at) ∷ v.log.words;
    seen = record v.log.seen { marks = marks_with m v.log.seen.marks };
    marks = m ∷ v.log.marks;
  };
}

-- the tree of the root has just the version's cells
pub record Forgot (v : SeatView) (m : Mark) (root : Option Name) (w : SeatView) : Type 0 where
  pub tree : Tree
  pub is_root : root_of tree ≡ root
  pub shows : ShowsCells (world_block v.plan.side) (shape_of tree) (seen_has v m.version)
  pub held : List Tree
  pub weighs : (f : Tree → ℕ) → weigh f held ≡ weight_of f tree + weigh f v.held
  pub comes : Contains w.log.seen.marks m
  pub is : w ≡ forgetting v m held

-- the last word of the next record was loaded, whose other words are known: the record is seen
pub record SawNext (v : SeatView) (word : ℕ) (w : SeatView) : Type 0 where
  pub change : Record
  pub is : w ≡ with_record (log_knowing v (Version (suc (number_seen v)) 4) word) change
