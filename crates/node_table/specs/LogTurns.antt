-- What the calls of the log's turn promise, over the pass as it is seen.
use Rattle.std.specs.Prelude.{◌≡◌, ℕ, suc, ◌+◌, ◌<◌, ◌≤◌, true, false, Option, Some, None, List, [], ◌∷◌, ◌++◌, take, slice_index}
use Rattle.std.specs.List.{slice_get, Contains}
use Rattle.node_words.specs.declared.shapes.names.Name.{Name}
use Rattle.node_words.specs.shapes.Shape.{ShowsCells}
use Rattle.node_words.specs.shapes.Tree.{Tree, root_of, shape_of}
use Rattle.node_words.specs.shapes.Weights.{weigh, weight_of}
use Rattle.core_laws.specs.places.WordIds.{LogLength, Version}
use Rattle.core_laws.specs.places.Words.{word_of_child}
use Rattle.node_words.specs.Plans.{Layout}
use Rattle.history_model.specs.declared.histories.Record.{Record}
use Rattle.history_model.specs.declared.histories.Mark.{Mark}
use Rattle.history_model.specs.Packing.{log_words}
use Rattle.core_laws.specs.contents.Aligned.{world_block}
use Rattle.core_laws.specs.contents.Versions.{IsUnmarked}
use Rattle.table_rule.specs.LogFacts.{number_seen, seen_has, SeesAll, IsShownUnmarked}
use Rattle.table_rule.specs.LogViews.{LogView}
use Rattle.table_rule.specs.Views.{SeatView, known_at}
use Rattle.table_rule.specs.LogChanges.{under_log_turn, met_busy, marks_with, IsAppendable}
use Rattle.node_table.specs.Learning.{WordsStay}
use Rattle.node_table.specs.TableStates.{TableState, PassState, BelongsTo}

-- the pass is one of the table's, has no bucket's turn and the log's, and has seen each record of
-- the log
pub record HasLogTurn (t : TableState) (s : PassState) : Type 0 where
  pub of : BelongsTo t s
  pub idle : s.view.turn ≡ None
  pub sees : SeesAll s.view

-- the view has neither a bucket's turn nor the log's
pub record HasNoTurn (v : SeatView) : Type 0 where
  pub bucket : v.turn ≡ None
  pub log : v.log.turn ≡ false

-- the view with another view of the log
abbrev pub with_log : SeatView → LogView → SeatView
with_log v l = record v { log = l }

-- the pass is one of the table's, has no bucket's turn and the log's, knows the log's length, and
-- has seen no more records than that
pub record IsReading (t : TableState) (s : PassState) (long : ℕ) : Type 0 where
  pub of : BelongsTo t s
  pub idle : s.view.turn ≡ None
  pub turn : s.view.log.turn ≡ true
  pub known : known_at LogLength s.view.log.words ≡ Some long
  pub within : (number_seen s.view ≤ long) × (long ≤ 65535)

-- further records are seen, and words of the log were learned; nothing else changed
pub record SeesMore (v w : SeatView) : Type 0 where
  pub more : List Record
  pub is : w ≡ with_log v (record v.log {
    words = w.log.words;
    seen = record v.log.seen { records = v.log.seen.records ++ more };
  })

-- these numbers are of other sessions than these, each one of those that the table was begun with
pub record AreOthers (made : ℕ) (own met : List ℕ) : Type 0 where
  pub each : (n : ℕ) → Contains met n → (n < made) × ¬ Contains own n

-- other sessions were met that have the log's turn, and nothing else changed
pub record MeetsBusy (made : ℕ) (v w : SeatView) : Type 0 where
  pub met : List ℕ
  pub others : AreOthers made v.numbers met
  pub is : w ≡ with_log v (record v.log { busy = met ++ v.log.busy })

-- and then the turn came
pub record TurnsLog (made : ℕ) (v w : SeatView) : Type 0 where
  pub before : SeatView
  pub met : MeetsBusy made v before
  pub is : w ≡ under_log_turn before true

-- the log's turn didn't come, since another session has it, one of so many: its number is noted
pub record IsBusy (made : ℕ) (v w : SeatView) : Type 0 where
  pub other : ℕ
  pub begun : other < made
  pub not_own : ¬ Contains v.numbers other
  pub is : w ≡ met_busy v other

-- the log's turn came, and the records that were not seen; whoever had it was noted
pub record TakesLog (made : ℕ) (v w : SeatView) : Type 0 where
  pub more : List Record
  pub met : List ℕ
  pub others : AreOthers made v.numbers met
  pub is : w ≡ with_log v (record v.log {
    turn = true;
    words = w.log.words;
    seen = record v.log.seen { records = v.log.seen.records ++ more };
    busy = met ++ v.log.busy;
  })

-- words of the log were learned, and nothing else changed
pub record LearnsLog (v w : SeatView) : Type 0 where
  pub grows : WordsStay v.log.words w.log.words
  pub is : w ≡ with_log v (record v.log { words = w.log.words })

-- the first five words of a record that is seen, at its place from 0
abbrev pub AreWordsOf : SeatView → ℕ → List ℕ → Type 0
AreWordsOf v n words = (r : Record) → slice_get v.log.seen.records n ≡ Some r
    → words ≡ log_words (take (suc n) v.log.seen.records) r

-- one of them
abbrev pub IsWordOf : SeatView → ℕ → ℕ → ℕ → Type 0
IsWordOf v n i word = (r : Record) → slice_get v.log.seen.records n ≡ Some r
    → word ≡ slice_index (log_words (take (suc n) v.log.seen.records) r) i

-- a version was looked at: it has this mark, which is seen then, or it has none, is known to have
-- none under this turn, and is noted so
pub record FoundOpen (v : SeatView) (u : ℕ) (w : SeatView) : Type 0 where
  pub grows : WordsStay v.log.words w.log.words
  pub unmarked : IsUnmarked v.log.seen.marks u
  pub shown : IsShownUnmarked w u
  pub is : w ≡ with_log v (record v.log {
    words = w.log.words;
    found = record { version = u; at = number_seen v } ∷ v.log.found;
  })

pub record FoundMark (v : SeatView) (u : ℕ) (m : Mark) (w : SeatView) : Type 0 where
  pub version : m.version ≡ u
  pub later : (u < m.at) × (m.at ≤ number_seen v)
  pub comes : Contains w.log.seen.marks m
  pub stay : (x : Mark) → Contains v.log.seen.marks x → Contains w.log.seen.marks x
  pub grows : WordsStay v.log.words w.log.words
  pub is : w ≡ with_log v (record v.log {
    words = w.log.words;
    seen = record v.log.seen { marks = marks_with m v.log.seen.marks };
  })

-- a version is known to have a mark, made at this length; words were learned, and nothing else
-- changed
pub record IsMarkKnown (v : SeatView) (u at : ℕ) (w : SeatView) : Type 0 where
  pub learns : LearnsLog v w
  pub later : (u < at) × (at ≤ number_seen v)
  pub known : known_at (Version u 6) w.log.words ≡ Some (suc at)

-- a mark is seen; words were learned, and nothing else changed
pub record SeesMark (v : SeatView) (m : Mark) (w : SeatView) : Type 0 where
  pub comes : Contains w.log.seen.marks m
  pub stay : (x : Mark) → Contains v.log.seen.marks x → Contains w.log.seen.marks x
  pub grows : WordsStay v.log.words w.log.words
  pub is : w ≡ with_log v (record v.log {
    words = w.log.words;
    seen = record v.log.seen { marks = marks_with m v.log.seen.marks };
  })

abbrev pub LooksForMark : SeatView → ℕ → Option Mark → SeatView → Type 0
LooksForMark v u None w = FoundOpen v u w
LooksForMark v u (Some m) w = FoundMark v u m w

-- these words are those of a record of the pass's behind the records that are seen
pub record AreNextWords (v : SeatView) (words : List ℕ) (r : Record) : Type 0 where
  pub own : Contains v.numbers r.session
  pub are : words ≡ log_words (v.log.seen.records ++ r ∷ []) r

-- P of the record that these words say and of the tree of the root, which may be appended: there is
-- one record and one tree
abbrev pub ForAppended : Layout → SeatView → List ℕ → Option Name
    → (Record → Tree → Type 0) → Type 0
ForAppended p v words root P = (r : Record) (t : Tree) → AreNextWords v words r → root_of t ≡ root
    → IsAppendable p v r t → P r t

-- what an append needs: such a record and such a tree
pub record MayAppendWords (p : Layout) (v : SeatView) (words : List ℕ)
    (root : Option Name) : Type 0 where
  pub change : Record
  pub words_are : AreNextWords v words change
  pub tree : Tree
  pub root_is : root_of tree ≡ root
  pub may : IsAppendable p v change tree

-- the words are known to stand behind the log's length
pub record AreStored (v : SeatView) (words : List ℕ) (root : Option Name) : Type 0 where
  pub each : (i : ℕ) → i < 5 → known_at (Version (suc (number_seen v)) i) v.log.words
      ≡ Some (slice_index words i)
  pub root_word : known_at (Version (suc (number_seen v)) 5) v.log.words
      ≡ Some (word_of_child root)

-- the words were stored behind the log's length, and the words that tell of marks are known as
-- before; nothing else changed
pub record StoresNext (v : SeatView) (words : List ℕ) (root : Option Name)
    (w : SeatView) : Type 0 where
  pub stored : AreStored w words root
  pub marks : (u n : ℕ) → known_at (Version u 6) v.log.words ≡ Some n
      → known_at (Version u 6) w.log.words ≡ Some n
  pub is : w ≡ with_log v (record v.log { words = w.log.words })

-- the record came to the log, to what is seen and to the pass's own, and the root's share went; no
-- turn is had
pub record AppendsUnderTurn (v : SeatView) (r : Record) (root : Tree) (w : SeatView) : Type 0 where
  pub held : List Tree
  pub weighs : (f : Tree → ℕ) → weigh f v.held ≡ weight_of f root + weigh f held
  pub is : w ≡ record v {
    held = held;
    log = record v.log {
      turn = false;
      words = [];
      seen = record v.log.seen { records = v.log.seen.records ++ r ∷ [] };
      records = record { at = suc (number_seen v); entry = r } ∷ v.log.records;
    };
  }

-- the turn went back, and nothing else changed
abbrev pub log_left : SeatView → SeatView
log_left v = with_log v (record v.log { turn = false; words = [] })

-- the same, but the turn is kept: once it goes back, all is as an append that gives it back leaves
-- it
abbrev pub AppendsInTurn : SeatView → Record → Tree → SeatView → Type 0
AppendsInTurn v r root w = AppendsUnderTurn v r root (log_left w)

-- the mark came to the log, to what is seen and to the pass's own, and the share of the root came,
-- whose tree has just the version's cells; no turn is had
pub record ForgetsUnderTurn (v : SeatView) (m : Mark) (root : Option Name)
    (w : SeatView) : Type 0 where
  pub tree : Tree
  pub root_is : root_of tree ≡ root
  pub shows : ShowsCells (world_block v.plan.side) (shape_of tree) (seen_has v m.version)
  pub comes : Contains w.log.seen.marks m
  pub stay : (x : Mark) → Contains v.log.seen.marks x → Contains w.log.seen.marks x
  pub held : List Tree
  pub weighs : (f : Tree → ℕ) → weigh f held ≡ weight_of f tree + weigh f v.held
  pub is : w ≡ record v {
    held = held;
    log = record v.log {
      turn = false;
      words = [];
      seen = record v.log.seen { marks = marks_with m v.log.seen.marks };
      marks = m ∷ v.log.marks;
    };
  }

-- the mark of version u by the pass's number and this line, at the length that is seen
abbrev pub next_mark : SeatView → ℕ → ℕ → ℕ → Mark
next_mark v u number line =
    record { version = u; at = number_seen v; session = number; line = line }
