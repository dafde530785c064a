-- What a view tells by itself of the log, with no look at a word.
use Rattle.std.specs.Prelude.{◌≡◌, ℕ, suc, ◌^◌, ◌<◌, ◌≤◌, true, false, Option, Some, None, [], length, take, slice_index}
use Rattle.std.specs.List.{slice_get}
use Rattle.vw_cell.specs.declared.cells.Cell.{Cell}
use Rattle.vw_cell.specs.Places.{IsInWorld}
use Rattle.node_words.specs.declared.shapes.names.Name.{Name}
use Rattle.node_words.specs.shapes.Shape.{ShowsCells}
use Rattle.node_words.specs.shapes.Tree.{Tree, root_of, shape_of}
use Rattle.node_words.specs.Held.{IsReached}
use Rattle.core_laws.specs.places.KeyWords.{child_of_word}
use Rattle.core_laws.specs.places.Names.{IsName}
use Rattle.core_laws.specs.places.WordIds.{LogLength, Version}
use Rattle.retain.specs.Record.{Record}
use Rattle.retain.specs.Stores.{stored_in}
use Rattle.retain.specs.Packing.{log_words}
use Rattle.retain.specs.Worlds.{World}
use Rattle.core_laws.specs.contents.Aligned.{top, world_block}
use Rattle.core_laws.specs.contents.Versions.{SameWorld}
use Rattle.table_rule.specs.Reading.{book_of}
use Rattle.table_rule.specs.LogKnowing.{OwnsIn}
use Rattle.table_rule.specs.Views.{SeatView, bucket_of, known_at}

-- how many records a view has seen, and the cells of the store at a version by them
abbrev pub number_seen : SeatView → ℕ
number_seen v = length v.log.seen.records

abbrev pub seen_has : SeatView → ℕ → World
seen_has v u = stored_in (2 ^ v.plan.side) v.models v.log.seen.records u

-- the log's turn has shown that this version has no mark
pub record IsShownUnmarked (v : SeatView) (u : ℕ) : Type 0 where
  pub turn : v.log.turn ≡ true
  pub there : u ≤ number_seen v
  pub unmarked : known_at (Version u 6) v.log.words ≡ Some 0

-- the log's turn has shown that this is the root of the version, which has no mark
pub record IsShownRoot (v : SeatView) (u : ℕ) (root : Option Name) : Type 0 where
  pub unmarked : IsShownUnmarked v u
  pub word : ℕ
  pub known : known_at (Version u 5) v.log.words ≡ Some word
  pub is : root ≡ child_of_word (top v.plan.side) word

-- the view has the log's turn, and has seen each record of the log
pub record SeesAll (v : SeatView) : Type 0 where
  pub turn : v.log.turn ≡ true
  pub known : known_at LogLength v.log.words ≡ Some (number_seen v)

-- what a view in use tells of the log: the records and marks of its numbers in the log that it has
-- seen are those that it lists, where it took no other over; a length that is known is that of a
-- log which goes on from there; and words of records that are known are those that a log keeps
pub record LogFacts (v : SeatView) : Type 0 where
  pub few : number_seen v ≤ 65535
  pub own : v.log.taken ≡ [] → OwnsIn v.log.seen v
  pub long : (n : ℕ) → v.log.turn ≡ true → known_at LogLength v.log.words ≡ Some n
      → (number_seen v ≤ n) × (n ≤ 65535)
  pub words : (n i word : ℕ) (r : Record) → v.log.turn ≡ true
      → slice_get v.log.seen.records n ≡ Some r → i < 5
      → known_at (Version (suc n) i) v.log.words ≡ Some word
      → word ≡ slice_index (log_words (take (suc n) v.log.seen.records) r) i

-- what it tells of roots that were shown: no root is that of a world with no set cell; a root is a
-- name of the top level, of a live entry, and its tree has just the cells of its version; and two
-- are the same just where their versions have the same cells
pub record RootFacts (v : SeatView) : Type 0 where
  pub none : (u : ℕ) → IsShownRoot v u None → (q : Cell) → IsInWorld (2 ^ v.plan.side) q
      → seen_has v u q ≡ false
  pub named : (u : ℕ) (n : Name) → IsShownRoot v u (Some n)
      → (n.level ≡ top v.plan.side) × IsName v.plan n
  pub live : (u : ℕ) (n : Name) (book : ℕ) → IsShownRoot v u (Some n)
      → v.turn ≡ Some (bucket_of n) → known_at (book_of n) v.words ≡ Some book → 0 < book
  pub shows : (u : ℕ) (n : Name) (t : Tree) → IsShownRoot v u (Some n) → IsReached v.held t
      → root_of t ≡ Some n → ShowsCells (world_block v.plan.side) (shape_of t) (seen_has v u)
  pub one_root : (u w : ℕ) (m n : Option Name) → IsShownRoot v u m → IsShownRoot v w n → m ≡ n
      → SameWorld (2 ^ v.plan.side) (seen_has v u) (seen_has v w)
  pub one_world : (u w : ℕ) (m n : Option Name) → IsShownRoot v u m → IsShownRoot v w n
      → SameWorld (2 ^ v.plan.side) (seen_has v u) (seen_has v w) → m ≡ n
