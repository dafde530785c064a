-- What a seat of the table knows of the log.
use Rattle.std.specs.Prelude.{ℕ, Bool, false, List, []}
use Rattle.core_laws.specs.places.WordIds.{WordId}
use Rattle.retain.specs.Mark.{Mark}
use Rattle.retain.specs.Logs.{Log}
use Rattle.retain.specs.Listing.{Accepted, Found}

-- what one seat knows of the log: whether it has the log's turn, the words that it has loaded or
-- stored under that turn (newest first), the longest log that it has seen, the logs that it took
-- over from seats that it joined, its own records and marks, the versions that it found without a
-- mark, and the numbers that it met in the turn's word
pub record LogView : Type 0 where
  pub turn : Bool
  pub words : List (WordId × ℕ)
  pub seen : Log
  pub taken : List Log
  pub records : List Accepted
  pub marks : List Mark
  pub found : List Found
  pub busy : List ℕ

-- a log of no record, of a world of this side
abbrev pub no_log : ℕ → Log
no_log side = record { side = side; coloured = false; records = []; marks = [] }

-- nothing is known but the side
abbrev pub log_starting : ℕ → LogView
log_starting side = record {
  turn = false;
  words = [];
  seen = no_log side;
  taken = [];
  records = [];
  marks = [];
  found = [];
  busy = [];
}
