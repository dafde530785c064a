-- The log that the words of a table show.
use Rattle.std.specs.Prelude.{◌≡◌, ℕ, zero, suc, ◌^◌, ◌/◌, ◌%◌, ◌<◌, List, [], ◌∷◌, ◌++◌, slice_index, false}
use Rattle.vw_cell.specs.declared.cells.Cell.{Cell}
use Rattle.vw_cell.specs.declared.boxes.Boxed.{Boxed}
use Rattle.vw_cell.specs.declared.balls.Ball as balls
use Rattle.node_words.specs.Plans.{Layout}
use Rattle.core_laws.specs.places.WordIds.{WordId, LogLength, Version, versions}
use Rattle.retain.specs.Act.{Act}
use Rattle.retain.specs.TheVariants.{Fill, Erase, Ball, Carve, Copy, Stamp, Tint, Undo, Redo}
use Rattle.retain.specs.TintAct.{TintAct}
use Rattle.retain.specs.TintVariants as tints
use Rattle.retain.specs.Record.{Record}
use Rattle.retain.specs.Mark.{Mark}
use Rattle.retain.specs.Logs.{Log}
use Rattle.retain.specs.Packing.{log_words}

-- the cell, the box and the ball of words, whatever words they are
abbrev pub cell_of_word : ℕ → Cell
cell_of_word word = record {
  x = word % 2 ^ 16;
  y = word / 2 ^ 16 % 2 ^ 16;
  z = word / 2 ^ 32 % 2 ^ 16;
}

abbrev pub box_of_words : ℕ → ℕ → Boxed
box_of_words place size = record { at = cell_of_word place; size = cell_of_word size }

abbrev pub ball_of_words : ℕ → ℕ → balls.Ball
ball_of_words place radius = record { centre = cell_of_word place; radius = radius % 2 ^ 16 }

-- the tinted act of these words, whose kind is this more than the first one's
abbrev pub tint_of_words : ℕ → ℕ → ℕ → ℕ → TintAct
tint_of_words zero place size to = tints.Fill (box_of_words place size) (to % 2 ^ 8)
tint_of_words (suc zero) place size to = tints.Erase (box_of_words place size)
tint_of_words (suc (suc zero)) place size to = tints.Ball (ball_of_words place size) (to % 2 ^ 8)
tint_of_words (suc (suc (suc zero))) place size to = tints.Carve (ball_of_words place size)
tint_of_words (suc (suc (suc (suc zero)))) place size to =
    tints.Copy (box_of_words place size) (cell_of_word to)
tint_of_words (suc (suc (suc (suc (suc kind))))) place size to =
    tints.Stamp (size % 2 ^ 16) (cell_of_word place)

-- the act of a kind with these words
abbrev pub act_of_words : ℕ → ℕ → ℕ → ℕ → Act
act_of_words zero place size to = Fill (box_of_words place size)
act_of_words (suc zero) place size to = Erase (box_of_words place size)
act_of_words (suc (suc zero)) place size to = Ball (ball_of_words place size)
act_of_words (suc (suc (suc zero))) place size to = Carve (ball_of_words place size)
act_of_words (suc (suc (suc (suc zero)))) place size to =
    Copy (box_of_words place size) (cell_of_word to)
act_of_words (suc (suc (suc (suc (suc zero))))) place size to =
    Stamp (size % 2 ^ 16) (cell_of_word place)
act_of_words (suc (suc (suc (suc (suc (suc zero)))))) place size to = Undo
act_of_words (suc (suc (suc (suc (suc (suc (suc zero))))))) place size to = Redo
act_of_words (suc (suc (suc (suc (suc (suc (suc (suc kind)))))))) place size to =
    Tint (tint_of_words kind place size to)

-- the numbers that a value of the code has: a model's is one of 16 bits, and a line's one of 32
abbrev pub HasModel : TintAct → Type 0
HasModel (tints.Stamp m at) = m < 2 ^ 16
HasModel act = Unit {0}

abbrev pub HasNumbers : Act → Type 0
HasNumbers (Stamp m at) = m < 2 ^ 16
HasNumbers (Tint t) = HasModel t
HasNumbers act = Unit {0}

pub record FitsFields (r : Record) : Type 0 where
  pub numbers : HasNumbers r.act
  pub line : r.line < 2 ^ 32

-- the record that five words say
abbrev pub record_of_words : (ℕ → ℕ) → Record
record_of_words word = record {
  session = word 4 % 2 ^ 16;
  line = word 4 / 2 ^ 16 % 2 ^ 32;
  act = act_of_words (word 0 % 2 ^ 8) (word 1) (word 2) (word 3);
}

-- the word of a version
abbrev pub word_in : (WordId → ℕ) → ℕ → ℕ → ℕ
word_in mem v i = mem (Version v i)

-- the mark that the last word of a version says, which was made at this length
abbrev pub mark_of_words : ℕ → ℕ → ℕ → Mark
mark_of_words v at who = record {
  version = v;
  at = at;
  session = who % 2 ^ 16;
  line = who / 2 ^ 16 % 2 ^ 32;
}

-- the first records, and the marks of the first versions
unfoldable pub records_in : (WordId → ℕ) → ℕ → List Record
records_in mem zero = []
records_in mem (suc n) = records_in mem n ++ record_of_words (word_in mem (suc n)) ∷ []

abbrev pub if_marked : ℕ → ℕ → ℕ → List Mark
if_marked v zero who = []
if_marked v (suc at) who = mark_of_words v at who ∷ []

unfoldable pub marks_in : (WordId → ℕ) → ℕ → List Mark
marks_in mem zero = []
marks_in mem (suc v) = marks_in mem v ++ if_marked v (mem (Version v 6)) (mem (Version v 7))

-- the log: as many records as its length says, and the marks of all versions that there is room for
abbrev pub log_in : Layout → (WordId → ℕ) → Log
log_in p mem = record {
  side = p.side;
  coloured = false;
  records = records_in mem (mem LogLength);
  marks = marks_in mem versions;
}

-- the first five words of each record are those that a log keeps of it, which say where the history
-- then stands
pub record IsLogWritten (mem : WordId → ℕ) : Type 0 where
  pub words : (n i : ℕ) → n < mem LogLength → i < 5
      → mem (Version (suc n) i) ≡ slice_index (log_words (records_in mem (suc n))
      (record_of_words (word_in mem (suc n)))) i
