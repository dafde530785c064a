-- Which answer some words are, and which line.
use Rattle.std.specs.Prelude.{ℕ, ◌^◌, ◌==◌, true, false, Some, None, List, [], ◌∷◌, Result, Ok, Err, codes, if◌then◌else◌}
use Rattle.std.specs.Option.{ok_or}
use Rattle.std.specs.Str.{bytes_eq}
use Rattle.vw_cell.specs.declared.cells.Cell.{Cell}
use Rattle.plain_text.specs.declared.faults.WordFault.{WordFault}
use Rattle.plain_text.specs.declared.faults.WordFault.TheVariants.{Word, Number}
use Rattle.plain_text.specs.Steps.{◌>>=◌, next_word, three_words, nothing_more, must_be}
use Rattle.plain_text.specs.Numbers.{exact}
use Rattle.transcript.specs.declared.answers.Answer.{Answer}
use Rattle.transcript.specs.declared.answers.Answer.TheVariants.{Done, Forgot, Is, Colour, Count, Faces, Extent, Hit, Same, Head, Saved, Full, NoVersion, Forgotten, IsHead, NothingToUndo, NothingToRedo, LogFull, Stale}
use Rattle.transcript.specs.declared.answers.LineAnswer.{LineAnswer}

-- a word in the place of a number below the bound
abbrev pub limited_number : ℕ → List ℕ → Result ℕ WordFault
limited_number bound word = ok_or (exact bound word) Number

-- ---- what stands behind the first word of an answer

abbrev pub nothing_said : Answer → List (List ℕ) → Result Answer WordFault
nothing_said answer words = nothing_more words >>= λ end. Ok answer

-- one number
unfoldable pub number_said : ℕ → List (List ℕ) → Result ℕ WordFault
number_said bound words = do
  word ← next_word words
  end ← nothing_more word.1
  limited_number bound word.0

abbrev pub version_said : (ℕ → Answer) → List (List ℕ) → Result Answer WordFault
version_said answer words = number_said (2 ^ 32) words >>= λ v. Ok (answer v)

abbrev pub sum_said : (ℕ → Answer) → List (List ℕ) → Result Answer WordFault
sum_said answer words = number_said (2 ^ 64) words >>= λ n. Ok (answer n)

abbrev pub tint_said : List (List ℕ) → Result Answer WordFault
tint_said words = number_said (2 ^ 8) words >>= λ c. Ok (Colour c)

-- one fixed word
unfoldable pub word_said : List ℕ → Answer → List (List ℕ) → Result Answer WordFault
word_said fixed answer words = do
  word ← next_word words
  end ← nothing_more word.1
  is ← must_be fixed word.0
  Ok answer

unfoldable pub full_said : List (List ℕ) → Result Answer WordFault
full_said words = do
  level ← next_word words
  bucket ← next_word level.1
  end ← nothing_more bucket.1
  l ← limited_number (2 ^ 8) level.0
  b ← limited_number (2 ^ 16) bucket.0
  Ok (Full l b)

-- `version v`
unfoldable pub no_said : List (List ℕ) → Result Answer WordFault
no_said words = do
  word ← next_word words
  version ← next_word word.1
  end ← nothing_more version.1
  is ← must_be (codes "version") word.0
  v ← limited_number (2 ^ 32) version.0
  Ok (NoVersion v)

abbrev pub way_told : List ℕ → Result Answer WordFault
way_told word = if bytes_eq word (codes "undo") then Ok NothingToUndo
    else (must_be (codes "redo") word >>= λ is. Ok NothingToRedo)

-- `to undo`, `to redo`
unfoldable pub way_to : List (List ℕ) → Result Answer WordFault
way_to words = do
  word ← next_word words
  way ← next_word word.1
  end ← nothing_more way.1
  is ← must_be (codes "to") word.0
  way_told way.0

-- three numbers of a cell
unfoldable pub cell_said : List ℕ × List ℕ × List ℕ → Result Cell WordFault
cell_said words = do
  x ← limited_number (2 ^ 16) words.0
  y ← limited_number (2 ^ 16) words.1
  z ← limited_number (2 ^ 16) words.2
  Ok (record { x = x; y = y; z = z })

unfoldable pub hit_said : List (List ℕ) → Result Answer WordFault
hit_said words = do
  at ← three_words words
  end ← nothing_more at.1
  c ← cell_said at.0
  Ok (Hit (Some c))

-- the five numbers of a box behind its first
unfoldable pub box_said : List ℕ → List (List ℕ) → Result Answer WordFault
box_said first words = do
  second ← next_word words
  third ← next_word second.1
  size ← three_words third.1
  end ← nothing_more size.1
  corner ← cell_said (first, second.0, third.0)
  extent ← cell_said size.0
  Ok (Extent (Some (record { at = corner; size = extent })))

-- `none`, or a box
unfoldable pub bounds_said : List (List ℕ) → Result Answer WordFault
bounds_said words = do
  first ← next_word words
  if bytes_eq first.0 (codes "none") then nothing_said (Extent None) first.1
      else box_said first.0 first.1

-- ---- answers and lines

-- the first word of an answer, and what those behind it say
pub record AnswerRow : Type 0 where
  pub name : List ℕ
  pub read : List (List ℕ) → Result Answer WordFault

abbrev pub answer_row : List ℕ → (List (List ℕ) → Result Answer WordFault) → AnswerRow
answer_row name read = record { name = name; read = read }

-- the answers that have a number, and the others
unfoldable pub long_rows : List AnswerRow
long_rows =
    answer_row (codes "colour") tint_said
    ∷ answer_row (codes "count") (sum_said Count)
    ∷ answer_row (codes "faces") (sum_said Faces)
    ∷ answer_row (codes "saved") (sum_said Saved)
    ∷ answer_row (codes "forgot") (version_said Forgot)
    ∷ answer_row (codes "forgotten") (version_said Forgotten)
    ∷ answer_row (codes "stale") (version_said Stale)
    ∷ answer_row (codes "no") no_said
    ∷ answer_row (codes "bounds") bounds_said
    ∷ answer_row (codes "hit") hit_said
    ∷ answer_row (codes "full") full_said
    ∷ []

unfoldable pub short_rows : List AnswerRow
short_rows =
    answer_row (codes "ok") (nothing_said Done)
    ∷ answer_row (codes "set") (nothing_said (Is true))
    ∷ answer_row (codes "clear") (nothing_said (Is false))
    ∷ answer_row (codes "miss") (nothing_said (Hit None))
    ∷ answer_row (codes "same") (nothing_said (Same true))
    ∷ answer_row (codes "different") (nothing_said (Same false))
    ∷ answer_row (codes "head") (nothing_said Head)
    ∷ answer_row (codes "is") (word_said (codes "head") IsHead)
    ∷ answer_row (codes "log") (word_said (codes "full") LogFull)
    ∷ answer_row (codes "nothing") way_to
    ∷ []

-- what the row of this name reads; where none has it, this instead
abbrev pub answer_read_by : List AnswerRow → Result Answer WordFault → List ℕ → List (List ℕ)
    → Result Answer WordFault
answer_read_by [] other name words = other
answer_read_by (answer_row ∷ rows) other name words =
    if bytes_eq name answer_row.name then answer_row.read words
    else answer_read_by rows other name words

abbrev pub short_spelled : List ℕ → List (List ℕ) → Result Answer WordFault
short_spelled name words = answer_read_by short_rows (Err Word) name words

abbrev pub answer_spelled : List ℕ → List (List ℕ) → Result Answer WordFault
answer_spelled name words = answer_read_by long_rows (short_spelled name words) name words

-- the moment of a word: a number behind `@`
abbrev pub moment_spelled : List ℕ → Result ℕ WordFault
moment_spelled [] = Err Word
moment_spelled (b ∷ digits) = if b == 64 then limited_number (2 ^ 32) digits else Err Word

unfoldable pub line_spelled : List (List ℕ) → Result LineAnswer WordFault
line_spelled words = do
  first ← next_word words
  second ← next_word first.1
  name ← next_word second.1
  answer ← answer_spelled name.0 name.1
  line ← limited_number (2 ^ 32) first.0
  at ← moment_spelled second.0
  Ok (record { line = line; at = at; answer = answer })
