-- The lines of a journal as words, and the bounds of what they say.
use Rattle.std.specs.Prelude.{◌≡◌, ℕ, ◌+◌, ◌^◌, ◌<◌, ◌≤◌, Bool, true, List, [], ◌∷◌, ◌++◌, length, Result, Ok, ⊤, codes}
use Rattle.std.specs.List.{AllByRecursion, join_with_byte}
use Rattle.std.specs.Fmt.{decimal}
use Rattle.vw_cell.specs.declared.cells.Cell.{Cell}
use Rattle.vw_cell.specs.Counts.{cell_at}
use Rattle.plain_text.specs.declared.faults.WordFault.{WordFault}
use Rattle.plain_text.specs.Steps.{◌>>=◌, next_word, three_words, nothing_more, must_be, number_by}
use Rattle.plain_text.specs.Numbers.{exact}
use Rattle.history_model.specs.declared.acts.Act.{Act}
use Rattle.history_model.specs.declared.histories.Record.{Record}
use Rattle.history_model.specs.declared.histories.Mark.{Mark}
use Rattle.history_model.specs.Logs.{Log, suits_tints}
use Rattle.history_model.specs.Reach.{ActLiesIn}
use Rattle.history_model.specs.Journal.{journal_of, header, journal_side}
use Rattle.history_model.specs.Spelling.{three_numbers, spelled_by, cell_list, act_list}
use Rattle.plain_text.specs.Parts.{line_of}

-- ---- bounds

-- what a record keeps to, in a history that is coloured or not and whose side has this exponent
abbrev pub IsRecord : Bool → ℕ → Record → Type 0
IsRecord coloured side r =
    (r.session < 64) × (r.line < 2 ^ 32) × ActLiesIn (2 ^ side) r.act
    × (suits_tints coloured r.act ≡ true)

-- what a mark keeps to, behind so many records
abbrev pub IsMark : ℕ → Mark → Type 0
IsMark count m = (m.version < m.at) × (m.at ≤ count) × (m.session < 64) × (m.line < 2 ^ 32)

-- marks of rising versions, of which the first is at least this one
abbrev pub AreMarks : ℕ → ℕ → List Mark → Type 0
AreMarks count least [] = ⊤
AreMarks count least (m ∷ more) =
    (least ≤ m.version) × IsMark count m × AreMarks count (m.version + 1) more

-- a history that a journal can tell
pub record HasJournal (log : Log) : Type 0 where
  pub side : (2 ≤ log.side) × (log.side ≤ 12)
  pub quarter : log.coloured ≡ true → 4 ≤ log.side
  pub few : length log.records ≤ 65535
  pub records : AllByRecursion (IsRecord log.coloured log.side) log.records
  pub marks : AreMarks (length log.records) 0 log.marks

-- the text of such a history
abbrev pub IsJournal : List ℕ → Type 0
IsJournal text = (log : Log) × HasJournal log × (text ≡ journal_of log)

-- ---- words

abbrev pub side_list : Bool → ℕ → List (List ℕ)
side_list coloured exponent = codes "side" ∷ decimal (journal_side coloured exponent) ∷ []

abbrev pub record_list : ℕ → Record → List (List ℕ)
record_list n r = cell_list (cell_at n r.session r.line) (act_list r.act)

abbrev pub mark_list : Mark → List (List ℕ)
mark_list m =
    codes "mark" ∷ decimal m.version ∷ decimal m.at ∷ decimal m.session ∷ decimal m.line ∷ []

-- the three numbers of a record's line, and its act
unfoldable pub entry_spelled : Bool → List (List ℕ) → Result (Cell × Act) WordFault
entry_spelled coloured words = do
  numbers ← three_words words
  name ← next_word numbers.1
  act ← spelled_by coloured (exact (2 ^ 32)) name.0 name.1
  head ← three_numbers (exact (2 ^ 32)) numbers.0
  Ok (head, act)

-- the three numbers of a mark, and its line
unfoldable pub mark_spelled : List (List ℕ) → Result (Cell × ℕ) WordFault
mark_spelled words = do
  name ← next_word words
  numbers ← three_words name.1
  last ← next_word numbers.1
  end ← nothing_more last.1
  is ← must_be (codes "mark") name.0
  head ← three_numbers (exact (2 ^ 32)) numbers.0
  line ← number_by (exact (2 ^ 32)) last.0
  Ok (head, line)

-- the number of cells along the side
unfoldable pub side_spelled : List (List ℕ) → Result ℕ WordFault
side_spelled words = do
  name ← next_word words
  number ← next_word name.1
  end ← nothing_more number.1
  is ← must_be (codes "side") name.0
  number_by (exact (2 ^ 32)) number.0

-- a mark that can follow, where the next version is at least this one
abbrev pub IsNextMark : ℕ → ℕ → Mark → Type 0
IsNextMark count least m = (least ≤ m.version) × IsMark count m

-- the exponent of a store's side; a store of tints has four cells of the world along it at least
abbrev pub IsSide : Bool → ℕ → Type 0
IsSide coloured exponent =
    (2 ≤ exponent) × (exponent ≤ 12) × (coloured ≡ true → 4 ≤ exponent)

-- ---- lines

-- the lines of records, of which the first is number n
abbrev pub record_texts : ℕ → List Record → List (List ℕ)
record_texts n [] = []
record_texts n (r ∷ more) = line_of (record_list n r) ∷ record_texts (n + 1) more

abbrev pub mark_texts : List Mark → List (List ℕ)
mark_texts [] = []
mark_texts (m ∷ more) = line_of (mark_list m) ∷ mark_texts more

-- the lines of a history before the last one
abbrev pub front_lines : Log → List (List ℕ)
front_lines log =
    header log.coloured ∷ line_of (side_list log.coloured log.side) ∷
    (record_texts 1 log.records ++ mark_texts log.marks)

-- the last line, and what stands behind its end
abbrev pub last_lines : List (List ℕ)
last_lines = codes "end" ∷ [] ∷ []

-- the least version that a mark after these can have, where the first could have this one
abbrev pub next_version : ℕ → List Mark → ℕ
next_version least [] = least
next_version least (m ∷ more) = next_version (m.version + 1) more

-- the first two lines
abbrev pub begun : Bool → ℕ → List (List ℕ)
begun coloured side = header coloured ∷ line_of (side_list coloured side) ∷ []
