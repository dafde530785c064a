-- How the lines of a journal go on behind those of a history: with a record, with a mark, or with
-- the last line.
use Rattle.std.specs.Prelude.{◌≡◌, ℕ, ◌+◌, ◌<◌, ◌⊎◌, List, [], ◌∷◌, ◌++◌, length}
use Rattle.plain_text.specs.Parts.{words, line_of}
use Rattle.history_model.specs.declared.histories.Record.{Record}
use Rattle.history_model.specs.declared.histories.Mark.{Mark}
use Rattle.history_model.specs.Logs.{Log}
use Rattle.history_model.specs.Entries.{IsRecord, IsNextMark, HasJournal, record_list, mark_list, front_lines, last_lines, next_version}

-- the lines are those of a journal
abbrev pub IsJournalLines : List (List ℕ) → Type 0
IsJournalLines all = (log : Log) × HasJournal log × (all ≡ front_lines log ++ last_lines)

-- a further record, which stands before all marks
pub record RecordFollows (log : Log) (rest : List (List ℕ)) : Type 0 where
  pub r : Record
  pub more : List (List ℕ)
  pub unmarked : log.marks ≡ []
  pub fits : IsRecord log.coloured log.side r
  pub few : length log.records < 65535
  pub is : rest ≡ line_of (record_list (length log.records + 1) r) ∷ more
  pub some : 0 < length more

-- a further mark
pub record MarkFollows (log : Log) (rest : List (List ℕ)) : Type 0 where
  pub m : Mark
  pub more : List (List ℕ)
  pub fits : IsNextMark (length log.records) (next_version 0 log.marks) m
  pub is : rest ≡ line_of (mark_list m) ∷ more
  pub some : 0 < length more

abbrev pub LinesFollow : Log → List (List ℕ) → Type 0
LinesFollow log rest = (rest ≡ last_lines) ⊎ (RecordFollows log rest ⊎ MarkFollows log rest)

-- the record of a line, where no mark was seen
pub record RecordIn (log : Log) (line : List ℕ) (r : Record) : Type 0 where
  pub unmarked : log.marks ≡ []
  pub few : length log.records < 65535
  pub fits : IsRecord log.coloured log.side r
  pub is : record_list (length log.records + 1) r ≡ words line

-- no record is in the line
abbrev pub NoRecordIn : Log → List ℕ → Type 0
NoRecordIn log line = (r : Record) → RecordIn log line r → ⊥
