-- The report of a history, version 1: which kept versions are empty, which have the same cells, and
-- how many different contents each level has.
use Rattle.std.specs.Prelude.{◌≡◌, ℕ, ◌+◌, ◌^◌, ◌<◌, ◌≤◌, false, Option, Some, None, List, [], ◌∷◌, ◌++◌, length, map, codes, All, AllPairs}
use Rattle.std.specs.List.{Contains, flat_map}
use Rattle.std.specs.Fmt.{decimal}
use Rattle.vw_cell.specs.declared.cells.Cell.{Cell}
use Rattle.vw_cell.specs.Places.{IsInWorld}
use Rattle.history_model.specs.Contents.{Content}
use Rattle.history_model.specs.Worlds.{World}
use Rattle.history_model.specs.Logs.{Log}
use Rattle.history_model.specs.Stores.{store_has}
use Rattle.core_laws.specs.contents.Versions.{HoldsVersion, SameWorld}
use Rattle.report.specs.declared.rows.ReportRow.{ReportRow}
use Rattle.report.specs.Numbers.{AreNumbers}

-- no cell of the world of this side is set
pub record HasNoCell (side : ℕ) (w : World) : Type 0 where
  pub each : (q : Cell) → IsInWorld side q → w q ≡ false

-- w is the least kept version with the cells of v
pub record IsFirstLike (models : List Content) (log : Log) (v w : ℕ) : Type 0 where
  pub kept : HoldsVersion log w
  pub low : w ≤ v
  pub same : SameWorld (2 ^ log.side) (store_has models log w)
      (store_has models log v)
  pub least : (u : ℕ) → u < w → HoldsVersion log u
      → ¬ SameWorld (2 ^ log.side) (store_has models log u)
      (store_has models log v)

-- a version has no set cell, or w is the first one with its cells
abbrev pub FirstFits : List Content → Log → ℕ → Option ℕ → Type 0
FirstFits models log v None = HasNoCell (2 ^ log.side) (store_has models log v)
FirstFits models log v (Some w) =
    (¬ HasNoCell (2 ^ log.side) (store_has models log v)) × IsFirstLike models log v w

-- the rows are those of the kept versions, one for each, by rising version
pub record AreHeldRows (log : Log) (rows : List ReportRow) : Type 0 where
  pub rising : AllPairs (λ a b. a.version < b.version) rows
  pub kept : All (λ r. HoldsVersion log r.version) rows
  pub all : (v : ℕ) → HoldsVersion log v → Contains (map (λ r. r.version) rows) v

-- ---- the text

-- `empty` or `root W`
abbrev pub first_words : Option ℕ → List ℕ
first_words None = codes "empty"
first_words (Some w) = codes "root " ++ decimal w

-- `version V empty` or `version V root W`
abbrev pub row_line : ReportRow → List ℕ
row_line r =
    codes "version " ++ (decimal r.version ++ (codes " " ++ (first_words r.first ++ codes "\n")))

-- `level l nodes K`
abbrev pub level_line : ℕ → ℕ → List ℕ
level_line level number =
    codes "level " ++ (decimal level ++ (codes " nodes " ++ (decimal number ++ codes "\n")))

-- the lines of these numbers, of which the first is that of this level
abbrev pub level_lines : ℕ → List ℕ → List ℕ
level_lines level [] = []
level_lines level (number ∷ more) = level_line level number ++ level_lines (level + 1) more

-- the version of the format, the side in cells, and how many records and marks there are
abbrev pub head_lines : Log → List ℕ
head_lines log =
    codes "voxdag report 1\nside " ++ (decimal (2 ^ log.side)
    ++ (codes "\nrecords " ++ (decimal (length log.records)
    ++ (codes "\nmarks " ++ (decimal (length log.marks) ++ codes "\n")))))

abbrev pub report_of : Log → List ReportRow → List ℕ → List ℕ
report_of log rows numbers = head_lines log ++ (flat_map row_line rows ++ level_lines 0 numbers)

-- the text is the report of the history
pub record IsReport (models : List Content) (log : Log) (text : List ℕ) : Type 0 where
  pub rows : List ReportRow
  pub held : AreHeldRows log rows
  pub fit : All (λ r. FirstFits models log r.version r.first) rows
  pub numbers : List ℕ
  pub are : AreNumbers models log numbers
  pub is : text ≡ report_of log rows numbers
