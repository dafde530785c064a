-- How the roots of versions tell which of them have the same cells.
use Rattle.std.specs.Prelude.{◌≡◌, ◌≢◌, ℕ, ◌+◌, ◌*◌, ◌^◌, ◌<◌, ◌≤◌, ◌==◌, if◌then◌else◌, Option, Some, None, List, [], ◌∷◌, map, length, take, All, AllPairs, slice_index_or}
use Rattle.std.specs.List.{Contains}
use Rattle.history_model.specs.Contents.{Content}
use Rattle.history_model.specs.Logs.{Log}
use Rattle.history_model.specs.Stores.{store_has}
use Rattle.node_words.specs.declared.shapes.names.Name.{Name}
use Rattle.core_laws.specs.contents.Aligned.{top}
use Rattle.core_laws.specs.contents.Versions.{HoldsVersion, SameWorld}
use Rattle.world_core.specs.declared.closed.Closed.{Closed}
use Rattle.world_core.specs.declared.closed.Root.{Root}
use Rattle.report.specs.declared.rows.ReportRow.{ReportRow}
use Rattle.report.specs.Numbers.{AreNumbers}
use Rattle.report.specs.Reports.{HasNoCell}

-- two kept versions have one root just where they have the same cells, and none just where they
-- have no set cell
pub record RootsNameWorlds (models : List Content) (log : Log) (root : ℕ → Option Name) : Type 0
  where
    pub no_cell : (v : ℕ) → HoldsVersion log v → root v ≡ None
        → HasNoCell (2 ^ log.side) (store_has models log v)
    pub no_root : (v : ℕ) → HoldsVersion log v
        → HasNoCell (2 ^ log.side) (store_has models log v) → root v ≡ None
    pub same_cells : (v w : ℕ) → HoldsVersion log v → HoldsVersion log w → root v ≡ root w
        → SameWorld (2 ^ log.side) (store_has models log v) (store_has models log w)
    pub same_root : (v w : ℕ) → HoldsVersion log v → HoldsVersion log w
        → SameWorld (2 ^ log.side) (store_has models log v) (store_has models log w)
        → root v ≡ root w

-- the root of a version, by a list of them
abbrev pub root_in_list : List Root → ℕ → Option Name
root_in_list [] v = None
root_in_list (r ∷ roots) v = if r.version == v then r.name else root_in_list roots v

-- they are those of the kept versions, one for each, by rising version
pub record AreKeptRoots (log : Log) (roots : List Root) : Type 0 where
  pub rising : AllPairs (λ a b. a.version < b.version) roots
  pub kept : All (λ r. HoldsVersion log r.version) roots
  pub all : (v : ℕ) → HoldsVersion log v → Contains (map (λ r. r.version) roots) v

-- what a closed world left tells the report of its history: the roots of the kept versions tell
-- which of them have the same cells, and the numbers of live nodes are those of the different
-- contents
pub record TellsReport (models : List Content) (closed : Closed) : Type 0 where
  pub roots : AreKeptRoots closed.history closed.roots.items
  pub worlds : RootsNameWorlds models closed.history (root_in_list closed.roots.items)
  pub numbers : AreNumbers models closed.history (take (top closed.history.side + 1) closed.live)

-- w is the least kept version with the root of v, which has one
pub record IsFirstRoot (log : Log) (root : ℕ → Option Name) (v w : ℕ) : Type 0 where
  pub kept : HoldsVersion log w
  pub low : w ≤ v
  pub some : root v ≢ None
  pub same : root w ≡ root v
  pub least : (u : ℕ) → u < w → HoldsVersion log u → root u ≢ root v

abbrev pub FirstTold : Log → (ℕ → Option Name) → ℕ → Option ℕ → Type 0
FirstTold log root v None = root v ≡ None
FirstTold log root v (Some w) = IsFirstRoot log root v w

-- ---- how the rows are found

-- the rows of the kept versions below v, as their roots tell them
pub record RowsBelow (log : Log) (root : ℕ → Option Name) (v : ℕ)
    (rows : List ReportRow) : Type 0 where
  pub rising : AllPairs (λ a b. a.version < b.version) rows
  pub below : All (λ r. r.version < v) rows
  pub kept : All (λ r. HoldsVersion log r.version) rows
  pub all : (u : ℕ) → u < v → HoldsVersion log u → Contains (map (λ r. r.version) rows) u
  pub told : All (λ r. FirstTold log root r.version r.first) rows

-- a root by one number
abbrev pub root_number : Name → ℕ
root_number n = n.level * 16777216 + (n.bucket * 256 + n.slot)

-- w is the first kept version with the root of this number, and stands below v
pub record IsFirstAt (log : Log) (root : ℕ → Option Name) (v k w : ℕ) : Type 0 where
  pub kept : HoldsVersion log w
  pub below : w < v
  pub name : Name
  pub is : root w ≡ Some name
  pub number : root_number name ≡ k
  pub bucket : name.bucket < 65536
  pub slot : name.slot < 256
  pub least : (u : ℕ) → u < w → HoldsVersion log u → root u ≢ Some name

-- a look-up by root number gives for each kept version below v the first one with its root
pub record FirstsBelow (log : Log) (root : ℕ → Option Name) (v : ℕ)
    (firsts : ℕ → Option ℕ) : Type 0 where
  pub first : (k w : ℕ) → firsts k ≡ Some w → IsFirstAt log root v k w
  pub there : (u : ℕ) (n : Name) → u < v → HoldsVersion log u → root u ≡ Some n
      → firsts (root_number n) ≢ None

-- the roots before this one in the list are of versions below v, and it and those behind it are not
pub record IsBetween (roots : List Root) (i v : ℕ) : Type 0 where
  pub before : (j : ℕ) (d : Root) → j < i → j < length roots
      → (slice_index_or roots j d).version < v
  pub behind : (j : ℕ) (d : Root) → i ≤ j → j < length roots
      → v ≤ (slice_index_or roots j d).version

-- the rows and the look-up of the roots before this one
pub record RowsBefore (log : Log) (roots : List Root) (i : ℕ) (rows : List ReportRow)
    (firsts : ℕ → Option ℕ) : Type 0 where
  pub below : (v : ℕ) → IsBetween roots i v → RowsBelow log (root_in_list roots) v rows
  pub look_up : (v : ℕ) → IsBetween roots i v → FirstsBelow log (root_in_list roots) v firsts
