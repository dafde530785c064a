-- All that the program promises of a line of words.
use Rattle.std.specs.Prelude.{◌≡◌, ◌⊎◌, ℕ, List, Option, Some, None}
use Rattle.vw_io.specs.Outside.{Files, Outside}
use Rattle.script_files.specs.Closed.{Closed}
use Rattle.commands.specs.Verdicts.{Verdict}
use Rattle.voxdag_top.specs.Numbers.{Misuse, IsOr}
use Rattle.voxdag_top.specs.Statuses.{StatusSays}
use Rattle.voxdag_top.specs.Verdicts.{JudgesWords, MayCome, HasFailedShelf}
use Rattle.requests.specs.Words.{request_of}

-- what the status says, with the closed world that is given; and which status must come: for words
-- outside the grammar, and for all others over a shelf that tells its files, whether it fails later
-- or not
pub record Promises (words : List (List ℕ)) (left : Option Closed) (old new : Outside)
    (result : ℕ) : Type 0 where
  pub says : StatusSays result (request_of words) left old new
  pub usage_comes : request_of words ≡ None → IsOr Misuse result
  pub comes : (files : Files) (v : Verdict) → old.shelf.files ≡ Some files
      → JudgesWords (request_of words) files v
      → MayCome (request_of words) v result ⊎ HasFailedShelf v result

-- the same, whatever world was closed
abbrev pub Promised : List (List ℕ) → Outside → Outside → ℕ → Type 0
Promised words old new result = (left : Option Closed) × Promises words left old new result
