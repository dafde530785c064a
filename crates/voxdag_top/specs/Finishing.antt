-- A line is put, and the status follows.
use Rattle.std.specs.Prelude.{◌≡◌, ◌⊎◌, ℕ, List, Option}
use Rattle.vw_io.specs.Outside.{Rose, SinkState, Outside}
use Rattle.script_files.specs.Closed.{Closed}
use Rattle.requests.specs.declared.orders.Request.{Request}
use Rattle.voxdag_top.specs.declared.endings.Ending.{Ending}
use Rattle.voxdag_top.specs.Numbers.{FailedLine, LackingMemory, status_number}
use Rattle.voxdag_top.specs.Endings.{EndsAs, ended_with, ending_line, status_of, MayLackLine}
use Rattle.voxdag_top.specs.Lines.{memory_line, Puts, PutsBeginning}

-- the put of a line: the status is the line's; or the output failed at it; or memory was wanted,
-- and nothing was put
pub data PutEnds (line : List ℕ) (status : ℕ) (old new : SinkState) (result : ℕ) : Type 0 where
  put : result ≡ status → Puts old.told new.told line → PutEnds line status old new result
  failed : result ≡ status_number FailedLine → Rose old.faults new.faults
      → PutsBeginning old.told new.told line
      → PutEnds line status old new result
  lacking : result ≡ status_number LackingMemory → new.told ≡ old.told
      → PutEnds line status old new result

-- the ending's line was put, or in its place the one of want of memory, where the ending's may lack
-- memory
abbrev pub Finishes : Ending → SinkState → SinkState → ℕ → Type 0
Finishes e old new result =
    PutEnds (ending_line e) (status_number (status_of e)) old new result
    ⊎ (MayLackLine e × PutEnds memory_line (status_number LackingMemory) old new result)

-- the program from its request to its status and its closed world
pub record Runs (a : Option Request) (old new : Outside) (result : ℕ) (ended : Option Closed)
    : Type 0 where
  pub ending : Ending
  pub ends : EndsAs a ending old.shelf new.shelf
  pub finish : Finishes ending old.out new.out result
  pub gives : ended ≡ ended_with ending result
