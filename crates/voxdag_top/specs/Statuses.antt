-- What each status means, by what the words ask for: what is outside before and after, and the
-- closed world that is given.
use Rattle.std.specs.Prelude.{◌≡◌, ◌≢◌, ℕ, ◌⊎◌, List, Option, Some, None}
use Rattle.vw_io.specs.Outside.{Rose, ShelfState, KeepsFiles, Files, Outside}
use Rattle.vw_io.specs.Inputs.{StopsAt}
use Rattle.vw_io.specs.declared.shelves.ReadRefused.{ReadRefused}
use Rattle.vw_io.specs.declared.shelves.ReadRefused.TheVariants as reads
use Rattle.vw_io.specs.declared.shelves.WriteRefused.TheVariants as writes
use Rattle.vox_chunk.specs.declared.faults.VoxFault.{VoxFault}
use Rattle.vox_scene.specs.declared.faults.SceneFault.{SceneFault}
use Rattle.commands.specs.declared.refusals.NumberedFault.{NumberedFault}
use Rattle.commands.specs.declared.refusals.TranscriptLine.{TranscriptLine}
use Rattle.commands.specs.declared.refusals.TextRefused.{TextRefused}
use Rattle.commands.specs.declared.refusals.TextRefused.TheVariants as texts
use Rattle.script_files.specs.Closed.{Closed}
use Rattle.script_files.specs.declared.tallies.Done.{Done}
use Rattle.node_words.specs.declared.shares.Full.{Full}
use Rattle.requests.specs.declared.orders.Request.{Request}
use Rattle.script_files.specs.Commands.{meaning_of}
use Rattle.commands.specs.Outcomes as outcomes
use Rattle.commands.specs.Putting.{write_fault_line}
use Rattle.voxdag_top.specs.Lines.{usage_line, input_line, memory_line, done_line, Puts, PutsBeginning}
use Rattle.voxdag_top.specs.Numbers.{Status, Finished, Misuse, MissingInput, FailedInput, FaultyVox, FaultyScript, FailedOutput, FailedLine, LackingMemory, LongInput, NoSuchPlace, FaultyScene, FaultyJournal, FilledStore, FaultyDag, FaultyTranscript, status_number}
use Rattle.voxdag_top.specs.declared.endings.Ending.{Ending}
use Rattle.voxdag_top.specs.Endings.{EndsAs, ending_line, text_line, MayLackLine}

-- ---- the command came to its end, and its line was put

pub record CommandDone (a : Request) (ended : Option Closed) (old new : Outside) : Type 0 where
  pub done : Done
  pub completes : outcomes.Completes (meaning_of a) (record { done = done; ended = ended })
      old.shelf new.shelf
  pub line : Puts old.out.told new.out.told (done_line done)

-- and the closed world is the run's, where scripts ran
abbrev pub CameToEnd : Option Request → Option Closed → Outside → Outside → Type 0
CameToEnd None ended old new = ⊥
CameToEnd (Some a) ended old new = CommandDone a ended old new

-- ---- all inputs were taken, and their texts are refused for this

abbrev pub RefusesText : TextRefused → Option Request → Option Files → Type 0
RefusesText r None files = ⊥
RefusesText r (Some a) files =
    outcomes.TextsRefused r (meaning_of a).inputs (meaning_of a).refuses files

-- ---- the words are outside the grammar, or all inputs are accepted and a name of an output is
-- taken

abbrev pub IsUnusable : Option Request → ShelfState → ShelfState → Type 0
IsUnusable None old new = new ≡ old
IsUnusable (Some a) old new =
    RefusesText texts.Collides (Some a) old.files × KeepsFiles old new

pub record Unusable (a : Option Request) (old new : Outside) : Type 0 where
  pub cause : IsUnusable a old.shelf new.shelf
  pub line : Puts old.out.told new.out.told usage_line

-- ---- the first input that was not taken is missing, could not be read, or is over its limit

abbrev pub StopsOn : ReadRefused → List ℕ → Option Request → ShelfState → ShelfState
    → Type 0
StopsOn why name None old new = ⊥
StopsOn why name (Some a) old new =
    StopsAt why name (meaning_of a).inputs old.files old.faults new.faults

pub record InputTold (why : ReadRefused) (a : Option Request) (old new : Outside) : Type 0 where
  pub name : List ℕ
  pub stops : StopsOn why name a old.shelf new.shelf
  pub unchanged : new.shelf.files ≡ old.shelf.files
  pub line : Puts old.out.told new.out.told (input_line why name)

-- ---- the texts are refused for this, and no file has changed

pub record TextTold (r : TextRefused) (a : Option Request) (old new : Outside) : Type 0 where
  pub refuses : RefusesText r a old.shelf.files
  pub unchanged : KeepsFiles old.shelf new.shelf
  pub line : Puts old.out.told new.out.told (text_line r)

-- ---- the shelf failed at an output; those before it are whole, and none after it was written

abbrev pub BreaksOn : List ℕ → Option Request → ShelfState → ShelfState → Type 0
BreaksOn name None old new = ⊥
BreaksOn name (Some a) old new =
    outcomes.BreaksOff writes.Failed name (meaning_of a).inputs (meaning_of a).begins old new

pub record WriteFailed (a : Option Request) (old new : Outside) : Type 0 where
  pub name : List ℕ
  pub breaks : BreaksOn name a old.shelf new.shelf
  pub line : Puts old.out.told new.out.told (write_fault_line name)

-- ---- the run had this ending, with all that stands behind it and all that it leaves on the shelf,
-- and its line could not be put

-- the output failed at the ending's line, or at the one of want of memory in its place. After a
-- fault at an output no other line stands in the place of its own
pub record OutFailed (a : Option Request) (old new : Outside) : Type 0 where
  pub ending : Ending
  pub ends : EndsAs a ending old.shelf new.shelf
  pub rose : Rose old.out.faults new.out.faults
  pub begun : PutsBeginning old.out.told new.out.told (ending_line ending)
      ⊎ (MayLackLine ending × PutsBeginning old.out.told new.out.told memory_line)

-- want of memory in the run or for its line, told by its own line or by none. After a fault at an
-- output it is the put of that fault's line that memory was wanted for, and nothing is told
pub record LacksMemory (a : Option Request) (old new : Outside) : Type 0 where
  pub ending : Ending
  pub ends : EndsAs a ending old.shelf new.shelf
  pub line : (MayLackLine ending × Puts old.out.told new.out.told memory_line)
      ⊎ (new.out.told ≡ old.out.told)

-- ---- the table: what each status means
abbrev pub StatusMeans : Status → Option Request → Option Closed → Outside → Outside → Type 0
StatusMeans Finished a left old new = CameToEnd a left old new
StatusMeans Misuse a left old new = Unusable a old new
StatusMeans MissingInput a left old new = InputTold reads.Missing a old new
StatusMeans FailedInput a left old new = InputTold reads.Failed a old new
StatusMeans LongInput a left old new = InputTold reads.TooLong a old new
-- this is the first fault of the VOX file
StatusMeans FaultyVox a left old new = (fault : VoxFault) × TextTold (texts.Vox fault) a old new
-- the VOX file is accepted, and this is the first fault of the first script that has one
StatusMeans FaultyScript a left old new =
    (at : NumberedFault) × TextTold (texts.Script at) a old new
-- the VOX file is accepted, and it has no such model, or the model no such place; or a file of many
-- versions is, and it has no such version, or its worlds no such place
StatusMeans NoSuchPlace a left old new = TextTold texts.NoPlace a old new
-- the VOX file is accepted, and this is the first fault of its scene
StatusMeans FaultyScene a left old new =
    (fault : SceneFault) × TextTold (texts.NoScene fault) a old new
-- the VOX file is accepted, and this is the journal's first line that doesn't fit, or, where the
-- history is to be replayed, that of the first record that breaks a rule of a legal one
StatusMeans FaultyJournal a left old new = (line : ℕ) × TextTold (texts.Journal line) a old new
-- all texts are accepted, and what the command stamps or replays can need as many contents of this
-- level and bucket as a bucket of its store has room for
StatusMeans FilledStore a left old new = (full : Full) × TextTold (texts.StoreFull full) a old new
-- this is the first place where a file of many versions breaks a rule
StatusMeans FaultyDag a left old new = (place : ℕ) × TextTold (texts.NoDag place) a old new
-- no script has a fault, and this is the first line of the first transcript that doesn't fit
StatusMeans FaultyTranscript a left old new =
    (at : TranscriptLine) × TextTold (texts.Transcript at) a old new
StatusMeans FailedOutput a left old new = WriteFailed a old new
StatusMeans FailedLine a left old new = OutFailed a old new
StatusMeans LackingMemory a left old new = LacksMemory a old new

-- the number is a status's, and this is what it means. A closed world is given with the number 0
-- alone
pub record StatusSays (number : ℕ) (a : Option Request) (left : Option Closed)
    (old new : Outside) : Type 0 where
  pub status : Status
  pub is : number ≡ status_number status
  pub means : StatusMeans status a left old new
  pub world : number ≢ 0 → left ≡ None
