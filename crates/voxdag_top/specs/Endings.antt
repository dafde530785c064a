-- How the program ends, what stands behind each ending, its status and its line.
use Rattle.std.specs.Prelude.{◌≡◌, ℕ, List, Option, Some, None, Ok, Err, ⊤}
use Rattle.vw_io.specs.Outside.{ShelfState}
use Rattle.vw_io.specs.declared.shelves.ReadRefused.{ReadRefused}
use Rattle.vw_io.specs.declared.shelves.ReadRefused.TheVariants as reads
use Rattle.vox_chunk.specs.Faults.{kind_of, position_of}
use Rattle.vox_scene.specs.Faults.{scene_kind_of, place_of_fault}
use Rattle.script.specs.Faults.{number_of_kind}
use Rattle.commands.specs.declared.refusals.CommandRefused.{CommandRefused}
use Rattle.commands.specs.declared.refusals.CommandRefused.TheVariants.{Input, Text, Output}
use Rattle.commands.specs.declared.refusals.NamedOutputRefused.{NamedOutputRefused}
use Rattle.commands.specs.declared.refusals.NamedOutputRefused.TheVariants as outputs
use Rattle.commands.specs.declared.refusals.TextRefused.{TextRefused}
use Rattle.commands.specs.declared.refusals.TextRefused.TheVariants.{Vox, Script, Collides, NoScene, NoPlace, StoreFull, NoDag, Journal, Transcript, Memory}
use Rattle.requests.specs.declared.orders.Request.{Request}
use Rattle.script_files.specs.Commands.{meaning_of}
use Rattle.commands.specs.Outcomes.{Outcome}
use Rattle.std.proofs.Common.{zero}
use Rattle.script_files.specs.Closed.{Closed}
use Rattle.voxdag_top.specs.Numbers.{Status, Finished, Misuse, MissingInput, FailedInput, FaultyVox, FaultyScript, FailedOutput, LackingMemory, LongInput, NoSuchPlace, FaultyScene, FaultyJournal, FilledStore, FaultyDag, FaultyTranscript}
use Rattle.voxdag_top.specs.declared.endings.Ending.{Ending}
use Rattle.voxdag_top.specs.declared.endings.Ending.TheVariants.{Completed, Usage, Refused}
use Rattle.voxdag_top.specs.Lines.{done_line, usage_line, scene_line, no_place_line, full_line, dag_line, journal_line, transcript_line, vox_line, script_line, input_line, output_line, memory_line}

-- an ending of a command
abbrev pub CommandEnds : Ending → Request → ShelfState → ShelfState → Type 0
CommandEnds (Completed c) a old new = Outcome (meaning_of a) (Ok c) old new
CommandEnds Usage a old new = ⊥
CommandEnds (Refused r) a old new = Outcome (meaning_of a) (Err r) old new

-- words outside the grammar are told, unless memory was wanted before all of them were read
abbrev pub EndsUnread : Ending → Type 0
EndsUnread Usage = ⊤
EndsUnread (Refused (Text Memory)) = ⊤
EndsUnread _ = ⊥

-- and of what was asked for, which is nothing where the words are outside the grammar
abbrev pub EndsAs : Option Request → Ending → ShelfState → ShelfState → Type 0
EndsAs None e old new = EndsUnread e × (new ≡ old)
EndsAs (Some a) e old new = CommandEnds e a old new

abbrev pub input_status : ReadRefused → Status
input_status reads.Missing = MissingInput
input_status reads.Failed = FailedInput
input_status reads.Memory = LackingMemory
input_status reads.TooLong = LongInput

abbrev pub output_status : NamedOutputRefused → Status
output_status (outputs.Failed line) = FailedOutput
output_status outputs.Memory = LackingMemory

abbrev pub text_status : TextRefused → Status
text_status (Vox fault) = FaultyVox
text_status (Script at) = FaultyScript
text_status Collides = Misuse
text_status NoPlace = NoSuchPlace
text_status (NoScene fault) = FaultyScene
text_status (StoreFull full) = FilledStore
text_status (Journal line) = FaultyJournal
text_status (Transcript at) = FaultyTranscript
text_status (NoDag place) = FaultyDag
text_status Memory = LackingMemory

abbrev pub refused_status : CommandRefused → Status
refused_status (Input r) = input_status r.why
refused_status (Text r) = text_status r
refused_status (Output r) = output_status r

abbrev pub status_of : Ending → Status
status_of (Completed c) = Finished
status_of Usage = Misuse
status_of (Refused r) = refused_status r

abbrev pub text_line : TextRefused → List ℕ
text_line (Vox fault) = vox_line (kind_of fault) (position_of fault)
text_line (Script at) = script_line at.script at.fault.line (number_of_kind at.fault.kind)
text_line Collides = usage_line
text_line (NoScene fault) = scene_line (scene_kind_of fault) (place_of_fault fault)
text_line NoPlace = no_place_line
text_line (StoreFull full) = full_line full.level full.bucket
text_line (Journal line) = journal_line line
text_line (Transcript at) = transcript_line at.script at.line
text_line (NoDag place) = dag_line place
text_line Memory = memory_line

abbrev pub refused_line : CommandRefused → List ℕ
refused_line (Input r) = input_line r.why r.name.now
refused_line (Text r) = text_line r
refused_line (Output r) = output_line r

abbrev pub ending_line : Ending → List ℕ
ending_line (Completed c) = done_line c.done
ending_line Usage = usage_line
ending_line (Refused r) = refused_line r

-- the ending's line may lack memory, and then the one of want of memory stands for it: not at a
-- fault of an output, whose file may be half written
abbrev pub OutputMayLackLine : NamedOutputRefused → Type 0
OutputMayLackLine (outputs.Failed line) = ⊥
OutputMayLackLine outputs.Memory = ⊤

abbrev pub RefusalMayLackLine : CommandRefused → Type 0
RefusalMayLackLine (Input r) = ⊤
RefusalMayLackLine (Text r) = ⊤
RefusalMayLackLine (Output r) = OutputMayLackLine r

abbrev pub MayLackLine : Ending → Type 0
MayLackLine (Refused r) = RefusalMayLackLine r
MayLackLine _ = ⊤

-- else the ending holds its line
pub record HoldsOwnLine (e : Ending) (line : List ℕ) : Type 0 where
  pub is : line ≡ ending_line e
  pub status : status_of e ≡ FailedOutput

-- the closed world that is given with this status
abbrev pub ended_with : Ending → ℕ → Option Closed
ended_with (Completed c) zero = c.ended
ended_with _ _ = None
