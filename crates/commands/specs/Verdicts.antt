-- What a command over told files has to come to, unless the shelf fails or memory is wanted.
use Rattle.std.specs.Prelude.{◌≡◌, ℕ, List, [], ◌∷◌, length, nat_lt, if◌then◌else◌, Option, Some, None, Result, Ok, Err, ⊤}
use Rattle.vw_io.specs.Outside.{Files}
use Rattle.vw_io.specs.Inputs.{WantedInput}
use Rattle.vw_io.specs.declared.shelves.ReadRefused.{ReadRefused}
use Rattle.vw_io.specs.declared.shelves.ReadRefused.TheVariants as reads
use Rattle.vox_chunk.specs.declared.faults.VoxFault.{VoxFault}
use Rattle.vox_read.specs.Contents.{Content}
use Rattle.vox_read.specs.Files.{ReadsModels}
use Rattle.vox_scene.specs.declared.faults.SceneFault.{SceneFault}
use Rattle.plain_text.specs.Steps.{◌>>=◌}
use Rattle.commands.specs.declared.refusals.NumberedFault.{NumberedFault}
use Rattle.commands.specs.declared.refusals.TextRefused.{TextRefused}
use Rattle.commands.specs.declared.refusals.TextRefused.TheVariants.{Vox, Script, Collides, NoScene, NoPlace, StoreFull, NoDag, Journal, Transcript, Memory}

-- the first thing that is wrong with the inputs and the names, if anything is
pub data Verdict : Type 0 where
  Fine : Verdict
  LacksInput : List ℕ → Verdict
  InputIsLong : List ℕ → Verdict
  HasVoxFault : VoxFault → Verdict
  HasScriptFault : NumberedFault → Verdict
  NamesCollide : Verdict
  HasNoPlace : Verdict
  HasSceneFault : SceneFault → Verdict
  HasDagFault : ℕ → Verdict
  HasJournalFault : Verdict
  HasTranscriptFault : Verdict

-- the verdict by which texts are refused so. A full store is no fault of the texts
abbrev pub verdict_by : TextRefused → Verdict
verdict_by (Vox fault) = HasVoxFault fault
verdict_by (Script at) = HasScriptFault at
verdict_by Collides = NamesCollide
verdict_by (NoScene fault) = HasSceneFault fault
verdict_by NoPlace = HasNoPlace
verdict_by (StoreFull full) = Fine
verdict_by (NoDag place) = HasDagFault place
verdict_by (Journal line) = HasJournalFault
verdict_by (Transcript at) = HasTranscriptFault
verdict_by Memory = Fine

-- ---- the inputs

-- the bytes of an input, where it can be taken
abbrev pub input_within : WantedInput → Option (List ℕ) → Result (List ℕ) Verdict
input_within input None = Err (LacksInput input.name)
input_within input (Some bytes) =
    if nat_lt input.limit (length bytes) then Err (InputIsLong input.name) else Ok bytes

-- the bytes of all inputs, or what is wrong with the first that can't be taken
abbrev pub inputs_at : Files → List WantedInput → Result (List (List ℕ)) Verdict
inputs_at files [] = Ok []
inputs_at files (input ∷ inputs) =
    input_within input (files input.name) >>= λ bytes. inputs_at files inputs
    >>= λ texts. Ok (bytes ∷ texts)

-- ---- a VOX file

-- what is judged of the models that it gives; else it is its first fault
abbrev pub JudgesReading : (List Content → Verdict → Type 0) → Result (List Content) VoxFault
    → Verdict → Type 0
JudgesReading more (Err fault) v = v ≡ HasVoxFault fault
JudgesReading more (Ok models) v = more models v

pub record JudgesModels (more : List Content → Verdict → Type 0) (bytes : List ℕ) (v : Verdict)
    : Type 0 where
  pub reading : Result (List Content) VoxFault
  pub says : ReadsModels bytes reading
  pub judged : JudgesReading more reading v

-- ---- the answer is the one of this verdict, or that the shelf failed, or want of memory

abbrev pub FollowsRead : Verdict → ReadRefused → List ℕ → Type 0
FollowsRead v reads.Missing name = v ≡ LacksInput name
FollowsRead v reads.TooLong name = v ≡ InputIsLong name
FollowsRead v reads.Failed name = ⊤
FollowsRead v reads.Memory name = ⊤

abbrev pub FollowsText : Verdict → TextRefused → Type 0
FollowsText v Memory = ⊤
FollowsText v r = v ≡ verdict_by r
