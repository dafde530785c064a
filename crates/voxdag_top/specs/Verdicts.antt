-- Which status must come, for what the words ask of a shelf that tells its files.
use Rattle.std.specs.Prelude.{◌≡◌, ◌⊎◌, ℕ, List, false, Option, Some, None}
use Rattle.vw_io.specs.Outside.{Files}
use Rattle.requests.specs.declared.orders.Request.{Request}
use Rattle.commands.specs.Verdicts.{Verdict, Fine, LacksInput, InputIsLong, HasVoxFault, HasScriptFault, NamesCollide, HasNoPlace, HasSceneFault, HasDagFault, HasJournalFault, HasTranscriptFault}
use Rattle.commands.specs.declared.refusals.TextRefused.TheVariants.{StoreFull}
use Rattle.script_files.specs.Commands.{meaning_of}
use Rattle.commands.specs.Judging as commands
use Rattle.node_words.specs.declared.shares.Full.{Full}
use Rattle.voxdag_top.specs.Numbers.{Status, Finished, Misuse, MissingInput, FailedInput, FaultyVox, FaultyScript, FailedOutput, LongInput, NoSuchPlace, FaultyScene, FaultyJournal, FilledStore, FaultyDag, FaultyTranscript, IsOr, status_number}

-- whether it asks for texts alone of which it is computed what they say: not for a journal
abbrev pub ReadsNoJournal : Request → Type 0
ReadsNoJournal a = (meaning_of a).journal ≡ false

-- the first thing that is wrong with the inputs and the names, if anything is
abbrev pub JudgesWords : Option Request → Files → Verdict → Type 0
JudgesWords None files v = ⊥
JudgesWords (Some a) files v = commands.Judges (meaning_of a) files v

abbrev pub status_for : Verdict → Status
status_for Fine = Finished
status_for NamesCollide = Misuse
status_for (LacksInput name) = MissingInput
status_for (HasVoxFault fault) = FaultyVox
status_for (HasScriptFault at) = FaultyScript
status_for (InputIsLong name) = LongInput
status_for HasNoPlace = NoSuchPlace
status_for (HasSceneFault fault) = FaultyScene
status_for (HasDagFault place) = FaultyDag
status_for HasJournalFault = FaultyJournal
status_for HasTranscriptFault = FaultyTranscript

-- of a command with a store of its own, which some texts can fill
abbrev pub HasStore : Option Request → Type 0
HasStore None = ⊥
HasStore (Some a) =
    (texts : List (List ℕ)) × (full : Full) × (meaning_of a).refuses texts (StoreFull full)

-- the status of the verdict, or 7 or 8; where nothing is wrong, of a command with a store 13
abbrev pub MayCome : Option Request → Verdict → ℕ → Type 0
MayCome a v result =
    IsOr (status_for v) result
    ⊎ (HasStore a × (v ≡ Fine) × (result ≡ status_number FilledStore))

-- the status of a shelf that failed at an input; or, where nothing is wrong, at an output
abbrev pub HasFailedShelf : Verdict → ℕ → Type 0
HasFailedShelf v result =
    (result ≡ status_number FailedInput)
    ⊎ ((v ≡ Fine) × (result ≡ status_number FailedOutput))
