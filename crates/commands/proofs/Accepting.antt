-- The inputs of a command were taken: what holds of their texts, and how they are refused.
use Rattle.std.proofs.Common.{◌≡◌, ℕ, ◌≤◌, List, [], ◌∷◌, length, Option, Some, None, Err, refl}
use Rattle.vw_io.specs.Outside.{Files, ShelfState, KeepsFiles}
use Rattle.vw_io.specs.Inputs.{WantedInput, AreTaken}
use Rattle.vw_io.specs.Outputs.{AreWritten}
use Rattle.commands.specs.declared.refusals.CommandRefused.TheVariants.{Text}
use Rattle.commands.specs.declared.refusals.TextRefused.{TextRefused}
use Rattle.commands.specs.declared.refusals.TextRefused.TheVariants.{Memory}
use Rattle.commands.specs.Meanings.{Meaning, file_in}
use Rattle.commands.specs.Outcomes.{Outcome}

-- the first text is within the first input's limit
pub file_within : (files : Option Files) (input : WantedInput) (inputs : List WantedInput)
    (texts : List (List ℕ)) → AreTaken files (input ∷ inputs) texts
    → length (file_in texts) ≤ input.limit
file_within files input inputs [] taken = absurd taken
file_within files input inputs (text ∷ texts) taken = taken.0.within

-- nothing written is the shelf as it was
pub unwritten : (files : Option Files) → AreWritten [] files files
unwritten None = refl
unwritten (Some files) = record { each = λ name. refl }

keeps : (old new : ShelfState) → new.files ≡ old.files → old.faults ≤ new.faults
    → KeepsFiles old new
keeps old new files faults = record { files = files; never_falls = faults }

-- the inputs were taken, and their texts are refused
pub not_accepted : {T : Type 0} (m : Meaning T) (r : TextRefused) (texts : List (List ℕ))
    (old new : ShelfState) → AreTaken old.files m.inputs texts → m.refuses texts r
    → new.files ≡ old.files → old.faults ≤ new.faults → Outcome m (Err (Text r)) old new
not_accepted m Memory texts old new taken says files faults = (tt, keeps old new files faults)
not_accepted m r texts old new taken says files faults =
    (record { texts = texts; taken = taken; says = says }, keeps old new files faults)
