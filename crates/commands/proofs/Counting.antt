-- What a count tells, as an outcome of the whole command.
use Rattle.std.proofs.Common.{◌≡◌, ◌≤◌, ℕ, List, [], ◌∷◌, Option, Ok, Err, refl, sym, subst}
use Rattle.vw_io.specs.Outside.{Files, ShelfState}
use Rattle.vw_io.specs.Inputs.{AreTaken}
use Rattle.vw_io.specs.Outputs.{AreWritten}
use Rattle.commands.specs.declared.refusals.CommandRefused.TheVariants.{Text}
use Rattle.commands.specs.declared.refusals.TextRefused.{TextRefused}
use Rattle.commands.specs.Counts.{RefusesVox, count_means, CountsFile}
use Rattle.commands.specs.Meanings.{file_in}
use Rattle.commands.specs.Outcomes.{Outcome}
use Rattle.commands.specs.Inputs.{vox_input}
use Rattle.commands.proofs.Accepting.{not_accepted, unwritten}

pub counted : (file : List ℕ) (texts : List (List ℕ)) (number : ℕ) (old new : ShelfState)
    → AreTaken old.files (vox_input file ∷ []) texts → CountsFile (file_in texts) number
    → new.files ≡ old.files → old.faults ≤ new.faults
    → Outcome (count_means file) (Ok number) old new
counted file texts number old new taken counts files faults = record {
  texts = texts;
  taken = taken;
  outputs = [];
  gives = record {
    models = counts.models;
    gives = counts.gives;
    counted = counts.counted;
    none = refl;
  };
  whole = subst (λ (f : Option Files). AreWritten [] old.files f) (sym files)
      (unwritten old.files);
  never_falls = faults;
}

pub not_counted : (file : List ℕ) (texts : List (List ℕ)) (r : TextRefused) (old new : ShelfState)
    → AreTaken old.files (vox_input file ∷ []) texts → RefusesVox (file_in texts) r
    → new.files ≡ old.files → old.faults ≤ new.faults
    → Outcome (count_means file) (Err (Text r)) old new
not_counted file texts r old new taken says files faults =
    not_accepted (count_means file) r texts old new taken says files faults
