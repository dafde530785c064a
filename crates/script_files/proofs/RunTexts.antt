-- What is read of the texts of a run, or refused.
use Rattle.std.proofs.Common.{◌≡◌, ℕ, ◌<◌, List, [], ◌∷◌, length, get_or, Ok, refl, sym, ap, subst, ◌∙◌, arith}
use Rattle.vox_chunk.specs.declared.faults.VoxFault.{VoxFault}
use Rattle.vox_chunk.specs.declared.faults.VoxFault.TheVariants as faults
use Rattle.vox_read.specs.Contents.{Content}
use Rattle.vox_read.specs.Files.{ReadsModels}
use Rattle.vox_read.specs.Files as files
use Rattle.requests.specs.Orders.{Asked, asked_side}
use Rattle.commands.specs.declared.refusals.TextRefused.{TextRefused}
use Rattle.commands.specs.declared.refusals.TextRefused.TheVariants as texts
use Rattle.commands.specs.Meanings.{file_in, scripts_in}
use Rattle.commands.specs.Refusals.{of_vox, RefusesScripts}
use Rattle.commands.specs.Scripts.{lines_asked, scripts_of}
use Rattle.script_files.specs.declared.scripts.Read.{Read}
use Rattle.script_files.specs.Runs.{AreApart, RefusesRun}
use Rattle.script_files.specs.Stages.{ReadsInputs}

-- by the side of the run's world
pub read_by : (asked : Asked) (texts : List (List ℕ)) (side : ℕ) (r : Read)
    → side ≡ asked_side asked → ReadsModels (file_in texts) (Ok r.models)
    → scripts_of asked.tint side r.models (scripts_in texts) ≡ Ok r.scripts.items
    → AreApart asked r.scripts.items → ReadsInputs asked texts r
read_by asked texts side r same gives read apart = record {
  gives = gives;
  read = ap (λ (s : ℕ). scripts_of asked.tint s r.models (scripts_in texts)) (sym same) ∙ read;
  apart = apart;
}

-- what the scripts' texts are refused for, the run is refused for
pub scripts_refused : (r : TextRefused) (asked : Asked) (models : List Content)
    (texts : List (List ℕ)) → ReadsModels (file_in texts) (Ok models)
    → RefusesScripts r (lines_asked asked models (scripts_in texts))
    → RefusesRun asked texts r
scripts_refused (texts.Script at) asked models texts gives refuses =
    record { models = models; gives = gives; is_of_text = refuses.0; first = refuses.1 }
scripts_refused texts.Memory asked models texts gives refuses = tt
scripts_refused _ asked models texts gives refuses = absurd refuses

-- the same of scripts that were read by the side of the run's world
pub scripts_refused_by : (r : TextRefused) (asked : Asked) (side : ℕ) (models : List Content)
    (texts : List (List ℕ)) → side ≡ asked_side asked → ReadsModels (file_in texts) (Ok models)
    → RefusesScripts r (scripts_of asked.tint side models (scripts_in texts))
    → RefusesRun asked texts r
scripts_refused_by r asked side models texts same gives refuses =
    scripts_refused r asked models texts gives
    (subst (λ (s : ℕ). RefusesScripts r (scripts_of asked.tint s models (scripts_in texts))) same
    refuses)

-- a fault of the first text is the VOX file's
file_refused : (fault : VoxFault) (asked : Asked) (texts : List (List ℕ))
    → files.RefusesFile fault (file_in texts) → RefusesRun asked texts (of_vox fault)
file_refused faults.Memory asked texts refuses = tt
file_refused faults.NotVox asked texts refuses = refuses
file_refused _ asked texts refuses = refuses

pub first_refused : (fault : VoxFault) (asked : Asked) (texts : List (List ℕ)) (file : List ℕ)
    → file_in texts ≡ file → files.RefusesFile fault file
    → RefusesRun asked texts (of_vox fault)
first_refused fault asked texts file is refuses =
    file_refused fault asked texts (subst (files.RefusesFile fault) (sym is) refuses)

pub first_text : (texts : List (List ℕ)) (d : List ℕ) → 0 < length texts
    → file_in texts ≡ get_or texts 0 d
first_text [] d some = absurd (omega (arith, some))
first_text (file ∷ others) d some = refl
