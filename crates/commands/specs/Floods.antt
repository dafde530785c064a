-- What a flood tells and writes, or is refused for.
use Rattle.std.specs.Prelude.{◌≡◌, ℕ, ◌≤◌, ◌⊎◌, List, [], ◌∷◌, Bool, false, if◌then◌else◌, Ok, Err, ⊤}
use Rattle.vw_io.specs.Outputs.{Named}
use Rattle.vw_cell.specs.declared.cells.Cell.{Cell}
use Rattle.vw_cell.specs.Counts.{cell_at}
use Rattle.vox_read.specs.Contents.{Content}
use Rattle.vox_read.specs.Files.{ReadsModels}
use Rattle.node_words.specs.declared.shares.Full.{Full}
use Rattle.flood.specs.Models.{has_place, FloodsModel, MayFillStore}
use Rattle.commands.specs.declared.refusals.TextRefused.{TextRefused}
use Rattle.commands.specs.declared.refusals.TextRefused.TheVariants.{Vox, NoPlace, StoreFull, Memory}
use Rattle.commands.specs.Meanings.{Meaning, file_in}
use Rattle.requests.specs.Orders.{FloodAsked}
use Rattle.commands.specs.Inputs.{vox_input}
use Rattle.commands.specs.Verdicts.{Verdict, Fine, HasNoPlace, JudgesModels}

-- the place from which is flooded
abbrev pub flood_start : FloodAsked → Cell
flood_start asked = cell_at asked.x asked.y asked.z

abbrev pub has_start_place : FloodAsked → List Content → Bool
has_start_place asked models = has_place models asked.model (flood_start asked)

-- no model can have the place
abbrev pub IsFar : FloodAsked → Type 0
IsFar asked = (256 ≤ asked.x) ⊎ ((256 ≤ asked.y) ⊎ (256 ≤ asked.z))

-- the file gives models, one of which has the place, whose region has so many cells and this file
pub record FloodsText (asked : FloodAsked) (bytes : List ℕ) (number : ℕ)
    (file : List ℕ) : Type 0 where
  pub models : List Content
  pub gives : ReadsModels bytes (Ok models)
  pub floods : FloodsModel models asked.model (flood_start asked) number file

-- the file gives models, one of which has the place; the number is that of the cells of the place's
-- region, whose file is the one output
pub record RegionFlooded (asked : FloodAsked) (bytes : List ℕ) (number : ℕ)
    (outputs : List Named) : Type 0 where
  pub file : List ℕ
  pub floods : FloodsText asked bytes number file
  pub are : outputs ≡ record { name = asked.out; bytes = file } ∷ []

-- the same of a flood whose output was not written
pub record RegionBegun (asked : FloodAsked) (bytes : List ℕ) (outputs : List Named) : Type 0 where
  pub number : ℕ
  pub flooded : RegionFlooded asked bytes number outputs

-- the file gives models, and none that is asked for has the place
pub record LacksPlace (asked : FloodAsked) (bytes : List ℕ) : Type 0 where
  pub models : List Content
  pub gives : ReadsModels bytes (Ok models)
  pub lacks : has_start_place asked models ≡ false

-- the file gives models, one of which has the place, and its stamp can fill this bucket
pub record FillsStore (asked : FloodAsked) (bytes : List ℕ) (full : Full) : Type 0 where
  pub models : List Content
  pub gives : ReadsModels bytes (Ok models)
  pub fills : MayFillStore models asked.model (flood_start asked) full

-- what a refusal says of the file, and of the models that it gives: want of memory says nothing
abbrev pub RefusesFlooding : FloodAsked → List ℕ → TextRefused → Type 0
RefusesFlooding asked bytes (Vox fault) = ReadsModels bytes (Err fault)
RefusesFlooding asked bytes NoPlace = LacksPlace asked bytes
RefusesFlooding asked bytes (StoreFull full) = FillsStore asked bytes full
RefusesFlooding asked bytes Memory = ⊤
RefusesFlooding asked bytes _ = ⊥

abbrev pub RefusesStart : FloodAsked → List Content → TextRefused → Type 0
RefusesStart asked models NoPlace = has_start_place asked models ≡ false
RefusesStart asked models (StoreFull full) =
    MayFillStore models asked.model (flood_start asked) full
RefusesStart asked models Memory = ⊤
RefusesStart asked models _ = ⊥

-- whether the place is there
abbrev pub verdict_of_place : FloodAsked → List Content → Verdict
verdict_of_place asked models = if has_start_place asked models then Fine else HasNoPlace

abbrev pub flood_means : FloodAsked → Meaning ℕ
flood_means asked = record {
  inputs = vox_input asked.file ∷ [];
  gives = λ texts number outputs. RegionFlooded asked (file_in texts) number outputs;
  begins = λ texts outputs. RegionBegun asked (file_in texts) outputs;
  refuses = λ texts r. RefusesFlooding asked (file_in texts) r;
  judges = λ texts v. JudgesModels (λ models w. w ≡ verdict_of_place asked models) (file_in texts)
      v;
  journal = false;
}
