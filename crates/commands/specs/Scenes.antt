-- What the command `scene` tells and writes, or is refused for.
use Rattle.std.specs.Prelude.{◌≡◌, ℕ, ◌^◌, List, [], ◌∷◌, false, length, Option, Some, None, Ok, Err, ⊤}
use Rattle.vw_io.specs.Outputs.{Named}
use Rattle.vox_read.specs.Contents.{Content}
use Rattle.vox_read.specs.Files.{ReadsModels}
use Rattle.vox_write.specs.Written.{models_file}
use Rattle.vox_scene.specs.declared.faults.SceneFault.{SceneFault}
use Rattle.vox_scene.specs.Judged.{JudgesScene}
use Rattle.vox_scene.specs.Scenes.{SceneState, HasScene, ReadsScene}
use Rattle.vox_scene.specs.Written.{stamp_lines}
use Rattle.text_laws.specs.scenes.Building.{BuildsScene}
use Rattle.commands.specs.declared.refusals.TextRefused.{TextRefused}
use Rattle.commands.specs.declared.refusals.TextRefused.TheVariants.{Vox, NoScene, Memory}
use Rattle.commands.specs.declared.scene_files.SceneTally.{SceneTally}
use Rattle.commands.specs.Meanings.{Meaning, file_in}
use Rattle.requests.specs.Orders.{SceneAsked}
use Rattle.commands.specs.Inputs.{vox_input}
use Rattle.commands.specs.Verdicts.{Verdict, Fine, HasSceneFault, JudgesModels}

-- the numbers of a scene, the file of its turned models, and the script of their stamps
pub record TellsScene (scene : SceneState) (told : SceneTally) (models script : List ℕ) : Type 0
  where
    pub side : told.side ≡ 2 ^ scene.side
    pub number : told.placements ≡ length scene.places
    pub file : models ≡ models_file scene.models
    pub stamps : script ≡ stamp_lines 0 scene.places

-- the file has a scene, with these numbers, this file and this script; they are read as models and
-- as stamps, which make the scene of the empty world
pub record PlacesText (bytes : List ℕ) (told : SceneTally) (models script : List ℕ) : Type 0 where
  pub scene : SceneState
  pub has : HasScene bytes scene
  pub tells : TellsScene scene told models script
  pub builds : BuildsScene bytes scene.side models script

-- the turned models' file and the script are the outputs
pub record ScenePlaced (asked : SceneAsked) (bytes : List ℕ) (told : SceneTally)
    (outputs : List Named) : Type 0 where
  pub models : List ℕ
  pub script : List ℕ
  pub places : PlacesText bytes told models script
  pub are : outputs ≡ record { name = asked.out; bytes = models }
      ∷ record { name = asked.script; bytes = script } ∷ []

-- the same of a scene whose outputs were not all written
pub record SceneBegun (asked : SceneAsked) (bytes : List ℕ) (outputs : List Named) : Type 0 where
  pub told : SceneTally
  pub placed : ScenePlaced asked bytes told outputs

-- the file gives models, and this is the first fault of its scene
pub record LacksScene (bytes : List ℕ) (fault : SceneFault) : Type 0 where
  pub models : List Content
  pub gives : ReadsModels bytes (Ok models)
  pub first : ReadsScene bytes (Err fault)

-- what a refusal says of the file: want of memory says nothing
abbrev pub RefusesPlacing : List ℕ → TextRefused → Type 0
RefusesPlacing bytes (Vox fault) = ReadsModels bytes (Err fault)
RefusesPlacing bytes (NoScene fault) = LacksScene bytes fault
RefusesPlacing bytes Memory = ⊤
RefusesPlacing bytes _ = ⊥

-- whether the scene has a fault
abbrev pub verdict_of_scene : Option SceneFault → Verdict
verdict_of_scene None = Fine
verdict_of_scene (Some fault) = HasSceneFault fault

abbrev pub JudgesPlaces : List ℕ → Verdict → Type 0
JudgesPlaces bytes v =
    (found : Option SceneFault) × JudgesScene bytes found × (v ≡ verdict_of_scene found)

abbrev pub scene_means : SceneAsked → Meaning SceneTally
scene_means asked = record {
  inputs = vox_input asked.file ∷ [];
  gives = λ texts told outputs. ScenePlaced asked (file_in texts) told outputs;
  begins = λ texts outputs. SceneBegun asked (file_in texts) outputs;
  refuses = λ texts r. RefusesPlacing (file_in texts) r;
  judges = λ texts v. JudgesModels (λ models w. JudgesPlaces (file_in texts) w) (file_in texts) v;
  journal = false;
}
