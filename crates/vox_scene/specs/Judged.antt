-- What a file says of its scene, but for the turned models: that there is one, or the first fault.
use Rattle.std.specs.Prelude.{◌≡◌, ℕ, List, Option, Some, None, Ok, Err}
use Rattle.vox_read.specs.Contents.{Content}
use Rattle.vox_read.specs.Files.{HasModels}
use Rattle.vox_scene.specs.declared.faults.SceneFault.{SceneFault}
use Rattle.vox_scene.specs.declared.rotations.Vector.{Vector}
use Rattle.vox_scene.specs.Placing.{SceneInstance, IsLeastCorner, IsTooLarge}
use Rattle.vox_scene.specs.Scenes.{HasInstances, ReadsScene}

-- the instances of the file, told from their least corner, are not too large
pub record IsPlaceable (bytes : List ℕ) : Type 0 where
  pub stands : List SceneInstance
  pub has : HasInstances bytes (Ok stands)
  pub least : Vector
  pub is_least : IsLeastCorner stands least
  pub small : IsTooLarge least stands → ⊥

-- the file has no fault, or this one first
abbrev pub JudgesScene : List ℕ → Option SceneFault → Type 0
JudgesScene bytes None = IsPlaceable bytes
JudgesScene bytes (Some fault) = ReadsScene bytes (Err fault)

-- a file whose models can be read says one of these, and one alone
abbrev pub ScenesAreJudged : Type 0
ScenesAreJudged = (bytes : List ℕ) (models : List Content) → HasModels bytes models
    → (found : Option SceneFault) × JudgesScene bytes found

abbrev pub ScenesAreJudgedOnce : Type 0
ScenesAreJudgedOnce = (bytes : List ℕ) (a b : Option SceneFault) → JudgesScene bytes a
    → JudgesScene bytes b → a ≡ b
