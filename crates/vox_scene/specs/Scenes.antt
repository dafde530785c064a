-- What scene a file has, or its first fault.
use Rattle.std.specs.Prelude.{◌≡◌, ℕ, ◌⊎◌, List, Result, Ok, Err}
use Rattle.std.specs.List.{AllZip}
use Rattle.vw_cell.specs.declared.cells.Cell.{Cell}
use Rattle.vox_read.specs.Contents.{Content}
use Rattle.vox_read.specs.Files.{HasModels}
use Rattle.vox_scene.specs.declared.faults.SceneFault.{SceneFault}
use Rattle.vox_scene.specs.declared.faults.SceneFault.TheVariants.{TooLarge, Memory}
use Rattle.vox_scene.specs.declared.nodes.Node.{Node}
use Rattle.vox_scene.specs.declared.rotations.Vector.{Vector}
use Rattle.vox_scene.specs.Reading.{AreNodes, IsFirstNodeFault}
use Rattle.vox_scene.specs.Placing.{SceneInstance, AreRotated, IsPlaced, IsLeastCorner, IsLeastSide, IsTooLarge, instances_of}

-- the exponent of the side, the turned models, and where each stands
pub record SceneState : Type 0 where
  pub side : ℕ
  pub models : List Content
  pub places : List Cell

-- the file's models and nodes, and what stands where
pub record HasInstances (bytes : List ℕ)
    (says : Result (List SceneInstance) SceneFault) : Type 0 where
  pub models : List Content
  pub has : HasModels bytes models
  pub nodes : List Node
  pub are : AreNodes bytes nodes
  pub walked : instances_of models nodes ≡ says

-- these instances make this scene
pub record IsSceneOf (stands : List SceneInstance) (scene : SceneState) : Type 0 where
  pub least : Vector
  pub is_least : IsLeastCorner stands least
  pub small : IsTooLarge least stands → ⊥
  pub side : IsLeastSide least stands scene.side
  pub turned : AreRotated stands scene.models
  pub placed : AllZip (IsPlaced least) stands scene.places

pub record HasScene (bytes : List ℕ) (scene : SceneState) : Type 0 where
  pub stands : List SceneInstance
  pub has : HasInstances bytes (Ok stands)
  pub is : IsSceneOf stands scene

-- told from their least corner, these instances are too large
pub record HasLarge (stands : List SceneInstance) : Type 0 where
  pub least : Vector
  pub is_least : IsLeastCorner stands least
  pub large : IsTooLarge least stands

pub record HasTooLarge (bytes : List ℕ) : Type 0 where
  pub stands : List SceneInstance
  pub has : HasInstances bytes (Ok stands)
  pub is : HasLarge stands

-- what the file says: its scene; or the first node that breaks a rule; or, without one, the first
-- visit that does; or, without one, that the scene is too large
abbrev pub ReadsScene : List ℕ → Result SceneState SceneFault → Type 0
ReadsScene bytes (Ok scene) = HasScene bytes scene
ReadsScene bytes (Err TooLarge) = HasTooLarge bytes
ReadsScene bytes (Err fault) = IsFirstNodeFault bytes fault ⊎ HasInstances bytes (Err fault)

-- what a refusal says of the file: want of memory says nothing
abbrev pub RefusesScene : SceneFault → List ℕ → Type 0
RefusesScene Memory bytes = Unit {0}
RefusesScene fault bytes = ReadsScene bytes (Err fault)
