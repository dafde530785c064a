-- What a run makes of the outputs of a scene.
use Rattle.std.specs.Prelude.{◌≡◌, ◌↔◌, ℕ, ◌+◌, ◌^◌, ◌≤◌, true, false, pos, ◌+ℤ◌, List, [], ◌∷◌, length, Ok}
use Rattle.std.specs.List.{AllZip, Contains}
use Rattle.vw_cell.specs.declared.cells.Cell.{Cell}
use Rattle.vw_cell.specs.Counts.{IsBelow}
use Rattle.vw_cell.specs.Places.{FitsAt}
use Rattle.vox_read.specs.Contents.{Content, AreModels, is_cell}
use Rattle.vox_read.specs.Files.{ReadsModels}
use Rattle.vox_write.specs.Written.{chunks_length, models_file}
use Rattle.history_model.specs.declared.acts.Act.{Act}
use Rattle.history_model.specs.declared.acts.Act.TheVariants.{Stamp}
use Rattle.history_model.specs.Worlds.{World, nothing, edited}
use Rattle.script.specs.Scripts.{commands_of}
use Rattle.text_laws.specs.loads.Commands.{edit_lines}
use Rattle.vox_scene.specs.declared.rotations.Vector.{Vector}
use Rattle.vox_scene.specs.Placing.{SceneInstance, IsLeastCorner, rotated_cell}
use Rattle.vox_scene.specs.Scenes.{SceneState, HasInstances, HasScene}
use Rattle.vox_scene.specs.Written.{stamp_lines}

-- the stamps of models at these places, the models numbered from this one on
abbrev pub stamps_from : ℕ → List Cell → List Act
stamps_from i [] = []
stamps_from i (at ∷ more) = Stamp i at ∷ stamps_from (i + 1) more

-- each model lies in the world of this side, with its least corner at its place
abbrev pub AllFitAt : ℕ → List Content → List Cell → Type 0
AllFitAt side models places = AllZip (λ m at. FitsAt at m.size side) models places

-- the script of stamps is read as them, one a line
abbrev pub StampsAreRead : Type 0
StampsAreRead =
    (side : ℕ) (models : List Content) (places : List Cell) → side ≤ 12 → length models ≤ 1024
    → AllFitAt (2 ^ side) models places
    → commands_of false side models (stamp_lines 0 places)
    ≡ Ok (edit_lines 1 (stamps_from 0 places))

-- ---- the cells

-- the world behind these edits, one after the other
abbrev pub edited_by : List Content → List Act → World → World
edited_by models [] before = before
edited_by models (act ∷ acts) before = edited_by models acts (edited models act before)

-- the cell is where a cell of the instance's model stands, turned and told from the scene's least
-- corner
pub record IsCellOf (least : Vector) (p : Cell) (s : SceneInstance) : Type 0 where
  pub from : Cell
  pub inside : IsBelow s.model.size from
  pub set : is_cell s.model.voxels from ≡ true
  pub x : least.x +ℤ pos p.x ≡ s.corner.x +ℤ pos (rotated_cell s.axis_map s.model.size from).x
  pub y : least.y +ℤ pos p.y ≡ s.corner.y +ℤ pos (rotated_cell s.axis_map s.model.size from).y
  pub z : least.z +ℤ pos p.z ≡ s.corner.z +ℤ pos (rotated_cell s.axis_map s.model.size from).z

abbrev pub IsPlacedCell : Vector → List SceneInstance → Cell → Type 0
IsPlacedCell least stands p = (s : SceneInstance) × Contains stands s × IsCellOf least p s

-- the world's cells are those of the file's placed models, told from their least corner
pub record ShowsScene (bytes : List ℕ) (world : World) : Type 0 where
  pub stands : List SceneInstance
  pub has : HasInstances bytes (Ok stands)
  pub least : Vector
  pub is_least : IsLeastCorner stands least
  pub cells : (p : Cell) → (world p ≡ true) ↔ IsPlacedCell least stands p

-- a file of models is read as some, a script as stamps of them in a world of this side, and these
-- stamps make the scene of the empty world
pub record BuildsScene (bytes : List ℕ) (side : ℕ) (models script : List ℕ) : Type 0 where
  pub given : List Content
  pub gives : ReadsModels models (Ok given)
  pub stamps : List Act
  pub read : commands_of false side given script ≡ Ok (edit_lines 1 stamps)
  pub shows : ShowsScene bytes (edited_by given stamps nothing)

-- what is written of a scene builds it
abbrev pub ScenesAreBuilt : Type 0
ScenesAreBuilt =
    (bytes : List ℕ) (scene : SceneState) → HasScene bytes scene → AreModels scene.models
    → 20 + chunks_length scene.models ≤ 2 ^ 28
    → BuildsScene bytes scene.side (models_file scene.models) (stamp_lines 0 scene.places)
