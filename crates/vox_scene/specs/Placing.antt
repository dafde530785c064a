-- Where a scene places its turned models.
use Rattle.std.specs.Prelude.{◌≡◌, ℕ, ◌+◌, ◌-◌, ◌*◌, ◌/◌, ◌^◌, ◌<◌, ◌≤◌, ◌⊎◌, Bool, true, false, ℤ, pos, ◌+ℤ◌, ◌-ℤ◌, ◌≤ℤ◌, List, [], ◌∷◌, length, map, Result, Ok, Err, All, AllPairs, if◌then◌else◌, sum_by, slice_index_or}
use Rattle.std.specs.List.{AllZip, Contains}
use Rattle.vw_cell.specs.declared.cells.Cell.{Cell}
use Rattle.vw_cell.specs.Counts.{IsBelow}
use Rattle.vox_read.specs.Contents.{Content, colour_at, cells_in_size, IsInsideModel}
use Rattle.vox_read.specs.Places.{voxel_place, index_of}
use Rattle.vox_scene.specs.declared.faults.SceneFault.{SceneFault}
use Rattle.vox_scene.specs.declared.faults.SceneFault.TheVariants.{Memory}
use Rattle.vox_scene.specs.declared.nodes.Node.{Node}
use Rattle.vox_scene.specs.declared.rotations.Axis.{Axis}
use Rattle.vox_scene.specs.declared.rotations.Axis.TheVariants.{X, Y, Z}
use Rattle.vox_scene.specs.declared.rotations.Row.{Row}
use Rattle.vox_scene.specs.declared.rotations.Rotation.{Rotation}
use Rattle.vox_scene.specs.declared.rotations.Vector.{Vector}
use Rattle.vox_scene.specs.declared.rotations.Pose.{Pose}
use Rattle.vox_scene.specs.Rotations.{no_rotation, zero_shift}
use Rattle.vox_scene.specs.Walks.{PlacedModel, Progress}
use Rattle.vox_scene.specs.Walking.{all_visits, walked}

-- ---- a turned model

abbrev pub extent_at : Axis → Cell → ℕ
extent_at X c = c.x
extent_at Y c = c.y
extent_at Z c = c.z

-- the size of a turned model
abbrev pub rotated_size : Rotation → Cell → Cell
rotated_size r size = record {
  x = extent_at r.x.column size;
  y = extent_at r.y.column size;
  z = extent_at r.z.column size;
}

-- where a place goes on one axis: it stays, or is told from the other end
abbrev pub rotated_axis : Row → Cell → Cell → ℕ
rotated_axis row size p = if row.is_negative
    then extent_at row.column size - 1 - extent_at row.column p else extent_at row.column p

-- where a cell of a model goes
abbrev pub rotated_cell : Rotation → Cell → Cell → Cell
rotated_cell r size p = record {
  x = rotated_axis r.x size p;
  y = rotated_axis r.y size p;
  z = rotated_axis r.z size p;
}

-- the turned model has each cell of the model with its colour, and no other, by rising z, then y,
-- then x
pub record IsRotated (m : Content) (r : Rotation) (turned : Content) : Type 0 where
  pub size : turned.size ≡ rotated_size r m.size
  pub cells : (p : Cell) → IsBelow m.size p
      → colour_at turned.voxels (rotated_cell r m.size p) ≡ colour_at m.voxels p
  pub inside : All (IsInsideModel turned.size) turned.voxels
  pub coloured : All (λ v. 1 ≤ v.colour) turned.voxels
  pub ordered : AllPairs (λ v w. index_of turned.size (voxel_place v)
      < index_of turned.size (voxel_place w)) turned.voxels

-- ---- what stands where

-- a model, how it is turned, and where its least corner stands
pub record SceneInstance : Type 0 where
  pub model : Content
  pub axis_map : Rotation
  pub corner : Vector

abbrev pub no_model : Content
no_model = record { size = record { x = 0; y = 0; z = 0 }; voxels = [] }

-- a turned model's middle is where its pose leads, rounded down
abbrev pub instance_corner : Vector → Cell → Vector
instance_corner at size = record {
  x = at.x -ℤ pos (size.x / 2);
  y = at.y -ℤ pos (size.y / 2);
  z = at.z -ℤ pos (size.z / 2);
}

abbrev pub instance_with : Content → Pose → SceneInstance
instance_with m pose = record {
  model = m;
  axis_map = pose.axis_map;
  corner = instance_corner pose.at (rotated_size pose.axis_map m.size);
}

abbrev pub instance_of : List Content → PlacedModel → SceneInstance
instance_of models placed = instance_with (slice_index_or models placed.model no_model) placed.pose

-- without a node each model stands at the corner, unturned
abbrev pub alone : Content → SceneInstance
alone m = record { model = m; axis_map = no_rotation; corner = zero_shift }

abbrev pub instances_by : List Content → Result Progress SceneFault
    → Result (List SceneInstance) SceneFault
instances_by models (Ok progress) = Ok (map (instance_of models) progress.placed)
instances_by models (Err fault) = Err fault

abbrev pub instances_of : List Content → List Node → Result (List SceneInstance) SceneFault
instances_of models [] = Ok (map alone models)
instances_of models (first ∷ more) =
    instances_by models
    (walked (length models) (record { visited = 0; placed = [] }) (all_visits (first ∷ more)))

-- these are the turned models of the instances
abbrev pub AreRotated : List SceneInstance → List Content → Type 0
AreRotated stands models = AllZip (λ s m. IsRotated s.model s.axis_map m) stands models

-- ---- they are moved together into the least world

-- the least of some entries: all are at least it, and one is it
pub record IsLeast (entry : SceneInstance → ℤ) (stands : List SceneInstance)
    (least : ℤ) : Type 0 where
  pub below : All (λ s. least ≤ℤ entry s) stands
  pub met : (stands ≡ []) ⊎ ((s : SceneInstance) × Contains stands s × (entry s ≡ least))

-- the lesser one of the least of some entries, where there is any, and one more
abbrev pub IsLesser : Bool → ℤ → ℤ → ℤ → Type 0
IsLesser false least entry now = now ≡ entry
IsLesser true least entry now =
    ((now ≡ entry) × (entry ≤ℤ least)) ⊎ ((now ≡ least) × (least ≤ℤ entry))

pub record IsLeastCorner (stands : List SceneInstance) (least : Vector) : Type 0 where
  pub x : IsLeast (λ s. s.corner.x) stands least.x
  pub y : IsLeast (λ s. s.corner.y) stands least.y
  pub z : IsLeast (λ s. s.corner.z) stands least.z

-- the place is the instance's corner, told from the least one
pub record IsPlaced (least : Vector) (s : SceneInstance) (p : Cell) : Type 0 where
  pub x : least.x +ℤ pos p.x ≡ s.corner.x
  pub y : least.y +ℤ pos p.y ≡ s.corner.y
  pub z : least.z +ℤ pos p.z ≡ s.corner.z

-- the instance ends in the world of this side, whose corner is the least one
pub record EndsWithin (least : Vector) (side : ℕ) (s : SceneInstance) : Type 0 where
  pub x : (s.corner.x +ℤ pos (rotated_size s.axis_map s.model.size).x) ≤ℤ (least.x +ℤ pos side)
  pub y : (s.corner.y +ℤ pos (rotated_size s.axis_map s.model.size).y) ≤ℤ (least.y +ℤ pos side)
  pub z : (s.corner.z +ℤ pos (rotated_size s.axis_map s.model.size).z) ≤ℤ (least.z +ℤ pos side)

abbrev pub AllEndWithin : Vector → List SceneInstance → ℕ → Type 0
AllEndWithin least stands side = All (EndsWithin least side) stands

-- the least side, told by its exponent
pub record IsLeastSide (least : Vector) (stands : List SceneInstance) (exponent : ℕ) : Type 0 where
  pub low : 2 ≤ exponent
  pub high : exponent ≤ 12
  pub holds : AllEndWithin least stands (2 ^ exponent)
  pub no_lower : (e : ℕ) → 2 ≤ e → e < exponent → AllEndWithin least stands (2 ^ e) → ⊥

-- ---- how long the file of the turned models is

abbrev pub file_length : List SceneInstance → ℕ
file_length stands = 20 + sum_by (λ s. 40 + 4 * cells_in_size s.model) stands

-- an instance ends past 4,096, or the file is longer than 2^28
abbrev pub IsTooLarge : Vector → List SceneInstance → Type 0
IsTooLarge least stands =
    (AllEndWithin least stands 4096 → ⊥) ⊎ (268435456 < file_length stands)

-- ---- an instance whose model is told by its number in a list

pub record IndexedInstance : Type 0 where
  pub model : ℕ
  pub axis_map : Rotation
  pub corner : Vector

abbrev pub instance_at : List Content → IndexedInstance → SceneInstance
instance_at models s = record {
  model = slice_index_or models s.model no_model;
  axis_map = s.axis_map;
  corner = s.corner;
}

-- the same length, by the number of cells of each model
abbrev pub length_by : List ℕ → List IndexedInstance → ℕ
length_by counts instanced = 20 + sum_by (λ s. 40 + 4 * slice_index_or counts s.model 0) instanced

-- what is answered where this has to be: want of memory says nothing
abbrev pub GivesInstances : List Content → Result (List SceneInstance) SceneFault
    → Result (List IndexedInstance) SceneFault → Type 0
GivesInstances models wanted (Ok instanced) = wanted ≡ Ok (map (instance_at models) instanced)
GivesInstances models wanted (Err Memory) = Unit {0}
GivesInstances models wanted (Err fault) = wanted ≡ Err fault
