-- Turned models are models that a file can hold.
use Rattle.std.proofs.Common.{◌≤◌, List, [], ◌∷◌, length, map, sym, subst, All, arith}
use Rattle.std.proofs.lemmas.List.{length-map}
use Rattle.std.proofs.lemmas.List.Elements.{All-nil, All-cons, All-head, All-tail}
use Rattle.std.proofs.lemmas.Slice.Zip.{AllZip-long}
use Rattle.vw_cell.specs.declared.cells.Cell.{Cell}
use Rattle.vox_read.specs.Contents.{Content, IsModelExtent, IsSize, IsModel, AreModels}
use Rattle.vox_scene.specs.declared.rotations.Axis.{Axis}
use Rattle.vox_scene.specs.declared.rotations.Axis.TheVariants.{X, Y, Z}
use Rattle.vox_scene.specs.declared.rotations.Rotation.{Rotation}
use Rattle.vox_scene.specs.Placing.{SceneInstance, IndexedInstance, instance_at, extent_at, rotated_size, IsRotated, AreRotated}
use Rattle.vox_scene.specs.Sound.{IsSound}

extent_fits : (axis : Axis) (size : Cell) → IsSize size → IsModelExtent (extent_at axis size)
extent_fits X size is = is.x
extent_fits Y size is = is.y
extent_fits Z size is = is.z

turned_is_size : (r : Rotation) (size : Cell) → IsSize size → IsSize (rotated_size r size)
turned_is_size r size is = record {
  x = extent_fits r.x.column size is;
  y = extent_fits r.y.column size is;
  z = extent_fits r.z.column size is;
}

turned_is_model : (s : SceneInstance) (m : Content) → IsSound s → IsRotated s.model s.axis_map m → IsModel m
turned_is_model s m sound turned = record {
  size = subst IsSize (sym turned.size) (turned_is_size s.axis_map s.model.size sound.model.size);
  voxels = turned.inside;
}

each_turned : (stands : List SceneInstance) (models : List Content) → All IsSound stands
    → AreRotated stands models → All IsModel models
each_turned [] [] sound turned = All-nil IsModel
each_turned [] (m ∷ models) sound turned = absurd turned
each_turned (s ∷ stands) [] sound turned = absurd turned
each_turned (s ∷ stands) (m ∷ models) sound turned =
    All-cons IsModel m models (turned_is_model s m (All-head IsSound s stands sound) turned.0)
    (each_turned stands models (All-tail IsSound s stands sound) turned.1)

pub turned_are_models : (file : List Content) (instanced : List IndexedInstance)
    (models : List Content) → length instanced ≤ 1024 → All IsSound (map (instance_at file) instanced)
    → AreRotated (map (instance_at file) instanced) models → AreModels models
turned_are_models file instanced models few sound turned =
    let long = AllZip-long (λ (s : SceneInstance) (m : Content). IsRotated s.model s.axis_map m)
    (map (instance_at file) instanced) models turned in
    let same = length-map instanced (instance_at file) in
    record {
      each = each_turned (map (instance_at file) instanced) models sound turned;
      few = omega (arith, few, long, same);
    }
