-- What it is to open the world that stands behind a VOX file's scene.
use Rattle.std.specs.Prelude.{◌≡◌, ◌≢◌, ℕ, zero, suc, ◌+◌, ◌^◌, ◌<◌, Bool, List, [], ◌∷◌, Option, Some, None, Err, length}
use Rattle.vw_cell.specs.declared.cells.Cell.{Cell}
use Rattle.vox_chunk.specs.declared.faults.VoxFault.{VoxFault}
use Rattle.vox_read.specs.Contents.{Content}
use Rattle.vox_read.specs.Files.{HasModels, ReadsModels}
use Rattle.vox_scene.specs.Faults.{scene_kind_of, place_of_fault}
use Rattle.vox_scene.specs.Scenes.{SceneState, HasScene, ReadsScene}
use Rattle.vox_scene.specs.declared.faults.SceneFault.{SceneFault}
use Rattle.vox_scene.specs.declared.faults.SceneFault.TheVariants as scenes
use Rattle.history_model.specs.declared.acts.Act.TheVariants.{Stamp}
use Rattle.history_model.specs.declared.histories.Record.{Record}
use Rattle.history_model.specs.Logs.{Log, IsLegal, side_of_world}
use Rattle.node_words.specs.declared.shares.Full.{Full}
use Rattle.node_words.specs.Plans.{Layout, usual_buckets}
use Rattle.store_run.specs.Replaying.{MayFillAlong}
use Rattle.dag_answers.specs.Legality.{IsFirstIllegal}
use Rattle.dag_answers.specs.declared.making.HistoryRefused.{HistoryRefused}
use Rattle.dag_answers.specs.declared.making.HistoryRefused.TheVariants as histories
use Rattle.voxdag_c.specs.declared.held.scenes.CScene.{CScene}
use Rattle.voxdag_c.specs.declared.held.worlds.CWorld.{CWorld}
use Rattle.voxdag_c.specs.held.Calls.{AreSideAndCap, AreSlots, act_of_kind}
use Rattle.voxdag_c.specs.held.GoingOn.{IsCapAsked}

-- ---- what was done, in a scene's world

-- the stamp of the model of this number, as what session 0 did as often before
abbrev pub stamp_record : Bool → ℕ → Cell → Record
stamp_record coloured n at =
    record { session = 0; line = n + 1; act = act_of_kind coloured (Stamp n at) }

-- the models from this number on are stamped, each where it stands
abbrev pub stamps_from : Bool → ℕ → List Cell → List Record
stamps_from coloured n [] = []
stamps_from coloured n (at ∷ more) =
    stamp_record coloured n at ∷ stamps_from coloured (n + 1) more

-- the history of a scene in a store whose side has this exponent
abbrev pub scene_log : Bool → ℕ → SceneState → Log
scene_log coloured store scene = record {
  side = store;
  coloured = coloured;
  records = stamps_from coloured 0 scene.places;
  marks = [];
}

-- ---- what is asked for

-- the side of the world in cells; 0 asks for the least that holds the scene
abbrev pub side_asked : ℕ → ℕ → ℕ
side_asked zero least = 2 ^ least
side_asked (suc n) least = suc n

-- a world can have this side, where it isn't 0, and its buckets so many slots
pub record IsSceneAsked (coloured : Bool) (side cap : ℕ) : Type 0 where
  pub is_a_side : side ≢ 0 → AreSideAndCap coloured side cap
  pub is_a_cap : IsCapAsked cap

-- the plan of the store of a world of this side
pub record IsStoreOf (coloured : Bool) (cells cap : ℕ) (p : Layout) : Type 0 where
  pub cells_are : side_of_world coloured (2 ^ p.side) ≡ cells
  pub buckets : p.buckets ≡ usual_buckets
  pub slots : AreSlots cap p.cap

-- ---- the world that is opened

-- the turned models of the scene are the world's, and each was stamped where it stands: a legal
-- history, which from now on keeps so many versions
pub record IsBehindScene (coloured : Bool) (p : Layout) (keep : ℕ) (scene : SceneState)
    (w : CWorld) : Type 0 where
  pub plan : w.open.plan ≡ p
  pub models : w.open.models ≡ scene.models
  pub log : w.open.log ≡ scene_log coloured p.side scene
  pub legal : IsLegal (2 ^ p.side) scene.models (scene_log coloured p.side scene)
  pub keep_is : w.keep ≡ keep
  pub line : w.line ≡ length scene.places + 1

-- the same of the file's scene, over the plan that is asked for
pub record IsSceneOpen (coloured : Bool) (side cap keep : ℕ) (bytes : List ℕ)
    (w : CWorld) : Type 0 where
  pub scene : SceneState
  pub has : HasScene bytes scene
  pub plan : Layout
  pub asked : IsStoreOf coloured (side_asked side scene.side) cap plan
  pub behind : IsBehindScene coloured plan keep scene w

-- what is told of a scene that is opened: how many models stand in it
abbrev pub stands_told : CWorld → CScene
stands_told w = record { placements = length w.open.log.records; kind = 0; at = 0 }

-- and of one that is refused: the number and the place of its first fault
abbrev pub fault_told : SceneFault → CScene
fault_told fault =
    record { placements = 0; kind = scene_kind_of fault; at = place_of_fault fault }

-- ---- refusals

-- why the bytes of a file have no models
pub data RefusesVox (bytes : List ℕ) : ℕ → Type 0 where
  too_long : 2 ^ 28 < length bytes → RefusesVox bytes 15
  bad_file : (fault : VoxFault) → ReadsModels bytes (Err fault) → RefusesVox bytes 15
  memory : RefusesVox bytes 2

-- the bytes have models, and this first fault of a scene
pub record HasSceneFault (bytes : List ℕ) (fault : SceneFault) : Type 0 where
  pub models : List Content
  pub has : HasModels bytes models
  pub says : ReadsScene bytes (Err fault)

-- why they have no scene: a fault of it is told, and else nothing is
pub data RefusesSceneIn (bytes : List ℕ) (old told : CScene) : ℕ → Type 0 where
  no_models : (status : ℕ) → RefusesVox bytes status → told ≡ old
      → RefusesSceneIn bytes old told status
  no_scene : (fault : SceneFault) → HasSceneFault bytes fault → told ≡ fault_told fault
      → RefusesSceneIn bytes old told 22
  memory : told ≡ old → RefusesSceneIn bytes old told 2

-- the number that C gets for a scene's fault, and what is told then
abbrev pub PutsSceneFault : SceneFault → CScene → CScene → ℕ → Type 0
PutsSceneFault scenes.Memory old new status = (new ≡ old) × (status ≡ 2)
PutsSceneFault fault old new status = (new ≡ fault_told fault) × (status ≡ 22)

-- the records of a scene may fill a bucket
pub record FillsScene (coloured : Bool) (p : Layout) (scene : SceneState) : Type 0 where
  pub legal : IsLegal (2 ^ p.side) scene.models (scene_log coloured p.side scene)
  pub bucket : Full
  pub fills : MayFillAlong p scene.models [] (stamps_from coloured 0 scene.places) bucket

-- why a scene doesn't come to stand in a store of this plan: a model leaves the world, or a bucket
-- is full, or memory lacks
pub data RefusesStamps (coloured : Bool) (p : Layout) (scene : SceneState) : ℕ → Type 0 where
  outside : (n : ℕ)
      → IsFirstIllegal (2 ^ p.side) scene.models (scene_log coloured p.side scene) n
      → RefusesStamps coloured p scene 3
  full : FillsScene coloured p scene → RefusesStamps coloured p scene 9
  memory : RefusesStamps coloured p scene 2

abbrev pub stamps_status : HistoryRefused → ℕ
stamps_status (histories.Illegal n) = 3
stamps_status (histories.Full bucket) = 9
stamps_status histories.Memory = 2

-- why no scene is opened. With tints the least side that holds it may be that of no world
pub data RefusesToOpen (coloured : Bool) (side cap : ℕ) (bytes : List ℕ) (old told : CScene)
    : ℕ → Type 0 where
  bad_plan : ¬ IsSceneAsked coloured side cap → told ≡ old
      → RefusesToOpen coloured side cap bytes old told 12
  no_scene : (status : ℕ) → IsSceneAsked coloured side cap → RefusesSceneIn bytes old told status
      → RefusesToOpen coloured side cap bytes old told status
  no_world : (scene : SceneState) → IsSceneAsked coloured side cap → HasScene bytes scene
      → ¬ AreSideAndCap coloured (side_asked side scene.side) cap → told ≡ old
      → RefusesToOpen coloured side cap bytes old told 3
  no_stamps : (scene : SceneState) (p : Layout) (status : ℕ) → IsSceneAsked coloured side cap
      → HasScene bytes scene → IsStoreOf coloured (side_asked side scene.side) cap p
      → RefusesStamps coloured p scene status → told ≡ old
      → RefusesToOpen coloured side cap bytes old told status
  memory : IsSceneAsked coloured side cap → told ≡ old
      → RefusesToOpen coloured side cap bytes old told 2

-- a scene is opened in a handle that holds no world
pub data OpensScene (coloured : Bool) (side cap keep : ℕ) (bytes : List ℕ) (old told : CScene)
    : Option CWorld → ℕ → Option CWorld → Type 0 where
  is_open : (w : CWorld) → told ≡ old
      → OpensScene coloured side cap keep bytes old told (Some w) 13 (Some w)
  refused : (status : ℕ) → RefusesToOpen coloured side cap bytes old told status
      → OpensScene coloured side cap keep bytes old told None status None
  opened : (w : CWorld) → IsSceneOpen coloured side cap keep bytes w → told ≡ stands_told w
      → OpensScene coloured side cap keep bytes old told None 0 (Some w)
