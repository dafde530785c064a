-- What comes of a file's scene.
use Rattle.std.proofs.Common.{◌≡◌, ◌≢◌, Bool, true, false, ℕ, zero, suc, ◌+◌, ◌^◌, ◌<◌, ◌≤◌, List, [], ◌∷◌, ◌++◌, Option, Some, None, length, length-take, take, get_or, refl, sym, ap, subst, ◌∙◌, arith}
use Rattle.std.specs.Prelude.{Result, Ok, Err, IfOk, IfErr, All}
use Rattle.std.specs.Global.{Box}
use Rattle.std.specs.List.{AllZip, AllByRecursion}
use Rattle.std.proofs.lemmas.Bool.{false≢true}
use Rattle.std.proofs.lemmas.List.{take_more}
use Rattle.std.proofs.lemmas.List.Elements.{All-nil, All-from_recursion}
use Rattle.vw_cell.specs.declared.cells.Cell.{Cell}
use Rattle.vox_chunk.specs.declared.faults.VoxFault.{VoxFault}
use Rattle.vox_chunk.specs.declared.faults.VoxFault.TheVariants.{NotVox, Version, NoMain, Truncated, ShortSize, SizeRange, XyziWithoutSize, ShortXyzi, VoxelOutside, TooManyModels, Memory}
use Rattle.vox_read.specs.Contents.{Content, AreModels}
use Rattle.vox_read.specs.Files.{HasModels, RefusesFile}
use Rattle.vox_scene.specs.Placing.{IsRotated, IsPlaced}
use Rattle.vox_scene.specs.Scenes.{SceneState, HasScene, RefusesScene}
use Rattle.vox_scene.specs.declared.faults.SceneFault.{SceneFault}
use Rattle.vox_scene.specs.declared.faults.SceneFault.TheVariants as scenes
use Rattle.history_model.specs.declared.histories.Record.{Record}
use Rattle.history_model.specs.declared.histories.Mark.{Mark}
use Rattle.history_model.specs.Logs.{Log, IsLegal, side_of_world, suits_tints}
use Rattle.node_words.specs.Plans.{Layout, usual_buckets}
use Rattle.store_run.specs.Marked.{AreLegalMarks}
use Rattle.store_run.specs.Replaying.{AreLegalRecords}
use Rattle.dag_answers.specs.declared.making.HistoryRefused.{HistoryRefused}
use Rattle.dag_answers.specs.declared.making.HistoryRefused.TheVariants as histories
use Rattle.dag_answers.specs.Histories.{RefusesHistoryOver}
use Rattle.dag_answers.proofs.LegalLaws.{legal_whole}
use Rattle.voxdag_c.specs.declared.held.scenes.CScene.{CScene}
use Rattle.voxdag_c.specs.declared.held.worlds.CWorld.{CWorld}
use Rattle.voxdag_c.specs.held.Calls.{AreSideAndCap, AreSlots, status_of_file}
use Rattle.voxdag_c.specs.held.Scenes.{HasSceneFault, IsBehindScene, IsSceneAsked, IsSceneOpen, IsStoreOf, OpensScene, PutsSceneFault, RefusesSceneIn, RefusesStamps, RefusesToOpen, RefusesVox, fault_told, scene_log, side_asked, stamp_record, stamps_from, stamps_status, stands_told}

-- ---- what is asked for

pub least_asked : (side least : ℕ) → side ≡ 0 → 2 ^ least ≡ side_asked side least
least_asked zero least is = refl
least_asked (suc n) least is = absurd (omega (arith, is))

pub given_asked : (side least : ℕ) → side ≢ 0 → side ≡ side_asked side least
given_asked zero least isnt = absurd (isnt refl)
given_asked (suc n) least isnt = refl

-- ---- the stamps

stamps_more : (c : Bool) (k : ℕ) (xs : List Cell) (x : Cell)
    → stamps_from c k (xs ++ x ∷ []) ≡ stamps_from c k xs ++ stamp_record c (k + length xs) x ∷ []
stamps_more c k [] x = ap (λ (n : ℕ). stamp_record c n x ∷ []) (omega arith)
stamps_more c k (y ∷ more) x =
    ap (λ (t : List Record). stamp_record c k y ∷ t) (stamps_more c (k + 1) more x)
    ∙ ap (λ (n : ℕ). stamp_record c k y ∷ (stamps_from c (k + 1) more ++ stamp_record c n x ∷ []))
    (omega arith)

pub stamps_taken : (c : Bool) (places : List Cell) (i : ℕ) (d : Cell) → i < length places
    → stamps_from c 0 (take (i + 1) places)
    ≡ stamps_from c 0 (take i places) ++ stamp_record c i (get_or places i d) ∷ []
stamps_taken c places i d lt =
    ap (λ (l : List Cell). stamps_from c 0 l) (take_more places i d lt)
    ∙ stamps_more c 0 (take i places) (get_or places i d)
    ∙ ap (λ (n : ℕ). stamps_from c 0 (take i places) ++ stamp_record c n (get_or places i d) ∷ [])
    (let h = length-take i places in omega (arith, h, lt))

stamp_suits : (c : Bool) (n : ℕ) (at : Cell) → suits_tints c (stamp_record c n at).act ≡ true
stamp_suits true n at = refl
stamp_suits false n at = refl

suits_from : (c : Bool) (n : ℕ) (places : List Cell)
    → AllByRecursion (λ r. suits_tints c r.act ≡ true) (stamps_from c n places)
suits_from c n [] = tt
suits_from c n (at ∷ more) = (stamp_suits c n at, suits_from c (n + 1) more)

pub stamps_suit : (c : Bool) (places : List Cell) (rs : List Record) → rs ≡ stamps_from c 0 places
    → All (λ r. suits_tints c r.act ≡ true) rs
stamps_suit c places rs are =
    subst (λ (l : List Record). All (λ r. suits_tints c r.act ≡ true) l) (sym are)
    (All-from_recursion (λ r. suits_tints c r.act ≡ true) (stamps_from c 0 places)
    (suits_from c 0 places))

pub no_marks : (count : ℕ) → AreLegalMarks count []
no_marks count = record {
  rising = λ i j d lt within. absurd (omega (arith, within));
  marked = All-nil (λ (m : Mark). (m.version < m.at) × (m.at ≤ count));
}

-- ---- a scene has as many models as places

zip_length : {A B : Type 0} (R : A → B → Type 0) (xs : List A) (ys : List B) → AllZip R xs ys
    → length xs ≡ length ys
zip_length R [] [] zips = refl
zip_length R [] (b ∷ ys) zips = absurd zips
zip_length R (a ∷ xs) [] zips = absurd zips
zip_length R (a ∷ xs) (b ∷ ys) zips = ap suc (zip_length R xs ys zips.1)

pub few_places : (bytes : List ℕ) (scene : SceneState) → HasScene bytes scene
    → AreModels scene.models → length scene.places ≤ 1024
few_places bytes scene has are =
    let is = has.is in
    let models =
    zip_length (λ s m. IsRotated s.model s.axis_map m) has.stands scene.models is.turned in
    let places = zip_length (IsPlaced is.least) has.stands scene.places is.placed in
    let few = are.few in
    omega (arith, models, places, few)

-- ---- refusals of a file

vox_fault : (fault : VoxFault) (bytes : List ℕ) → RefusesFile fault bytes
    → RefusesVox bytes (status_of_file fault)
vox_fault Memory bytes r = RefusesVox.memory
vox_fault NotVox bytes r = RefusesVox.bad_file NotVox r
vox_fault (Version n) bytes r = RefusesVox.bad_file (Version n) r
vox_fault NoMain bytes r = RefusesVox.bad_file NoMain r
vox_fault (Truncated n) bytes r = RefusesVox.bad_file (Truncated n) r
vox_fault (ShortSize n) bytes r = RefusesVox.bad_file (ShortSize n) r
vox_fault (SizeRange n) bytes r = RefusesVox.bad_file (SizeRange n) r
vox_fault (XyziWithoutSize n) bytes r = RefusesVox.bad_file (XyziWithoutSize n) r
vox_fault (ShortXyzi n) bytes r = RefusesVox.bad_file (ShortXyzi n) r
vox_fault (VoxelOutside n) bytes r = RefusesVox.bad_file (VoxelOutside n) r
vox_fault (TooManyModels n) bytes r = RefusesVox.bad_file (TooManyModels n) r

pub vox_refused : (fault : VoxFault) (bytes : List ℕ) (status : ℕ) → status ≡ status_of_file fault
    → RefusesFile fault bytes → RefusesVox bytes status
vox_refused fault bytes status eq r =
    subst (λ (n : ℕ). RefusesVox bytes n) (sym eq) (vox_fault fault bytes r)

-- ---- refusals of a scene

module _ (bytes : List ℕ) (models : List Content) (has : HasModels bytes models)
    (old new : CScene) where
  found : (fault : SceneFault) (status : ℕ) → HasSceneFault bytes fault
      → (new ≡ fault_told fault) × (status ≡ 22) → RefusesSceneIn bytes old new status
  found fault status is puts =
      subst (λ (n : ℕ). RefusesSceneIn bytes old new n) (sym puts.1)
      (RefusesSceneIn.no_scene fault is puts.0)

  pub scene_refused : (fault : SceneFault) (status : ℕ) → RefusesScene fault bytes
      → PutsSceneFault fault old new status → RefusesSceneIn bytes old new status
  scene_refused scenes.Memory status says puts =
      subst (λ (n : ℕ). RefusesSceneIn bytes old new n) (sym puts.1)
      (RefusesSceneIn.memory puts.0)
  scene_refused (scenes.ShortNode at) status says puts = found (scenes.ShortNode at) status
      (record { models = models; has = has; says = says }) puts
  scene_refused (scenes.TwoNodes at) status says puts = found (scenes.TwoNodes at) status
      (record { models = models; has = has; says = says }) puts
  scene_refused (scenes.BadRotation at) status says puts = found (scenes.BadRotation at) status
      (record { models = models; has = has; says = says }) puts
  scene_refused (scenes.BadTranslation at) status says puts =
      found (scenes.BadTranslation at) status
      (record { models = models; has = has; says = says }) puts
  scene_refused (scenes.NoNode at) status says puts = found (scenes.NoNode at) status
      (record { models = models; has = has; says = says }) puts
  scene_refused (scenes.TooDeep at) status says puts = found (scenes.TooDeep at) status
      (record { models = models; has = has; says = says }) puts
  scene_refused (scenes.NoModel at) status says puts = found (scenes.NoModel at) status
      (record { models = models; has = has; says = says }) puts
  scene_refused (scenes.TooMany at) status says puts = found (scenes.TooMany at) status
      (record { models = models; has = has; says = says }) puts
  scene_refused scenes.TooLarge status says puts = found scenes.TooLarge status
      (record { models = models; has = has; says = says }) puts

-- ---- the world behind a scene

module _ (c : Bool) (p : Layout) (scene : SceneState) (rs : List Record)
    (are : rs ≡ stamps_from c 0 scene.places) where
  same_log : record { side = p.side; coloured = c; records = rs; marks = [] }
      ≡ scene_log c p.side scene
  same_log = ap
      (λ (l : List Record). record { side = p.side; coloured = c; records = l; marks = [] }) are

  legal_log : AreLegalRecords (2 ^ p.side) scene.models [] rs
      → IsLegal (2 ^ p.side) scene.models (scene_log c p.side scene)
  legal_log records =
      legal_whole scene.models (scene_log c p.side scene)
      (no_marks (length (stamps_from c 0 scene.places)))
      (subst (λ (l : List Record). AreLegalRecords (2 ^ p.side) scene.models [] l) are records)

  pub behind : (keep : ℕ) (w : CWorld) → w.open.plan ≡ p → w.open.models ≡ scene.models
      → w.open.log ≡ record { side = p.side; coloured = c; records = rs; marks = [] }
      → AreLegalRecords (2 ^ p.side) scene.models [] rs → w.keep ≡ keep
      → w.line ≡ length scene.places + 1 → IsBehindScene c p keep scene w
  behind keep w plan models log legal kept line = record {
    plan = plan;
    models = models;
    log = log ∙ same_log;
    legal = legal_log legal;
    keep_is = kept;
    line = line;
  }

  -- the history may be told in other words
  pub stamps_refused : (models : List Content) (log : Log) (why : HistoryRefused) (status : ℕ)
      → models ≡ scene.models
      → log ≡ record { side = p.side; coloured = c; records = rs; marks = [] }
      → status ≡ stamps_status why → RefusesHistoryOver p models log why
      → RefusesStamps c p scene status
  stamps_refused models log why status same is eq says =
      subst (λ (n : ℕ). RefusesStamps c p scene n) (sym eq)
      (go why
      (subst (λ (l : Log). RefusesHistoryOver p scene.models l why) (is ∙ same_log)
      (subst (λ (ms : List Content). RefusesHistoryOver p ms log why) same says)))
    where
      go : (why : HistoryRefused)
          → RefusesHistoryOver p scene.models (scene_log c p.side scene) why
          → RefusesStamps c p scene (stamps_status why)
      go (histories.Illegal n) first = RefusesStamps.outside n first
      go (histories.Full bucket) full = RefusesStamps.full
          (record {
            legal = legal_whole scene.models (scene_log c p.side scene)
                (no_marks (length (stamps_from c 0 scene.places))) full.0;
            bucket = bucket;
            fills = full.1;
          })
      go histories.Memory memory = RefusesStamps.memory

-- ---- the world that is opened

pub no_side : (c : Bool) (side least cells cap : ℕ) → cells ≡ side_asked side least
    → (AreSideAndCap c cells cap → false ≡ true) → ¬ AreSideAndCap c (side_asked side least) cap
no_side c side least cells cap is none are =
    false≢true (none (subst (λ (n : ℕ). AreSideAndCap c n cap) (sym is) are))

pub store_asked : (c : Bool) (side least cells cap : ℕ) (p : Layout) → cells ≡ side_asked side least
    → side_of_world c (2 ^ p.side) ≡ cells → p.buckets ≡ usual_buckets → AreSlots cap p.cap
    → IsStoreOf c (side_asked side least) cap p
store_asked c side least cells cap p is of buckets slots =
    record { cells_are = of ∙ is; buckets = buckets; slots = slots }

pub boxed_scene : (c : Bool) (side cap keep : ℕ) (bytes : List ℕ) (w : CWorld)
    (result : Result (Box CWorld) ℕ) → IfOk result (λ b. b.value ≡ w)
    → IsSceneOpen c side cap keep bytes w
    → IfOk result (λ b. IsSceneOpen c side cap keep bytes b.value)
boxed_scene c side cap keep bytes w (Err status) is stands = tt
boxed_scene c side cap keep bytes w (Ok b) is stands =
    subst (λ (v : CWorld). IsSceneOpen c side cap keep bytes v) (sym is) stands

pub not_boxed_scene : {X : Type 0} (c : Bool) (side cap : ℕ) (bytes : List ℕ)
    (old mid new : CScene) → IsSceneAsked c side cap → mid ≡ old
    → (result : Result X ℕ) → IfErr result (λ status. (status ≡ 2) × (new ≡ mid))
    → IfErr result (RefusesToOpen c side cap bytes old new)
not_boxed_scene c side cap bytes old mid new asked same (Ok x) is = tt
not_boxed_scene c side cap bytes old mid new asked same (Err status) is =
    subst (λ (n : ℕ). RefusesToOpen c side cap bytes old new n) (sym is.0)
    (RefusesToOpen.memory asked (is.1 ∙ same))

-- ---- handles

module _ (c : Bool) (side cap keep : ℕ) (bytes : List ℕ) (before told : CScene) where
  pub opens_scene_again : (old new : Option CWorld) (w : CWorld) → Some w ≡ old → new ≡ Some w
      → told ≡ before → OpensScene c side cap keep bytes before told old 13 new
  opens_scene_again old new w was now same =
      subst (λ (o : Option CWorld). OpensScene c side cap keep bytes before told o 13 new) was
      (subst (λ (n : Option CWorld). OpensScene c side cap keep bytes before told (Some w) 13 n)
      (sym now) (OpensScene.is_open w same))

  pub opens_scene : (old new : Option CWorld) (w : CWorld) → old ≡ None → new ≡ Some w
      → IsSceneOpen c side cap keep bytes w → told ≡ stands_told w
      → OpensScene c side cap keep bytes before told old 0 new
  opens_scene old new w was now stands tells =
      subst (λ (o : Option CWorld). OpensScene c side cap keep bytes before told o 0 new) (sym was)
      (subst (λ (n : Option CWorld). OpensScene c side cap keep bytes before told None 0 n)
      (sym now) (OpensScene.opened w stands tells))

  pub opens_no_scene : (old new : Option CWorld) (status : ℕ) → old ≡ None → new ≡ None
      → RefusesToOpen c side cap bytes before told status
      → OpensScene c side cap keep bytes before told old status new
  opens_no_scene old new status was now why =
      subst (λ (o : Option CWorld). OpensScene c side cap keep bytes before told o status new)
      (sym was)
      (subst (λ (n : Option CWorld). OpensScene c side cap keep bytes before told None status n)
      (sym now) (OpensScene.refused status why))
