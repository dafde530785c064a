-- What a scene gives, as an outcome of the whole command.
use Rattle.std.proofs.Common.{◌≡◌, ℕ, ◌+◌, ◌^◌, ◌≤◌, List, [], ◌∷◌, Option, Some, None, Ok, Err, refl, sym, ap, subst, ◌∙◌, arith}
use Rattle.vw_io.specs.Outside.{Files, ShelfState}
use Rattle.vw_io.specs.Inputs.{AreTaken}
use Rattle.vw_io.specs.Outputs.{Named, AreWritten}
use Rattle.vox_chunk.specs.declared.faults.VoxFault.{VoxFault}
use Rattle.vox_chunk.specs.declared.faults.VoxFault.TheVariants as vox_faults
use Rattle.vox_read.specs.Contents.{Content, AreModels}
use Rattle.vox_read.specs.Files.{ReadsModels, RefusesFile}
use Rattle.vox_write.specs.Written.{chunks_length, models_file}
use Rattle.vox_scene.specs.declared.faults.SceneFault.{SceneFault}
use Rattle.vox_scene.specs.declared.faults.SceneFault.TheVariants as faults
use Rattle.vox_scene.specs.Judged.{IsPlaceable}
use Rattle.vox_scene.proofs.Judging.{judged, judged_once}
use Rattle.vox_scene.specs.Scenes.{SceneState, HasScene, RefusesScene}
use Rattle.text_laws.specs.scenes.Building.{BuildsScene}
use Rattle.text_laws.proofs.OfScenes.Built.{built}
use Rattle.commands.specs.declared.scene_files.SceneTally.{SceneTally}
use Rattle.commands.specs.declared.refusals.CommandRefused.TheVariants.{Text, Output}
use Rattle.commands.specs.declared.refusals.NamedOutputRefused.{NamedOutputRefused}
use Rattle.commands.specs.declared.refusals.TextRefused.{TextRefused}
use Rattle.commands.specs.declared.refusals.TextRefused.TheVariants.{Vox, NoScene, Memory}
use Rattle.requests.specs.Orders.{SceneAsked}
use Rattle.commands.specs.Scenes.{TellsScene, PlacesText, RefusesPlacing, JudgesPlaces, verdict_of_scene, scene_means}
use Rattle.commands.specs.Meanings.{file_in}
use Rattle.commands.specs.Outcomes.{Outcome}
use Rattle.commands.specs.Putting.{StopsAmong}
use Rattle.commands.specs.Refusals.{of_vox, of_scene}
use Rattle.commands.specs.Inputs.{vox_input}
use Rattle.commands.specs.Judging.{AgreesWith, FilesAreRead, IsJudged}
use Rattle.commands.specs.Judged.{models_once, models_computed, computed_is_some}
use Rattle.commands.specs.Verdicts.{Verdict, JudgesModels}
use Rattle.commands.proofs.Accepting.{not_accepted}
use Rattle.commands.proofs.Putting.{broken_off}

-- ---- refusals

pub vox_refused_at : (fault : VoxFault) (bytes : List ℕ) → RefusesFile fault bytes
    → RefusesPlacing bytes (of_vox fault)
vox_refused_at vox_faults.Memory bytes says = tt
vox_refused_at vox_faults.NotVox bytes says = says
vox_refused_at _ bytes says = says

pub scene_refused : (fault : SceneFault) (bytes : List ℕ) (models : List Content)
    → ReadsModels bytes (Ok models) → RefusesScene fault bytes
    → RefusesPlacing bytes (of_scene fault)
scene_refused (faults.ShortNode at) bytes models gives says =
    record { models = models; gives = gives; first = says }
scene_refused (faults.TwoNodes at) bytes models gives says =
    record { models = models; gives = gives; first = says }
scene_refused (faults.BadRotation at) bytes models gives says =
    record { models = models; gives = gives; first = says }
scene_refused (faults.BadTranslation at) bytes models gives says =
    record { models = models; gives = gives; first = says }
scene_refused (faults.NoNode at) bytes models gives says =
    record { models = models; gives = gives; first = says }
scene_refused (faults.TooDeep at) bytes models gives says =
    record { models = models; gives = gives; first = says }
scene_refused (faults.NoModel at) bytes models gives says =
    record { models = models; gives = gives; first = says }
scene_refused (faults.TooMany at) bytes models gives says =
    record { models = models; gives = gives; first = says }
scene_refused faults.TooLarge bytes models gives says =
    record { models = models; gives = gives; first = says }
scene_refused faults.Memory bytes models gives says = tt

-- ---- the scene of a text

pub scene_told : (bytes : List ℕ) (scene : SceneState) (told : SceneTally)
    (models script : List ℕ) → HasScene bytes scene → AreModels scene.models
    → 20 + chunks_length scene.models ≤ 2 ^ 28 → TellsScene scene told models script
    → PlacesText bytes told models script
scene_told bytes scene told models script has are short tells = record {
  scene = scene;
  has = has;
  tells = tells;
  builds =
      subst (λ (m : List ℕ). BuildsScene bytes scene.side m script) (sym tells.file)
      (subst (λ (s : List ℕ). BuildsScene bytes scene.side (models_file scene.models) s)
      (sym tells.stamps) (built bytes scene has are short));
}

-- ---- outcomes

abbrev pub scene_outputs : SceneAsked → List ℕ → List ℕ → List Named
scene_outputs asked models script = record { name = asked.out; bytes = models }
    ∷ record { name = asked.script; bytes = script } ∷ []

pub scene_written : (asked : SceneAsked) (texts : List (List ℕ)) (told : SceneTally)
    (models script : List ℕ) (old mid new : ShelfState)
    → AreTaken old.files (vox_input asked.file ∷ []) texts
    → PlacesText (file_in texts) told models script → mid.files ≡ old.files
    → old.faults ≤ mid.faults
    → AreWritten (scene_outputs asked models script) mid.files new.files → mid.faults ≤ new.faults
    → Outcome (scene_means asked) (Ok told) old new
scene_written asked texts told models script old mid new taken places same grown whole more =
    record {
      texts = texts;
      taken = taken;
      outputs = scene_outputs asked models script;
      gives = record { models = models; script = script; places = places; are = refl };
      whole = subst
          (λ (f : Option Files). AreWritten (scene_outputs asked models script) f new.files)
          same whole;
      never_falls = omega (arith, grown, more);
    }

pub scene_stopped : (asked : SceneAsked) (texts : List (List ℕ)) (told : SceneTally)
    (models script : List ℕ) (r : NamedOutputRefused) (old mid new : ShelfState)
    → AreTaken old.files (vox_input asked.file ∷ []) texts
    → PlacesText (file_in texts) told models script → mid.files ≡ old.files
    → old.faults ≤ mid.faults → StopsAmong r (scene_outputs asked models script) mid new
    → Outcome (scene_means asked) (Err (Output r)) old new
scene_stopped asked texts told models script r old mid new taken places same grown stops =
    broken_off r (scene_means asked) texts (scene_outputs asked models script) old mid new taken
    (record {
      told = told;
      placed = record { models = models; script = script; places = places; are = refl };
    })
    same grown stops

pub not_placed : (asked : SceneAsked) (texts : List (List ℕ)) (r : TextRefused)
    (old new : ShelfState) → AreTaken old.files (vox_input asked.file ∷ []) texts
    → RefusesPlacing (file_in texts) r → new.files ≡ old.files → old.faults ≤ new.faults
    → Outcome (scene_means asked) (Err (Text r)) old new
not_placed asked texts r old new taken says files faults =
    not_accepted (scene_means asked) r texts old new taken says files faults

-- ---- the verdict

abbrev judges_scene : List ℕ → List Content → Verdict → Type 0
judges_scene bytes models v = JudgesPlaces bytes v

-- a scene that there is has no fault
placeable : (bytes : List ℕ) (scene : SceneState) → HasScene bytes scene → IsPlaceable bytes
placeable bytes scene has = record {
  stands = has.stands;
  has = has.has;
  least = has.is.least;
  is_least = has.is.is_least;
  small = has.is.small;
}

places_once : (bytes : List ℕ) (v w : Verdict) → JudgesPlaces bytes v → JudgesPlaces bytes w
    → v ≡ w
places_once bytes v w of_v of_w =
    of_v.2 ∙ ap verdict_of_scene (judged_once bytes of_v.0 of_w.0 of_v.1 of_w.1) ∙ sym of_w.2

scene_refused_by : (bytes : List ℕ) (r : TextRefused) → RefusesPlacing bytes r
    → AgreesWith (JudgesModels (judges_scene bytes) bytes) r
scene_refused_by bytes (Vox fault) says =
    record { reading = Err fault; says = says; judged = refl }
scene_refused_by bytes (NoScene fault) says = record {
  reading = Ok says.models;
  says = says.gives;
  judged = (Some fault, says.first, refl);
}
scene_refused_by bytes Memory says = tt
scene_refused_by bytes _ says = absurd says

scene_computed : (bytes : List ℕ) → FilesAreRead
    → (v : Verdict) × JudgesModels (judges_scene bytes) bytes v
scene_computed bytes readings =
    models_computed (judges_scene bytes) bytes readings (λ models says.
    let found = judged bytes models says in
    (verdict_of_scene found.0, (found.0, found.1, refl)))

pub scene_judged : (asked : SceneAsked) → IsJudged (scene_means asked)
scene_judged asked = record {
  one = λ texts v w of_v of_w.
      models_once (judges_scene (file_in texts))
      (λ models a b of_a of_b. places_once (file_in texts) a b of_a of_b) (file_in texts) v w of_v
      of_w;
  given = λ texts told outputs g. record {
    reading = Ok g.places.has.has.models;
    says = g.places.has.has.has;
    judged = (None, placeable (file_in texts) g.places.scene g.places.has, refl);
  };
  begun = λ texts outputs b.
      let p = b.placed.places in
      record {
        reading = Ok p.has.has.models;
        says = p.has.has.has;
        judged = (None, placeable (file_in texts) p.scene p.has, refl);
      };
  refused = λ texts r says. scene_refused_by (file_in texts) r says;
  some = λ readings texts none.
      computed_is_some (JudgesModels (judges_scene (file_in texts)) (file_in texts))
      (scene_computed (file_in texts) readings) none;
  computed = λ readings told texts. scene_computed (file_in texts) readings;
}
