-- What is written of a scene builds it.
use Rattle.std.proofs.Common.{◌≡◌, ℕ, ◌^◌, ◌⊎◌, inl, inr, false, true, List, [], ◌∷◌, Ok, sym, ap, subst, arith, All}
use Rattle.std.specs.List.{AllZip}
use Rattle.std.proofs.lemmas.Int.{ints}
use Rattle.std.proofs.lemmas.List.Elements.{All-head, All-tail}
use Rattle.vw_cell.specs.declared.cells.Cell.{Cell}
use Rattle.vw_cell.specs.Places.{FitsAt}
use Rattle.vox_read.specs.Contents.{Content, IsModel}
use Rattle.vox_read.proofs.Sound.{models_of_file}
use Rattle.history_model.specs.Worlds.{nothing}
use Rattle.vox_scene.specs.declared.rotations.Vector.{Vector}
use Rattle.vox_scene.specs.Placing.{SceneInstance, IsRotated, AreRotated, IsPlaced, EndsWithin, AllEndWithin}
use Rattle.vox_scene.specs.Scenes.{HasInstances}
use Rattle.vox_scene.specs.Sound.{IsSound}
use Rattle.vox_scene.proofs.Matrices.{all_turn, sound_stands, AllTurn}
use Rattle.vox_scene.proofs.ReadBack.{models_are_read}
use Rattle.text_laws.specs.scenes.Building.{stamps_from, AllFitAt, ScenesAreBuilt}
use Rattle.text_laws.proofs.OfScenes.ReadStamps.{all_numbered, stamps_read}
use Rattle.text_laws.proofs.OfScenes.Unions.{stamps_tell, stamps_hold}

sound_of : (bytes : List ℕ) (stands : List SceneInstance) → HasInstances bytes (Ok stands) → All IsSound stands
sound_of bytes stands has =
    sound_stands has.models has.nodes stands (models_of_file bytes has.models has.has).each
    (subst AllTurn (sym has.are.are)
    (all_turn bytes has.are.main.first has.are.children)) has.walked

-- one model at its place
fits_one : (least : Vector) (side : ℕ) (s : SceneInstance) (m : Content) (at : Cell) → IsModel m
    → IsRotated s.model s.axis_map m → IsPlaced least s at → EndsWithin least side s
    → FitsAt at m.size side
fits_one least side s m at is turned placed ends =
    let wide = ap (λ (c : Cell). c.x) turned.size in
    let deep = ap (λ (c : Cell). c.y) turned.size in
    let high = ap (λ (c : Cell). c.z) turned.size in
    let of_x = placed.x in
    let of_y = placed.y in
    let of_z = placed.z in
    let to_x = ends.x in
    let to_y = ends.y in
    let to_z = ends.z in
    let size = is.size in
    record {
      x = (size.x.0, omega (arith, ints, wide, of_x, to_x));
      y = (size.y.0, omega (arith, ints, deep, of_y, to_y));
      z = (size.z.0, omega (arith, ints, high, of_z, to_z));
    }

fit_all : (least : Vector) (side : ℕ) (stands : List SceneInstance) (models : List Content)
    (places : List Cell) → All IsModel models → AreRotated stands models
    → AllZip (IsPlaced least) stands places → AllEndWithin least stands side
    → AllFitAt side models places
fit_all least side [] [] [] are turned placed ends = tt
fit_all least side [] [] (at ∷ places) are turned placed ends = absurd placed
fit_all least side [] (m ∷ models) places are turned placed ends = absurd turned
fit_all least side (s ∷ stands) [] places are turned placed ends = absurd turned
fit_all least side (s ∷ stands) (m ∷ models) [] are turned placed ends = absurd placed
fit_all least side (s ∷ stands) (m ∷ models) (at ∷ places) are turned placed ends = (
  fits_one least side s m at (All-head IsModel m models are) turned.0 placed.0
      (All-head (EndsWithin least side) s stands ends),
  fit_all least side stands models places (All-tail IsModel m models are) turned.1 placed.1
      (All-tail (EndsWithin least side) s stands ends),
)

pub built : ScenesAreBuilt
built bytes scene has are short =
    let is = has.is in
    let sound : All IsSound has.stands = sound_of bytes has.stands has.has in
    record {
      given = scene.models;
      gives = models_are_read scene.models are short;
      stamps = stamps_from 0 scene.places;
      read =
          stamps_read scene.side scene.models scene.places is.side.high are.few
          (fit_all is.least (2 ^ scene.side) has.stands scene.models scene.places are.each is.turned
          is.placed is.side.holds);
      shows = record {
        stands = has.stands;
        has = has.has;
        least = is.least;
        is_least = is.is_least;
        cells = λ p. (
          λ set. of_stands (stamps_tell is.least scene.models 0 has.stands scene.models scene.places
              nothing p (all_numbered scene.models) sound is.turned is.placed set),
          λ c. stamps_hold is.least scene.models 0 has.stands scene.models scene.places nothing p
              (all_numbered scene.models) is.turned is.placed c,
        );
      };
    }
  where
    of_stands : {P : Type 0} → (false ≡ true) ⊎ P → P
    of_stands (inl wrong) = absurd cc
    of_stands (inr c) = c
