-- The cells that stamps make of a world are those of the placed models.
use Rattle.std.proofs.Common.{◌≡◌, ℕ, zero, suc, ◌+◌, ◌<◌, ◌⊎◌, inl, inr, Bool, true, false, not, ◌||◌, ◌==◌, List, [], ◌∷◌, Option, Some, refl, sym, ap, subst, ◌∙◌, arith, All, ℤ, pos, ◌+ℤ◌}
use Rattle.std.specs.List.{slice_get, AllZip}
use Rattle.std.proofs.lemmas.Bool.{and_parts, and_from}
use Rattle.std.proofs.lemmas.Int.{ints}
use Rattle.std.proofs.lemmas.List.Elements.{All-head, All-tail}
use Rattle.vw_cell.specs.declared.cells.Cell.{Cell}
use Rattle.vw_cell.specs.Counts.{IsBelow}
use Rattle.vw_cell.specs.Places.{IsInBox, is_in_box}
use Rattle.vw_cell.specs.Tests.{is_in_box_tells, is_in_box_holds}
use Rattle.vox_read.specs.Contents.{Content, is_cell}
use Rattle.history_model.specs.Worlds.{World, is_in_stamp, less, box_at}
use Rattle.vox_scene.specs.declared.rotations.Vector.{Vector}
use Rattle.vox_scene.specs.Painted.{IsMatrix}
use Rattle.vox_scene.specs.Sound.{IsSound}
use Rattle.vox_scene.specs.Placing.{SceneInstance, IsRotated, AreRotated, IsPlaced, rotated_size, rotated_cell}
use Rattle.text_laws.specs.scenes.Building.{stamps_from, edited_by, IsCellOf, IsPlacedCell}
use Rattle.text_laws.proofs.OfScenes.ReadStamps.{Numbered, later, first_of}
use Rattle.text_laws.proofs.OfScenes.TurnsBack.{turns_back, place_below}

-- ---- one stamp

same_cell : (a b : Cell) → a.x ≡ b.x → a.y ≡ b.y → a.z ≡ b.z → a ≡ b
same_cell a b x y z = λ i. record { x = x i; y = y i; z = z i }

alike : (s : SceneInstance) (m : Content) → IsRotated s.model s.axis_map m → (from : Cell)
    → IsBelow s.model.size from
    → is_cell m.voxels (rotated_cell s.axis_map s.model.size from) ≡ is_cell s.model.voxels from
alike s m turned from inside = ap (λ (c : ℕ). not (c == 0)) (turned.cells from inside)

stamp_tells : (least : Vector) (s : SceneInstance) (m : Content) (at p : Cell) → IsMatrix s.axis_map
    → IsRotated s.model s.axis_map m → IsPlaced least s at → is_in_stamp (Some m) at p ≡ true
    → IsCellOf least p s
stamp_tells least s m at p matrix turned placed is =
    let both = and_parts (is_in_box (box_at at m.size) p) (is_cell m.voxels (less p at)) is in
    let box = is_in_box_tells (box_at at m.size) p both.0 in
    let wide = ap (λ (c : Cell). c.x) turned.size in
    let deep = ap (λ (c : Cell). c.y) turned.size in
    let high = ap (λ (c : Cell). c.z) turned.size in
    let below : IsBelow (rotated_size s.axis_map s.model.size) (less p at) = record {
      x = omega (arith, box.x.0, box.x.1, wide);
      y = omega (arith, box.y.0, box.y.1, deep);
      z = omega (arith, box.z.0, box.z.1, high);
    } in
    let found = turns_back s.axis_map s.model.size (less p at) matrix below in
    let there = found.1 in
    let same : rotated_cell s.axis_map s.model.size found.0 ≡ less p at =
    same_cell (rotated_cell s.axis_map s.model.size found.0) (less p at) there.x there.y there.z in
    let on_x = there.x in
    let on_y = there.y in
    let on_z = there.z in
    let of_x = placed.x in
    let of_y = placed.y in
    let of_z = placed.z in
    record {
      from = found.0;
      inside = there.inside;
      set =
          sym (alike s m turned found.0 there.inside) ∙ ap (λ (c : Cell). is_cell m.voxels c) same
          ∙ both.1;
      x = omega (arith, ints, of_x, on_x, box.x.0);
      y = omega (arith, ints, of_y, on_y, box.y.0);
      z = omega (arith, ints, of_z, on_z, box.z.0);
    }

-- one axis of a place that is told from the scene's least corner
past_corner : (least corner : ℤ) (at p q : ℕ) → least +ℤ pos at ≡ corner
    → least +ℤ pos p ≡ corner +ℤ pos q → p ≡ at + q
past_corner least corner at p q placed is = omega (arith, ints, placed, is)

stamp_holds : (least : Vector) (s : SceneInstance) (m : Content) (at p : Cell)
    → IsRotated s.model s.axis_map m → IsPlaced least s at → IsCellOf least p s
    → is_in_stamp (Some m) at p ≡ true
stamp_holds least s m at p turned placed c =
    let q : Cell = rotated_cell s.axis_map s.model.size c.from in
    let below : IsBelow (rotated_size s.axis_map s.model.size) q =
    place_below s.axis_map s.model.size c.from c.inside in
    let wide = ap (λ (d : Cell). d.x) turned.size in
    let deep = ap (λ (d : Cell). d.y) turned.size in
    let high = ap (λ (d : Cell). d.z) turned.size in
    let on_x : p.x ≡ at.x + q.x = past_corner least.x s.corner.x at.x p.x q.x placed.x c.x in
    let on_y : p.y ≡ at.y + q.y = past_corner least.y s.corner.y at.y p.y q.y placed.y c.y in
    let on_z : p.z ≡ at.z + q.z = past_corner least.z s.corner.z at.z p.z q.z placed.z c.z in
    let in_x : q.x < m.size.x = omega (arith, below.x, wide) in
    let in_y : q.y < m.size.y = omega (arith, below.y, deep) in
    let in_z : q.z < m.size.z = omega (arith, below.z, high) in
    let box : IsInBox (box_at at m.size) p = record {
      x = (omega (arith, on_x), omega (arith, on_x, in_x));
      y = (omega (arith, on_y), omega (arith, on_y, in_y));
      z = (omega (arith, on_z), omega (arith, on_z, in_z));
    } in
    let same : less p at ≡ q =
    same_cell (less p at) q (omega (arith, on_x)) (omega (arith, on_y)) (omega (arith, on_z)) in
    and_from (is_in_box (box_at at m.size) p) (is_cell m.voxels (less p at))
    (is_in_box_holds (box_at at m.size) p box)
    (ap (λ (d : Cell). is_cell m.voxels d) same ∙ alike s m turned c.from c.inside ∙ c.set)

-- ---- all of them

either_true : (a b : Bool) → (a || b) ≡ true → (a ≡ true) ⊎ (b ≡ true)
either_true true b is = inl refl
either_true false b is = inr is

right_true : (a b : Bool) → b ≡ true → (a || b) ≡ true
right_true true b is = refl
right_true false b is = is

left_true : (a b : Bool) → a ≡ true → (a || b) ≡ true
left_true true b is = refl
left_true false b is = absurd cc

-- an instance of the rest is one of all
among : (s : SceneInstance) (stands : List SceneInstance) (least : Vector) (p : Cell)
    → IsPlacedCell least stands p → IsPlacedCell least (s ∷ stands) p
among s stands least p (t, (k, lt, is), c) = (t, (suc k, omega (arith, lt), is), c)

abbrev at_number : List Content → ℕ → Cell → Cell → Bool
at_number all i at p = is_in_stamp (slice_get all i) at p

pub stamps_tell : (least : Vector) (all : List Content) (i : ℕ) (stands : List SceneInstance)
    (models : List Content) (places : List Cell) (before : World) (p : Cell)
    → Numbered all i models → All IsSound stands → AreRotated stands models
    → AllZip (IsPlaced least) stands places
    → edited_by all (stamps_from i places) before p ≡ true
    → (before p ≡ true) ⊎ IsPlacedCell least stands p
stamps_tell least all i [] [] [] before p are sound turned placed is = inl is
stamps_tell least all i [] [] (at ∷ places) before p are sound turned placed is = absurd placed
stamps_tell least all i [] (m ∷ models) places before p are sound turned placed is = absurd turned
stamps_tell least all i (s ∷ stands) [] places before p are sound turned placed is = absurd turned
stamps_tell least all i (s ∷ stands) (m ∷ models) [] before p are sound turned placed is =
    absurd placed
stamps_tell least all i (s ∷ stands) (m ∷ models)
    (at ∷ places) before p are sound turned placed is =
    next (stamps_tell least all (i + 1) stands models places
    (λ q. at_number all i at q || before q) p
    (later all i m models are) (All-tail IsSound s stands sound) turned.1 placed.1 is)
  where
    here : (at_number all i at p ≡ true) ⊎ (before p ≡ true)
        → (before p ≡ true) ⊎ IsPlacedCell least (s ∷ stands) p
    here (inl stamped) =
        inr (
          s,
          (0, omega arith, refl),
          stamp_tells least s m at p (All-head IsSound s stands sound).matrix turned.0 placed.0
              (ap (λ (o : Option Content). is_in_stamp o at p) (sym (first_of all i m models are))
              ∙ stamped),
        )
    here (inr was) = inl was

    next : ((at_number all i at p || before p) ≡ true) ⊎ IsPlacedCell least stands p
        → (before p ≡ true) ⊎ IsPlacedCell least (s ∷ stands) p
    next (inl set) = here (either_true (at_number all i at p) (before p) set)
    next (inr c) = inr (among s stands least p c)

pub stays_set : (all : List Content) (i : ℕ) (places : List Cell) (before : World) (p : Cell)
    → before p ≡ true → edited_by all (stamps_from i places) before p ≡ true
stays_set all i [] before p set = set
stays_set all i (at ∷ places) before p set =
    stays_set all (i + 1) places (λ q. at_number all i at q || before q) p
    (right_true (at_number all i at p) (before p) set)

pub stamps_hold : (least : Vector) (all : List Content) (i : ℕ) (stands : List SceneInstance)
    (models : List Content) (places : List Cell) (before : World) (p : Cell)
    → Numbered all i models → AreRotated stands models → AllZip (IsPlaced least) stands places
    → IsPlacedCell least stands p → edited_by all (stamps_from i places) before p ≡ true
stamps_hold least all i [] models places before p are turned placed (t, (k, lt, is), c) =
    absurd (omega (arith, lt))
stamps_hold least all i (s ∷ stands) [] places before p are turned placed c = absurd turned
stamps_hold least all i (s ∷ stands) (m ∷ models) [] before p are turned placed c = absurd placed
stamps_hold least all i (s ∷ stands) (m ∷ models) (at ∷ places) before p are turned placed
    (t, (zero, lt, is), c) =
    stays_set all (i + 1) places (λ q. at_number all i at q || before q) p
    (left_true (at_number all i at p) (before p)
    (ap (λ (o : Option Content). is_in_stamp o at p) (first_of all i m models are)
    ∙ stamp_holds least s m at p turned.0 placed.0
    (subst (λ (u : SceneInstance). IsCellOf least p u) (sym is) c)))
stamps_hold least all i (s ∷ stands) (m ∷ models) (at ∷ places) before p are turned placed
    (t, (suc k, lt, is), c) =
    stamps_hold least all (i + 1) stands models places (λ q. at_number all i at q || before q) p
    (later all i m models are) turned.1 placed.1 (t, (k, omega (arith, lt), is), c)
