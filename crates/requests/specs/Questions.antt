-- The words of a question: `get x y z`, `count x y z a b c`, `bounds`, `faces x y z a b c`, or
-- `ray x y z dx dy dz`. A number has 1 to 9 digits; a step of a ray may have one `-` before them.
use Rattle.std.specs.Prelude.{ℕ, ℤ, Bool, true, false, ◌==◌, if◌then◌else◌, List, [], ◌∷◌, Option, Some, None, codes}
use Rattle.std.specs.Option.{option_map}
use Rattle.std.specs.Str.{bytes_eq}
use Rattle.vw_cell.specs.declared.cells.Cell.{Cell}
use Rattle.vw_cell.specs.declared.boxes.Boxed.{Boxed}
use Rattle.vw_cell.specs.Counts.{cell_at}
use Rattle.history_model.specs.Worlds.{box_at}
use Rattle.history_model.specs.Ways.{Heading, heading_of}
use Rattle.history_model.specs.declared.questions.Question.{Question}
use Rattle.history_model.specs.declared.questions.Question.TheVariants.{Get, Count, Bounds, Faces, Ray}
use Rattle.script.specs.Numbers.{loose, signed}

abbrev pub place_with : Option ℕ → Option ℕ → Option ℕ → Option Cell
place_with (Some x) (Some y) (Some z) = Some (cell_at x y z)
place_with x y z = None

abbrev pub place_in : List ℕ → List ℕ → List ℕ → Option Cell
place_in x y z = place_with (loose x) (loose y) (loose z)

abbrev pub box_with : Option Cell → Option Cell → Option Boxed
box_with (Some at) (Some size) = Some (box_at at size)
box_with at size = None

abbrev pub asked_box : List (List ℕ) → Option Boxed
asked_box (x ∷ y ∷ z ∷ a ∷ b ∷ c ∷ []) = box_with (place_in x y z) (place_in a b c)
asked_box _ = None

abbrev pub signed_digits : Bool → List ℕ → Option ℤ
signed_digits low digits = option_map (signed low) (loose digits)

abbrev pub step_in : List ℕ → Option ℤ
step_in [] = None
step_in (b ∷ digits) =
    if b == 45 then signed_digits true digits else signed_digits false (b ∷ digits)

abbrev pub way_with : Option ℤ → Option ℤ → Option ℤ → Option Heading
way_with (Some dx) (Some dy) (Some dz) = Some (heading_of dx dy dz)
way_with dx dy dz = None

abbrev pub asked_heading : List (List ℕ) → Option Heading
asked_heading (dx ∷ dy ∷ dz ∷ []) = way_with (step_in dx) (step_in dy) (step_in dz)
asked_heading _ = None

abbrev pub ray_with : Option Cell → Option Heading → Option Question
ray_with (Some from) (Some way) = Some (Ray from way)
ray_with from way = None

abbrev pub get_in : List (List ℕ) → Option Question
get_in (x ∷ y ∷ z ∷ []) = option_map Get (place_in x y z)
get_in _ = None

abbrev pub bounds_in : List (List ℕ) → Option Question
bounds_in [] = Some Bounds
bounds_in _ = None

abbrev pub ray_in : List (List ℕ) → Option Question
ray_in (x ∷ y ∷ z ∷ steps) = ray_with (place_in x y z) (asked_heading steps)
ray_in _ = None

abbrev pub question_in : List ℕ → List (List ℕ) → Option Question
question_in name words =
    if bytes_eq name (codes "get") then get_in words
    else (if bytes_eq name (codes "count") then option_map Count (asked_box words)
    else (if bytes_eq name (codes "bounds") then bounds_in words
    else (if bytes_eq name (codes "faces") then option_map Faces (asked_box words)
    else (if bytes_eq name (codes "ray") then ray_in words else None))))
