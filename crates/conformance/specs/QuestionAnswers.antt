-- Which answer tells what is asked of a world with tints.
use Rattle.std.specs.Prelude.{◌≡◌, ℕ, Bool, Option}
use Rattle.vw_cell.specs.declared.cells.Cell.{Cell}
use Rattle.vw_cell.specs.declared.boxes.Boxed.{Boxed}
use Rattle.vw_cell.specs.Counts.{number_in}
use Rattle.vw_cell.specs.Faces.{faces_in}
use Rattle.vw_cell.specs.Extents.{IsExtent}
use Rattle.history_model.specs.Ways.{Heading}
use Rattle.history_model.specs.Rays.{Hits}
use Rattle.history_model.specs.Worlds.{World}
use Rattle.history_model.specs.Tints.{Tints}
use Rattle.history_model.specs.declared.questions.Question.{Question}
use Rattle.history_model.specs.declared.questions.Question.TheVariants.{Get, Colour, Count, Bounds, Faces, Ray}
use Rattle.transcript.specs.declared.answers.Answer.{Answer}
use Rattle.transcript.specs.declared.answers.Answer.TheVariants as answers

-- the answer tells what the question asks of a world of this side, whose cells have these tints; a
-- new question adds its row here alone
pub data AnswersTo (side : ℕ) (w : World) (tints : Tints) : Question → Answer → Type 0 where
  is : (c : Cell) (set : Bool) → w c ≡ set → AnswersTo side w tints (Get c) (answers.Is set)
  colour : (c : Cell) (tint : ℕ) → tints c ≡ tint
      → AnswersTo side w tints (Colour c) (answers.Colour tint)
  count : (b : Boxed) (cells : ℕ) → cells ≡ number_in b w
      → AnswersTo side w tints (Count b) (answers.Count cells)
  faces : (b : Boxed) (number : ℕ) → number ≡ faces_in side w b
      → AnswersTo side w tints (Faces b) (answers.Faces number)
  extent : (least : Option Boxed) → IsExtent side w least
      → AnswersTo side w tints Bounds (answers.Extent least)
  hit : (from : Cell) (h : Heading) (found : Option Cell) → Hits from h side w found
      → AnswersTo side w tints (Ray from h) (answers.Hit found)
