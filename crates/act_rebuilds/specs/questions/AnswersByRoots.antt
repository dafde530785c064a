-- Which answer tells what is asked of a root.
use Rattle.std.specs.Prelude.{◌≡◌, ℕ, ◌-◌, ◌/◌, ◌<◌, ◌^◌, Option, List}
use Rattle.vw_cell.specs.declared.cells.Cell.{Cell}
use Rattle.vw_cell.specs.Places.{IsInWorld}
use Rattle.vw_cell.specs.Sums.{one_if}
use Rattle.node_words.specs.declared.shapes.names.Name.{Name}
use Rattle.node_words.specs.shapes.Tree.{Tree}
use Rattle.edit_walk.specs.cells.Worlds.{ShowsWorld}
use Rattle.history_model.specs.Worlds.{World}
use Rattle.history_model.specs.Tints.{Tints}
use Rattle.history_model.specs.Planes.{StoresTints, tells}
use Rattle.history_model.specs.declared.questions.Question.{Question}
use Rattle.transcript.specs.declared.answers.Answer.{Answer}
use Rattle.conformance.specs.QuestionAnswers.{AnswersTo}

-- the answer tells what the question asks of each world of this side, a power of two, that the
-- root shows: they differ outside of the world alone. Its set cells have tint 1
abbrev pub AnswersByRoot : List Tree → ℕ → Option Name → Question → Answer → Type 0
AnswersByRoot held side root question answer =
    (w : World) (t : Tints) → ShowsWorld held (side - 2) root w
    → ((c : Cell) → IsInWorld (2 ^ side) c → t c ≡ one_if (w c))
    → AnswersTo (2 ^ side) w t question answer

-- the answer tells what the question asks of each world whose tints, which are below 256, the store
-- of the root keeps: its side is a quarter of the store's, a power of two, and its cells are those
-- whose tint isn't 0
abbrev pub AnswersByTints : List Tree → ℕ → Option Name → Question → Answer → Type 0
AnswersByTints held side root question answer =
    (stored w : World) (t : Tints) → ShowsWorld held (side - 2) root stored
    → StoresTints (2 ^ side / 4) t stored
    → ((c : Cell) → IsInWorld (2 ^ side / 4) c → t c < 2 ^ 8)
    → ((c : Cell) → IsInWorld (2 ^ side / 4) c → tells 0 (t c) ≡ w c)
    → AnswersTo (2 ^ side / 4) w t question answer
