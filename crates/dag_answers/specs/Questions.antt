-- The question that some words spelled.
use Rattle.std.specs.Prelude.{ℤ}
use Rattle.history_model.specs.Worlds.{box_at}
use Rattle.history_model.specs.Ways.{heading_of, Heading}
use Rattle.history_model.specs.declared.questions.Question.{Question}
use Rattle.history_model.specs.declared.questions.Question.TheVariants as questions
use Rattle.script.specs.Numbers.{signed}
use Rattle.dag_answers.specs.declared.questions.SpelledQuestion.{SpelledQuestion}
use Rattle.dag_answers.specs.declared.questions.SpelledQuestion.TheVariants.{Get, Count, Bounds, Faces, Ray}
use Rattle.dag_answers.specs.declared.questions.SpelledStep.{SpelledStep}
use Rattle.dag_answers.specs.declared.questions.SpelledWay.{SpelledWay}

abbrev pub step_spelled : SpelledStep → ℤ
step_spelled s = signed s.low s.size

abbrev pub heading_spelled : SpelledWay → Heading
heading_spelled s = heading_of (step_spelled s.x) (step_spelled s.y) (step_spelled s.z)

abbrev pub question_spelled : SpelledQuestion → Question
question_spelled (Get c) = questions.Get c
question_spelled (Count at size) = questions.Count (box_at at size)
question_spelled Bounds = questions.Bounds
question_spelled (Faces at size) = questions.Faces (box_at at size)
question_spelled (Ray from way) = questions.Ray from (heading_spelled way)
