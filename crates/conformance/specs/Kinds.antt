-- The lines that change nothing, and what a line is answered with.
use Rattle.std.specs.Prelude.{◌<◌, ℕ, Bool, true, false, List, All}
use Rattle.script.specs.declared.commands.ScriptLine.{ScriptLine}
use Rattle.transcript.specs.declared.answers.Answer.{Answer}
use Rattle.transcript.specs.declared.answers.Answer.TheVariants as answers
use Rattle.transcript.specs.declared.answers.LineAnswer.{LineAnswer}

-- the answer accepts no change, forgets no version and isn't stale
abbrev pub is_resting : Answer → Bool
is_resting answers.Done = false
is_resting (answers.Forgot v) = false
is_resting (answers.Stale base) = false
is_resting _ = true

abbrev pub answer_at : ScriptLine → ℕ → Answer → LineAnswer
answer_at l n answer = record { line = l.line; at = n; answer = answer }

-- the lines of a script rise
abbrev pub IsAfter : List ScriptLine → ScriptLine → Type 0
IsAfter script l = All (λ k. k.line < l.line) script
