-- A change is refused for a full bucket only where enough contents were possible.
use Rattle.std.specs.Prelude.{ℕ, List, [], ◌∷◌, ◌++◌, All}
use Rattle.history_model.specs.Contents.{Content}
use Rattle.history_model.specs.declared.acts.Act.{Act}
use Rattle.history_model.specs.declared.histories.Record.{Record}
use Rattle.history_model.specs.Logs.{Log}
use Rattle.node_words.specs.Plans.{Layout}
use Rattle.conformance.specs.possible.Needed.{Span, NeedsSome, IsPossible}
use Rattle.script.specs.declared.commands.Command.{Command}
use Rattle.script.specs.declared.commands.Command.TheVariants.{Edit}
use Rattle.script.specs.declared.commands.ScriptLine.{ScriptLine}
use Rattle.transcript.specs.declared.answers.Answer.{Answer}
use Rattle.transcript.specs.declared.answers.Answer.TheVariants as answers
use Rattle.transcript.specs.declared.answers.LineAnswer.{LineAnswer}

-- the span of a line, from the moment of the line before it
abbrev pub span_by : ℕ → Command → ℕ → List Span
span_by first (Edit act once) last = record { act = act; first = first; last = last } ∷ []
span_by first _ last = []

-- those of a script's lines, of which the line before has this moment, and those of all scripts
abbrev pub spans_in : ℕ → List ScriptLine → List LineAnswer → List Span
spans_in first [] answers = []
spans_in first (l ∷ lines) [] = []
spans_in first (l ∷ lines) (a ∷ answers) = span_by first l.command a.at
    ++ spans_in a.at lines answers

abbrev pub spans_of : List (List ScriptLine) → List (List LineAnswer) → List Span
spans_of [] transcripts = []
spans_of (script ∷ scripts) [] = []
spans_of (script ∷ scripts) (transcript ∷ transcripts) = spans_in 0 script transcript
    ++ spans_of scripts transcripts

-- a change that was refused for a full bucket
pub record Refusal : Type 0 where
  pub act : Act
  pub at : ℕ
  pub level : ℕ
  pub bucket : ℕ

abbrev pub refusal_with : Act → ℕ → Answer → List Refusal
refusal_with act n (answers.Full level bucket) = record
    { act = act; at = n; level = level; bucket = bucket } ∷ []
refusal_with act n _ = []

abbrev pub refused_by : Command → ℕ → Answer → List Refusal
refused_by (Edit act once) n answer = refusal_with act n answer
refused_by _ n answer = []

abbrev pub refused_in : List ScriptLine → List LineAnswer → List Refusal
refused_in [] answers = []
refused_in (l ∷ lines) [] = []
refused_in (l ∷ lines) (a ∷ answers) = refused_by l.command a.at a.answer
    ++ refused_in lines answers

abbrev pub refused_of : List (List ScriptLine) → List (List LineAnswer) → List Refusal
refused_of [] transcripts = []
refused_of (script ∷ scripts) [] = []
refused_of (script ∷ scripts) (transcript ∷ transcripts) = refused_in script transcript
    ++ refused_of scripts transcripts

-- the act needs a content of the bucket, and as many different ones as it has slots were possible
pub record WasPossible (p : Layout) (models : List Content) (records : List Record)
    (spans : List Span) (r : Refusal) : Type 0 where
  pub needed : NeedsSome p models records r.act r.at r.level r.bucket
  pub possible : IsPossible p models records spans r.level r.bucket p.cap

-- full only where enough is possible
pub record FullOnlyWherePossible (p : Layout) (models : List Content) (log : Log)
    (scripts : List (List ScriptLine)) (transcripts : List (List LineAnswer)) : Type 0 where
  pub each : All (WasPossible p models log.records (spans_of scripts transcripts))
      (refused_of scripts transcripts)
