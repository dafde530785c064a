-- The history that scripts and transcripts show.
use Rattle.std.specs.Prelude.{◌≡◌, ℕ, ◌+◌, ◌<◌, ◌==◌, Bool, true, false, if◌then◌else◌, List, [], ◌∷◌, ◌++◌, sum_by}
use Rattle.std.specs.List.{AllPairs}
use Rattle.history_model.specs.declared.histories.Record.{Record}
use Rattle.history_model.specs.declared.histories.Mark.{Mark}
use Rattle.history_model.specs.Logs.{Log}
pub use Rattle.retain.specs.Listing.{Accepted, numbered}
use Rattle.script.specs.declared.commands.Command.{Command}
use Rattle.script.specs.declared.commands.Command.TheVariants.{Edit}
use Rattle.script.specs.declared.commands.ScriptLine.{ScriptLine}
use Rattle.transcript.specs.declared.answers.Answer.{Answer}
use Rattle.transcript.specs.declared.answers.Answer.TheVariants as answers
use Rattle.transcript.specs.declared.answers.LineAnswer.{LineAnswer}
use Rattle.retain.specs.Retained.{with_fallen}
use Rattle.conformance.specs.Answers.{mark_of}

-- two lists have the same items, each as often: they weigh the same by every weight
pub record SameItems {X : Type 0} (xs ys : List X) : Type 0 where
  pub weighs : (f : X → ℕ) → sum_by f xs ≡ sum_by f ys

abbrev pub is_done : Answer → Bool
is_done answers.Done = true
is_done _ = false

-- the change that an answer to a command shows, where it was accepted
abbrev pub accepted_by : ℕ → ℕ → Command → ℕ → Answer → List Accepted
accepted_by session line (Edit act once) n answer =
    if is_done answer
    then record { at = n; entry = record { session = session; line = line; act = act } } ∷ []
    else []
accepted_by session line _ n answer = []

-- the mark that an answer shows, where a version was forgotten
abbrev pub forgotten_by : ℕ → ℕ → ℕ → Answer → List Mark
forgotten_by session line n (answers.Forgot v) = mark_of v n session line ∷ []
forgotten_by session line n _ = []

-- those of one session, line by line
abbrev pub accepted_in : ℕ → List ScriptLine → List LineAnswer → List Accepted
accepted_in session [] answers = []
accepted_in session (l ∷ lines) [] = []
accepted_in session (l ∷ lines) (a ∷ answers) = accepted_by session l.line l.command a.at a.answer
    ++ accepted_in session lines answers

abbrev pub forgotten_in : ℕ → List ScriptLine → List LineAnswer → List Mark
forgotten_in session [] answers = []
forgotten_in session (l ∷ lines) [] = []
forgotten_in session (l ∷ lines) (a ∷ answers) = forgotten_by session l.line a.at a.answer
    ++ forgotten_in session lines answers

-- those of all sessions from this one on
abbrev pub of_sessions : {X : Type 0} → (ℕ → List ScriptLine → List LineAnswer → List X) → ℕ
    → List (List ScriptLine) → List (List LineAnswer) → List X
of_sessions of session [] transcripts = []
of_sessions of session (script ∷ scripts) [] = []
of_sessions of session (script ∷ scripts) (transcript ∷ transcripts) = of session script transcript
    ++ of_sessions of (session + 1) scripts transcripts

abbrev pub accepted_of : ℕ → List (List ScriptLine) → List (List LineAnswer) → List Accepted
accepted_of session scripts transcripts = of_sessions accepted_in session scripts transcripts

abbrev pub forgotten_of : ℕ → List (List ScriptLine) → List (List LineAnswer) → List Mark
forgotten_of session scripts transcripts = of_sessions forgotten_in session scripts transcripts

-- the history has as its records, by their numbers, just the accepted changes by their moments, and
-- as its marks, by rising version, just the forgettings, and those of the versions that fell out of
-- the last `keep`, each once
pub record IsShownKeeping (keep : ℕ) (scripts : List (List ScriptLine))
    (transcripts : List (List LineAnswer)) (log : Log) : Type 0 where
  pub records : SameItems (numbered 1 log.records) (accepted_of 0 scripts transcripts)
  pub marks : SameItems log.marks
      (with_fallen keep log.records (forgotten_of 0 scripts transcripts))
  pub rising : AllPairs (λ a b. a.version < b.version) log.marks

-- with 0 all versions are held, and the marks are just the forgettings
abbrev pub IsShown : List (List ScriptLine) → List (List LineAnswer) → Log → Type 0
IsShown scripts transcripts log = IsShownKeeping 0 scripts transcripts log

-- how much the changes accepted at moment n weigh, by a weight of records
abbrev pub weight_at : (Record → ℕ) → ℕ → Accepted → ℕ
weight_at g n c = if c.at == n then g c.entry else 0
