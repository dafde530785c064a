-- What sessions saved, each with the history that its session saw.
use Rattle.std.specs.Prelude.{List, [], ◌∷◌, ◌++◌, map}
use Rattle.history_model.specs.Logs.{Log}
use Rattle.script.specs.declared.commands.ScriptLine.{ScriptLine}
use Rattle.transcript.specs.declared.answers.LineAnswer.{LineAnswer}
use Rattle.conformance.specs.declared.saves.SavedBox.{SavedBox}
use Rattle.conformance.specs.Saves.{saved_in, saved_of}
use Rattle.conformance.specs.sessions.SessionViews.{SessionView}

pub record LoggedSave : Type 0 where
  pub save : SavedBox
  pub seen : Log

abbrev pub logged_at : Log → SavedBox → LoggedSave
logged_at log save = record { save = save; seen = log }

-- of all sessions, in order
abbrev pub logged_of : List (List ScriptLine) → List (List LineAnswer) → List SessionView
    → List LoggedSave
logged_of (script ∷ scripts) (answers ∷ transcripts) (s ∷ sessions) =
    map (logged_at s.log) (saved_in script answers) ++ logged_of scripts transcripts sessions
logged_of _ _ _ = []

-- the same, where all saw one history
abbrev pub logged_by : List (List ScriptLine) → List (List LineAnswer) → Log → List LoggedSave
logged_by scripts transcripts log = map (logged_at log) (saved_of scripts transcripts)
