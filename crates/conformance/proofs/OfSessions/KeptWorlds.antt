-- What is made of the saves that sessions saw is made of those of the whole history.
use Rattle.std.proofs.Common.{◌≡◌, ℕ, ◌+◌, ◌≤◌, Bool, List, [], ◌∷◌, ◌++◌, length, map, refl, ap, sym, ◌∙◌, arith}
use Rattle.std.specs.Prelude.{All}
use Rattle.std.specs.List.{Contains}
use Rattle.std.proofs.lemmas.List.Elements.{All-head, All-tail, Contains-append_left, Contains-append_right}
use Rattle.history_model.specs.Contents.{Content}
use Rattle.history_model.specs.Logs.{Log}
use Rattle.node_words.specs.Plans.{Layout}
use Rattle.script.specs.declared.commands.ScriptLine.{ScriptLine}
use Rattle.transcript.specs.declared.answers.LineAnswer.{LineAnswer}
use Rattle.conformance.specs.declared.saves.SavedBox.{SavedBox}
use Rattle.conformance.specs.Answers.{ExtendsLog}
use Rattle.conformance.specs.Saves.{saved_in, saved_of}
use Rattle.conformance.specs.sessions.SessionViews.{SessionView, SuitsWorld, log_as}
use Rattle.conformance.specs.sessions.LoggedSaves.{LoggedSave, logged_at, logged_of, logged_by}
use Rattle.conformance.specs.sessions.Ran.{SessionsRanKeeping}
use Rattle.conformance.proofs.OfSessions.SuitLaws.{suits_before}

map_both : {X Y : Type 0} (f : X → Y) (xs ys : List X) → map f (xs ++ ys) ≡ map f xs ++ map f ys
map_both f [] ys = refl
map_both {Y = Y} f (x ∷ xs) ys = ap (λ (zs : List Y). f x ∷ zs) (map_both f xs ys)

-- what is made of a save as a session saw it, and of one of the history; of each save that is good,
-- and of a version that was seen, both are the same
module _ {X : Type 0} (seen told : LoggedSave → X) (Good : SavedBox → Type 0) (tint : Bool)
    (p : Layout)
    (models : List Content) (log : Log)
    (same : (save : SavedBox) (s : Log) → SuitsWorld tint p models (log_as tint s)
    → ExtendsLog (log_as tint s) log → save.version ≤ length s.records → Good save
    → seen (logged_at s save) ≡ told (logged_at log save)) where
  one_session : (s : SessionView) (saved : List SavedBox)
      → SuitsWorld tint p models (log_as tint s.log) → ExtendsLog (log_as tint s.log) log
      → All (λ save. save.version ≤ length s.log.records) saved
      → ((save : SavedBox) → Contains saved save → Good save)
      → map seen (map (logged_at s.log) saved) ≡ map told (map (logged_at log) saved)
  one_session s [] suits g there good = refl
  one_session s (save ∷ saved) suits g there good =
      let here : seen (logged_at s.log save) ≡ told (logged_at log save) =
      same save s.log suits g
      (All-head (λ t. t.version ≤ length s.log.records) save saved there)
      (good save (0, omega arith, refl))
      in
      let rest = one_session s saved suits g
      (All-tail (λ t. t.version ≤ length s.log.records) save saved there)
      (λ t is. good t (Contains-append_right (save ∷ []) saved t is)) in
      ap (λ (x : X). x ∷ map seen (map (logged_at s.log) saved)) here
      ∙ ap (λ (xs : List X). told (logged_at log save) ∷ xs) rest

  pub saved_stay : (keep first : ℕ) (scripts : List (List ScriptLine))
      (transcripts : List (List LineAnswer)) (sessions : List SessionView)
      → SessionsRanKeeping keep tint p models first scripts transcripts sessions
      → SuitsWorld tint p models log → All (λ s. ExtendsLog (log_as tint s.log) log) sessions
      → ((save : SavedBox) → Contains (saved_of scripts transcripts) save → Good save)
      → map seen (logged_of scripts transcripts sessions) ≡ map told (logged_by scripts transcripts log)
  saved_stay keep first [] [] [] ran suits all good = refl
  saved_stay keep first (script ∷ scripts) (answers ∷ transcripts)
      (s ∷ sessions) ran suits all good =
      let g : ExtendsLog (log_as tint s.log) log =
      All-head (λ t. ExtendsLog (log_as tint t.log) log) s sessions all
      in
      let early = suits_before tint p models (log_as tint s.log) log g suits in
      let here = one_session s (saved_in script answers) early g (ran.0.saves early)
      (λ t is. good t
      (Contains-append_left (saved_in script answers) (saved_of scripts transcripts) t is)) in
      let rest = saved_stay keep (first + 1) scripts transcripts sessions ran.1 suits
      (All-tail (λ t. ExtendsLog (log_as tint t.log) log) s sessions all)
      (λ t is. good t
      (Contains-append_right (saved_in script answers) (saved_of scripts transcripts) t is)) in
      map_both seen (map (logged_at s.log) (saved_in script answers))
      (logged_of scripts transcripts sessions)
      ∙ ap (λ (xs : List X). xs ++ map seen (logged_of scripts transcripts sessions)) here
      ∙ ap (λ (xs : List X). map told (map (logged_at log) (saved_in script answers)) ++ xs) rest
      ∙ sym (map_both told (map (logged_at log) (saved_in script answers))
      (map (logged_at log) (saved_of scripts transcripts)))
      ∙ ap (map told)
      (sym (map_both (logged_at log) (saved_in script answers) (saved_of scripts transcripts)))
  saved_stay keep first _ _ _ ran suits all good = absurd ran
