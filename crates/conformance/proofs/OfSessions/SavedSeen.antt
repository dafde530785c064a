-- What a session saved are versions that it has seen.
use Rattle.std.proofs.Common.{◌≡◌, ℕ, ◌≤◌, Bool, List, [], ◌∷◌, length, refl, sym, subst, arith}
use Rattle.std.specs.Prelude.{All}
use Rattle.std.specs.List.{AllZip}
use Rattle.std.proofs.lemmas.List.Elements.{All-nil, All-cons, All-append, All-weaker}
use Rattle.history_model.specs.Contents.{Content}
use Rattle.history_model.specs.Logs.{Log}
use Rattle.node_words.specs.Plans.{Layout}
use Rattle.script.specs.declared.commands.Command.{Command}
use Rattle.script.specs.declared.commands.Command.TheVariants.{Edit, Forget, Ask, Save, Same, Head}
use Rattle.script.specs.declared.commands.ScriptLine.{ScriptLine}
use Rattle.transcript.specs.declared.answers.Answer.{Answer}
use Rattle.transcript.specs.declared.answers.Answer.TheVariants as answers
use Rattle.transcript.specs.declared.answers.LineAnswer.{LineAnswer}
use Rattle.conformance.specs.declared.saves.SavedBox.{SavedBox}
use Rattle.conformance.specs.Answers.{Answers, saves, no_version, forgotten}
use Rattle.conformance.specs.Passes.{LineSeen}
use Rattle.conformance.specs.Saves.{saved_by, saved_in}
use Rattle.conformance.specs.sessions.SessionViews.{SessionView, log_as}

none_missing : (command : Command) (n v : ℕ) → saved_by command n (answers.NoVersion v) ≡ []
none_missing (Edit act once) n v = refl
none_missing (Forget u) n v = refl
none_missing (Ask version question) n v = refl
none_missing (Save version name part) n v = refl
none_missing (Same u w) n v = refl
none_missing Head n v = refl

none_forgotten : (command : Command) (n v : ℕ) → saved_by command n (answers.Forgotten v) ≡ []
none_forgotten (Edit act once) n v = refl
none_forgotten (Forget u) n v = refl
none_forgotten (Ask version question) n v = refl
none_forgotten (Save version name part) n v = refl
none_forgotten (Same u w) n v = refl
none_forgotten Head n v = refl

module _ (p : Layout) (models : List Content) (log : Log) (Unforgotten : ℕ → Type 0)
    (session line n : ℕ) where
  line_saves : (command : Command) (answer : Answer)
      → Answers p models log Unforgotten session line n command answer
      → All (λ (s : SavedBox). s.version ≤ n) (saved_by command n answer)
  line_saves command answer (saves version name part cells readable e) = All-cons
      (λ (s : SavedBox). s.version ≤ n) _ [] readable.there
      (All-nil (λ (s : SavedBox). s.version ≤ n))
  line_saves command answer (no_version c v named over) = subst
      (λ (ss : List SavedBox). All (λ s. s.version ≤ n) ss) (sym (none_missing c n v))
      (All-nil (λ (s : SavedBox). s.version ≤ n))
  line_saves command answer (forgotten c v up f) = subst
      (λ (ss : List SavedBox). All (λ s. s.version ≤ n) ss) (sym (none_forgotten c n v))
      (All-nil (λ (s : SavedBox). s.version ≤ n))
  line_saves command answer _ = All-nil (λ (s : SavedBox). s.version ≤ n)

pub saves_seen : (tint : Bool) (p : Layout) (models : List Content) (session : ℕ) (s : SessionView)
    (script : List ScriptLine) (transcript : List LineAnswer)
    → AllZip (LineSeen p models (log_as tint s.log) s.found s.marks session) script transcript
    → All (λ (save : SavedBox). save.version ≤ length s.log.records) (saved_in script transcript)
saves_seen tint p models session s [] transcript all =
    All-nil (λ (save : SavedBox). save.version ≤ length s.log.records)
saves_seen tint p models session s (l ∷ script) [] all =
    All-nil (λ (save : SavedBox). save.version ≤ length s.log.records)
saves_seen tint p models session s (l ∷ script) (a ∷ transcript) all =
    let within : a.at ≤ length s.log.records = all.0.within in
    All-append (λ (save : SavedBox). save.version ≤ length s.log.records)
    (saved_by l.command a.at a.answer) (saved_in script transcript)
    (All-weaker (λ (save : SavedBox). save.version ≤ a.at)
    (λ (save : SavedBox). save.version ≤ length s.log.records) (λ save low. omega arith)
    (saved_by l.command a.at a.answer)
    (line_saves p models
    (log_as tint s.log) _ session l.line a.at l.command a.answer all.0.answers))
    (saves_seen tint p models session s script transcript all.1)
