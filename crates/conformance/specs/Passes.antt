-- What a session keeps that runs beside others: it sees a part of the history, and finds versions
-- without a mark.
use Rattle.std.specs.Prelude.{◌≡◌, ℕ, ◌+◌, ◌<◌, ◌≤◌, ◌⊎◌, ◌==◌, List, [], ◌∷◌, ◌++◌, length, All, AllPairs, ⊤}
use Rattle.std.specs.List.{AllZip, Contains, filter}
use Rattle.history_model.specs.Contents.{Content}
use Rattle.history_model.specs.declared.histories.Mark.{Mark}
use Rattle.history_model.specs.Logs.{Log}
use Rattle.node_words.specs.Plans.{Layout}
pub use Rattle.retain.specs.Listing.{Found}
use Rattle.script.specs.declared.commands.ScriptLine.{ScriptLine}
use Rattle.transcript.specs.declared.answers.Answer.TheVariants as answers
use Rattle.transcript.specs.declared.answers.LineAnswer.{LineAnswer}
use Rattle.conformance.specs.Answers.{Answers, ExtendsLog}
use Rattle.conformance.specs.Shown.{Accepted, SameItems, accepted_by, accepted_in}
use Rattle.conformance.specs.Agreeing.{InOrder}

-- the session looked at the version at moment n and found no mark, or it is the newest one then;
-- those that it made itself
-- are by this line or later ones
pub record IsLooked (found : List Found) (own : List Mark) (line n v : ℕ) : Type 0 where
  pub listed : Contains found (record { version = v; at = n }) ⊎ (v ≡ n)
  pub later : All (λ mark. mark.version ≡ v → line ≤ mark.line) own

-- a line's answer fits what its session has seen
pub record LineSeen (p : Layout) (models : List Content) (seen : Log) (found : List Found)
    (own : List Mark) (session : ℕ) (l : ScriptLine) (a : LineAnswer) : Type 0 where
  pub same_line : a.line ≡ l.line
  pub within : a.at ≤ length seen.records
  pub answers : Answers p models seen (IsLooked found own l.line a.at) session l.line a.at
      l.command a.answer

-- a session's lines so far, with its own records and marks. Which marks are its own is told with
-- what else it keeps
pub record PassSoFar (p : Layout) (models : List Content) (session : ℕ) (script : List ScriptLine)
    (transcript : List LineAnswer) (seen : Log) (found : List Found) (records : List Accepted)
    (own : List Mark) : Type 0 where
  pub lines : AllZip (LineSeen p models seen found own session) script transcript
  pub moments : AllPairs InOrder transcript
  pub accepted : SameItems records (accepted_in session script transcript)

-- what one line makes of what the session has seen and done
pub record PassStep (p : Layout) (models : List Content) (session : ℕ) (l : ScriptLine)
    (old new : Log) (found more : List Found) (records now : List Accepted) (own mine : List Mark)
    (a : LineAnswer) : Type 0 where
  pub goes_on : ExtendsLog old new
  pub found_stay : All (Contains more) found
  pub own_or_new : All (λ m. (Contains own m) ⊎ (m.line ≡ l.line)) mine
  pub no_earlier : length old.records ≤ a.at
  pub later : a.answer ≡ answers.Done → length old.records < a.at
  pub unseen : (base : ℕ) → a.answer ≡ answers.Stale base → length old.records ≤ base
  pub fits : LineSeen p models new more mine session l a
  pub accepted : SameItems now (records ++ accepted_by session l.line l.command a.at a.answer)

-- the whole history goes on from what the session saw, forgets no version before the session found
-- it, and has no mark of the session but its own
pub record Closes (seen : Log) (found : List Found) (session : ℕ) (own : List Mark)
    (whole : Log) : Type 0 where
  pub goes_on : ExtendsLog seen whole
  pub excluded : All (λ f. All (λ m. m.version ≡ f.version → f.at ≤ m.at) whole.marks) found
  pub listed : All (λ m. m.session ≡ session → Contains own m) whole.marks
  pub dated : All (λ m. m.version < m.at) whole.marks

-- the items of one session
abbrev pub own_of : {X : Type 0} → (X → ℕ) → ℕ → List X → List X
own_of session_of session items = filter (λ x. session_of x == session) items

-- each session's items are those that its script and transcript show, from this session on
abbrev pub ArePartly : {X : Type 0} → (X → ℕ) → (ℕ → List ScriptLine → List LineAnswer → List X)
    → List X → ℕ → List (List ScriptLine) → List (List LineAnswer) → Type 0
ArePartly session_of of items session [] [] = ⊤
ArePartly session_of of items session [] (transcript ∷ transcripts) = ⊥
ArePartly session_of of items session (script ∷ scripts) [] = ⊥
ArePartly session_of of items session (script ∷ scripts)
    (transcript ∷ transcripts) = SameItems (own_of session_of session items)
    (of session script transcript) × ArePartly session_of of items (session + 1) scripts transcripts
