-- What the laws of this crate say.
use Rattle.std.specs.Prelude.{◌≡◌, ℕ, ◌+◌, ◌-◌, ◌^◌, ◌<◌, ◌≤◌, ◌⊎◌, Bool, true, List, [], ◌∷◌, ◌++◌, length, All, Some, sum_by, slice_index_or}
use Rattle.std.specs.List.{Contains}
use Rattle.history_model.specs.Contents.{Content}
use Rattle.history_model.specs.declared.acts.Act.{Act}
use Rattle.history_model.specs.declared.acts.Act.TheVariants.{Undo, Redo}
use Rattle.history_model.specs.declared.histories.Record.{Record}
use Rattle.history_model.specs.declared.histories.Mark.{Mark}
use Rattle.history_model.specs.Worlds.{is_edit}
use Rattle.history_model.specs.Positions.{position_after, first_of}
use Rattle.history_model.specs.Logs.{Log, IsLegal, SuitsTints}
use Rattle.node_words.specs.Plans.{Layout}
use Rattle.conformance.specs.Versions.{HoldsVersion}
use Rattle.conformance.specs.possible.Needed.{IsPossible}
use Rattle.script.specs.declared.commands.Command.{Command}
use Rattle.script.specs.declared.commands.Command.TheVariants.{Edit, Forget}
use Rattle.script.specs.declared.commands.ScriptLine.{ScriptLine}
use Rattle.transcript.specs.declared.answers.Answer.{Answer}
use Rattle.transcript.specs.declared.answers.Answer.TheVariants as answers
use Rattle.transcript.specs.declared.answers.LineAnswer.{LineAnswer}
use Rattle.conformance.specs.Answers.{IsUnforgotten, IsReadable, IsForgotten, HasReadableTarget, Answers, ExtendsLog, target_at}
use Rattle.conformance.specs.Shown.{Accepted, SameItems, numbered, weight_at, accepted_by, accepted_in, forgotten_in, accepted_of, forgotten_of}
use Rattle.conformance.specs.Agreeing.{AgreesKeeping, SessionAgrees}
use Rattle.conformance.specs.Kinds.{is_resting, answer_at, IsAfter}
use Rattle.conformance.specs.Running.{IsSoFar, LineStep, GrowsByRecord, ForgetsBy, PushesOut, with_pushed}
use Rattle.conformance.specs.Passes.{Found, PassSoFar, PassStep, Closes, ArePartly}
use Rattle.conformance.specs.Refusing.{spans_of, refused_of, FullOnlyWherePossible}

-- an answer that fits a history fits every one that goes on from it, as long as the versions stand
-- that it rests on
abbrev pub AnswersGoOn : Type 0
AnswersGoOn = (old new : Log) → ExtendsLog old new → (n : ℕ) → n ≤ length old.records
    → (session line : ℕ)
    → ((v : ℕ) → v ≤ n → IsUnforgotten old.marks session line n v
    → IsUnforgotten new.marks session line n v)
    → (p : Layout) (models : List Content) (command : Command) (answer : Answer)
    → Answers p models old (IsUnforgotten old.marks session line n) session line n command answer
    → Answers p models new (IsUnforgotten new.marks session line n) session line n command answer

-- ---- scripts one after another

abbrev pub RunsBegin : Type 0
RunsBegin = (since keep : ℕ) (p : Layout) (models : List Content) (coloured : Bool)
    → IsSoFar since keep p models [] [] [] []
    (record { side = p.side; coloured = coloured; records = []; marks = [] })

abbrev pub RunsGoOnByLines : Type 0
RunsGoOnByLines = (since keep : ℕ) (p : Layout) (models : List Content)
    (scripts : List (List ScriptLine)) (transcripts : List (List LineAnswer))
    (script : List ScriptLine) (transcript : List LineAnswer)
    (l : ScriptLine) (old new : Log) (a : LineAnswer)
    → IsSoFar since keep p models scripts transcripts script transcript old
    → since ≤ length old.records
    → All (λ k. k.line < l.line) script → LineStep keep p models (length scripts) l old new a
    → IsSoFar since keep p models scripts transcripts (script ++ l ∷ []) (transcript ++ a ∷ []) new

abbrev pub RunsGoOnByScripts : Type 0
RunsGoOnByScripts = (since keep : ℕ) (p : Layout) (models : List Content)
    (scripts : List (List ScriptLine)) (transcripts : List (List LineAnswer))
    (script : List ScriptLine) (transcript : List LineAnswer) (log : Log)
    → IsSoFar since keep p models scripts transcripts script transcript log
    → IsSoFar since keep p models (scripts ++ script ∷ [])
    (transcripts ++ transcript ∷ []) [] [] log

abbrev pub RunsAgree : Type 0
RunsAgree = (keep : ℕ) (p : Layout) (models : List Content) (scripts : List (List ScriptLine))
    (transcripts : List (List LineAnswer)) (log : Log)
    → IsSoFar 0 keep p models scripts transcripts [] [] log
    → IsLegal (2 ^ p.side) models log × SuitsTints log
    × AgreesKeeping keep p models log scripts transcripts

-- a run that held all versions may hold the last ones alone from its newest moment on
abbrev pub RunsHoldLast : Type 0
RunsHoldLast = (since keep : ℕ) (p : Layout) (models : List Content)
    (scripts : List (List ScriptLine)) (transcripts : List (List LineAnswer))
    (script : List ScriptLine) (transcript : List LineAnswer) (log : Log)
    → IsSoFar since 0 p models scripts transcripts script transcript log
    → IsSoFar (length log.records) keep p models scripts transcripts script transcript log

-- where all versions are held, the marks are those made by hand
abbrev pub NoneIsPushed : Type 0
NoneIsPushed = (since : ℕ) (records : List Accepted) (forgot : List Mark)
    → with_pushed since 0 records forgot ≡ forgot

-- ---- what each kind of answer makes of a history

abbrev pub AcceptedChangesAreSteps : Type 0
AcceptedChangesAreSteps = (p : Layout) (models : List Content) (session line : ℕ) (act : Act)
    (once : Bool) (old new : Log)
    → GrowsByRecord p models (record { session = session; line = line; act = act }) old new
    → LineStep 0 p models session (record { line = line; command = Edit act once }) old new
    (record { line = line; at = length old.records + 1; answer = answers.Done })

abbrev pub ForgettingsAreSteps : Type 0
ForgettingsAreSteps = (keep : ℕ) (p : Layout) (models : List Content) (mark : Mark)
    (old new : Log)
    → ForgetsBy p models mark old new
    → LineStep keep p models mark.session
    (record { line = mark.line; command = Forget mark.version }) old new
    (record { line = mark.line; at = length old.records; answer = answers.Forgot mark.version })

abbrev pub RestingAnswersAreSteps : Type 0
RestingAnswersAreSteps =
    (keep : ℕ) (p : Layout) (models : List Content) (session : ℕ) (l : ScriptLine)
    (log : Log) (answer : Answer)
    → IsLegal (2 ^ p.side) models log → is_resting answer ≡ true
    → Answers p models log
    (IsUnforgotten log.marks session l.line (length log.records)) session l.line
    (length log.records) l.command answer
    → LineStep keep p models session l log log (answer_at l (length log.records) answer)

-- and what its record pushes out of the last `keep` versions is marked by its line
abbrev pub PushedVersionsAreSteps : Type 0
PushedVersionsAreSteps = (keep : ℕ) (p : Layout) (models : List Content) (session line : ℕ)
    (act : Act) (once : Bool) (old mid new : Log)
    → LineStep 0 p models session (record { line = line; command = Edit act once }) old mid
    (record { line = line; at = length mid.records; answer = answers.Done })
    → mid.records ≡ old.records ++ record { session = session; line = line; act = act } ∷ []
    → mid.marks ≡ old.marks → PushesOut keep p models session line mid new
    → LineStep keep p models session (record { line = line; command = Edit act once }) old new
    (record { line = line; at = length mid.records; answer = answers.Done })

-- a line that accepts no change pushes none out
abbrev pub OtherLinesAreSteps : Type 0
OtherLinesAreSteps = (keep : ℕ) (p : Layout) (models : List Content) (session : ℕ) (l : ScriptLine)
    (old new : Log) (a : LineAnswer)
    → accepted_by session l.line l.command a.at a.answer ≡ []
    → LineStep 0 p models session l old new a → LineStep keep p models session l old new a

-- a version that no mark forgets can be read
abbrev pub HeldVersionsAreReadable : Type 0
HeldVersionsAreReadable = (log : Log) (session line v : ℕ) → HoldsVersion log v
    → IsReadable (IsUnforgotten log.marks session line (length log.records)) (length log.records) v

-- and one with a mark is forgotten for each further line
abbrev pub MarkedVersionsAreForgotten : Type 0
MarkedVersionsAreForgotten = (since keep : ℕ) (p : Layout) (models : List Content)
    (scripts : List (List ScriptLine)) (transcripts : List (List LineAnswer))
    (script : List ScriptLine) (transcript : List LineAnswer)
    (l : ScriptLine) (log : Log) (mark : Mark)
    → IsSoFar since keep p models scripts transcripts script transcript log → IsAfter script l
    → Contains log.marks mark
    → IsForgotten log.marks (length scripts) l.line (length log.records) mark.version

abbrev pub UndosGoToPast : Type 0
UndosGoToPast = (records : List Record)
    → target_at records (length records) Undo ≡ first_of (position_after records).past

abbrev pub RedosGoToFuture : Type 0
RedosGoToFuture = (records : List Record)
    → target_at records (length records) Redo ≡ first_of (position_after records).future

-- an edit has its way, and so has an undo or a redo whose target is kept
abbrev pub HeldTargetsAreReadable : Type 0
HeldTargetsAreReadable = (log : Log) (session line : ℕ) (act : Act)
    → (is_edit act ≡ true)
    ⊎ ((to : ℕ) × (target_at log.records (length log.records) act ≡ Some to) × HoldsVersion log to)
    → HasReadableTarget (IsUnforgotten log.marks session line (length log.records)) log.records
    (length log.records) act

-- ---- sessions beside each other

abbrev pub PassesGoOn : Type 0
PassesGoOn = (p : Layout) (models : List Content) (session : ℕ) (script : List ScriptLine)
    (transcript : List LineAnswer) (l : ScriptLine) (old new : Log) (found more : List Found)
    (records now : List Accepted) (own mine : List Mark) (a : LineAnswer)
    → PassSoFar p models session script transcript old found records own → IsAfter script l
    → PassStep p models session l old new found more records now own mine a
    → PassSoFar p models session (script ++ l ∷ []) (transcript ++ a ∷ []) new more now mine

-- at the end a session agrees with the whole history, as long as that forgets no version before the
-- session found it
abbrev pub PassesAgree : Type 0
PassesAgree = (p : Layout) (models : List Content) (session : ℕ) (script : List ScriptLine)
    (transcript : List LineAnswer) (seen whole : Log) (found : List Found) (records : List Accepted)
    (own : List Mark)
    → PassSoFar p models session script transcript seen found records own
    → Closes seen found session own whole
    → SessionAgrees p models whole session script transcript

-- what all sessions show is what each of them shows, both ways, for records and for marks
abbrev pub OwnRecordsAreAll : Type 0
OwnRecordsAreAll = (log : Log) (scripts : List (List ScriptLine))
    (transcripts : List (List LineAnswer))
    → All (λ c. c.entry.session < length scripts) (numbered 1 log.records)
    → ArePartly (λ c. c.entry.session) accepted_in (numbered 1 log.records) 0 scripts transcripts
    → SameItems (numbered 1 log.records) (accepted_of 0 scripts transcripts)

abbrev pub OwnMarksAreAll : Type 0
OwnMarksAreAll = (log : Log) (scripts : List (List ScriptLine))
    (transcripts : List (List LineAnswer))
    → All (λ m. m.session < length scripts) log.marks
    → ArePartly (λ m. m.session) forgotten_in log.marks 0 scripts transcripts
    → SameItems log.marks (forgotten_of 0 scripts transcripts)

abbrev pub AllRecordsAreOwn : Type 0
AllRecordsAreOwn = (log : Log) (scripts : List (List ScriptLine))
    (transcripts : List (List LineAnswer))
    → length scripts ≡ length transcripts
    → SameItems (numbered 1 log.records) (accepted_of 0 scripts transcripts)
    → ArePartly (λ c. c.entry.session) accepted_in (numbered 1 log.records) 0 scripts transcripts

abbrev pub AllMarksAreOwn : Type 0
AllMarksAreOwn = (log : Log) (scripts : List (List ScriptLine))
    (transcripts : List (List LineAnswer))
    → length scripts ≡ length transcripts
    → SameItems log.marks (forgotten_of 0 scripts transcripts)
    → ArePartly (λ m. m.session) forgotten_in log.marks 0 scripts transcripts

-- ---- what is shown

-- each number from 1 to that of the records is the moment of just one accepted change, which weighs
-- what that record
-- weighs, by every weight
abbrev pub RecordsAreShownOnce : Type 0
RecordsAreShownOnce = (records : List Record) (accepted : List Accepted)
    → SameItems (numbered 1 records) accepted
    → (g : Record → ℕ) (n : ℕ) (d : Record) → 1 ≤ n → n ≤ length records
    → sum_by (weight_at g n) accepted ≡ g (slice_index_or records (n - 1) d)

-- and no change was accepted at any other moment
abbrev pub NoOthersAreShown : Type 0
NoOthersAreShown = (records : List Record) (accepted : List Accepted)
    → SameItems (numbered 1 records) accepted
    → (g : Record → ℕ) (n : ℕ) → length records < n → sum_by (weight_at g n) accepted ≡ 0

abbrev pub NoneIsShownAtZero : Type 0
NoneIsShownAtZero = (records : List Record) (accepted : List Accepted)
    → SameItems (numbered 1 records) accepted
    → (g : Record → ℕ) → sum_by (weight_at g 0) accepted ≡ 0

-- where nowhere enough is possible, no change was refused for a full bucket
abbrev pub NeverFullWhereTooFew : Type 0
NeverFullWhereTooFew = (p : Layout) (models : List Content) (log : Log)
    (scripts : List (List ScriptLine)) (transcripts : List (List LineAnswer))
    → FullOnlyWherePossible p models log scripts transcripts
    → ((level bucket : ℕ)
    → ¬ IsPossible p models log.records (spans_of scripts transcripts) level bucket p.cap)
    → refused_of scripts transcripts ≡ []
