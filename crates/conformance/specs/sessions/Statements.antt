-- What the laws of this crate say.
use Rattle.std.specs.Prelude.{◌≡◌, ℕ, ◌<◌, ◌≤◌, ◌⊎◌, Bool, true, Some, List, [], ◌∷◌, ◌++◌, length}
use Rattle.history_model.specs.Contents.{Content}
use Rattle.history_model.specs.declared.acts.Act.{Act}
use Rattle.history_model.specs.Worlds.{is_edit}
use Rattle.history_model.specs.Logs.{Log}
use Rattle.history_model.specs.Moments.{world_has}
use Rattle.node_words.specs.Plans.{Layout}
use Rattle.script.specs.declared.commands.Command.TheVariants.{Edit, Forget}
use Rattle.script.specs.declared.commands.ScriptLine.{ScriptLine}
use Rattle.transcript.specs.declared.answers.Answer.{Answer}
use Rattle.transcript.specs.declared.answers.Answer.TheVariants as answers
use Rattle.transcript.specs.declared.answers.LineAnswer.{LineAnswer}
use Rattle.conformance.specs.Answers.{Answers, ExtendsLog, IsForgotten, IsReadable, HasReadableTarget, target_at}
use Rattle.conformance.specs.Kinds.{IsAfter, is_resting, answer_at}
use Rattle.conformance.specs.Passes.{IsLooked}
use Rattle.conformance.specs.Refusing.{refused_by}
use Rattle.conformance.specs.Runs.{AllRanKeeping}
use Rattle.conformance.specs.scripts.Keeping.{MadeAndMet}
use Rattle.conformance.specs.sessions.SessionViews.{SessionOf, SessionView, SeesSuited, DidNothing, history_seen}
use Rattle.conformance.specs.sessions.Ran.{SessionRan, SessionsRanKeeping, ClosesWorld}
use Rattle.conformance.specs.sessions.Lines.{AreEarlier, AnswersLine, SuitsCommand, SessionSoFar}
use Rattle.conformance.specs.sessions.Calls.{KnowsOwn, AcceptsNothing, OnlySees, AppendsOwn, ForgetsOwn, NotesFor, MeetsFullBucket, FindsVersion, SeesForgotten}

-- sessions that ran beside each other in a world that was closed are a run of their scripts, which
-- holds as many last versions as they did
abbrev pub SessionsAreARun : Type 0
SessionsAreARun = (keep : ℕ) (tint : Bool) (p : Layout) (models : List Content)
    (scripts : List (List ScriptLine)) (transcripts : List (List LineAnswer))
    (sessions : List SessionView) (log : Log)
    → SessionsRanKeeping keep tint p models 0 scripts transcripts sessions
    → ClosesWorld tint p models sessions log
    → AllRanKeeping keep p models scripts transcripts log

-- what a session saw of a version is what the history has
abbrev pub SeenWorldsStay : Type 0
SeenWorldsStay = (models : List Content) (seen log : Log) (version : ℕ)
    → ExtendsLog seen log → version ≤ length seen.records
    → world_has models log.records version ≡ world_has models seen.records version

-- ---- line by line

abbrev pub SessionsBegin : Type 0
SessionsBegin = (of : SessionOf) (s : SessionView)
    → DidNothing s → SessionSoFar of [] [] s.noted s

abbrev pub MarksAreEarlier : Type 0
MarksAreEarlier = (of : SessionOf) (script : List ScriptLine)
    (answers : List LineAnswer) (before : MadeAndMet) (s : SessionView) (l : ScriptLine)
    → SessionSoFar of script answers before s → IsAfter script l
    → AreEarlier s l.line

abbrev pub SessionsGoOn : Type 0
SessionsGoOn = (of : SessionOf) (script : List ScriptLine)
    (answers : List LineAnswer) (before : MadeAndMet) (old new : SessionView) (l : ScriptLine)
    (a : LineAnswer)
    → SessionSoFar of script answers before old → IsAfter script l
    → SuitsCommand of.tint l.command → AnswersLine of l old new a
    → SessionSoFar of (script ++ l ∷ []) (answers ++ a ∷ []) before new

abbrev pub SessionsEnd : Type 0
SessionsEnd = (of : SessionOf) (script : List ScriptLine)
    (answers : List LineAnswer) (before : MadeAndMet) (s : SessionView)
    → SessionSoFar of script answers before s
    → SessionRan of script answers before s

-- ---- what the calls of a session make of a line

-- the line's change was accepted
abbrev pub AcceptedActsTakeLines : Type 0
AcceptedActsTakeLines = (of : SessionOf) (line : ℕ) (act : Act)
    (once : Bool) (old new : SessionView)
    → AppendsOwn of.keep of.number line act old new
    → NotesFor of.plan of.models act old new
    → AnswersLine of (record { line = line; command = Edit act once }) old new
    (record { line = line; at = length new.log.records; answer = answers.Done })

-- it was refused for a full bucket
abbrev pub MetBucketsTakeLines : Type 0
MetBucketsTakeLines = (of : SessionOf) (line : ℕ) (act : Act)
    (once : Bool) (level bucket : ℕ) (old new : SessionView)
    → AcceptsNothing old new
    → MeetsFullBucket of.plan of.models act level bucket old new
    → AnswersLine of (record { line = line; command = Edit act once }) old new
    (record { line = line; at = length new.log.records; answer = answers.Full level bucket })

-- it was tried once, and the history had become longer than the one that it was tried on
abbrev pub StaleTriesTakeLines : Type 0
StaleTriesTakeLines = (of : SessionOf) (line : ℕ) (act : Act)
    (base : ℕ) (old new : SessionView)
    → AcceptsNothing old new → NotesFor of.plan of.models act old new
    → length old.log.records ≤ base → base < length new.log.records
    → length new.log.records < 65535
    → AnswersLine of (record { line = line; command = Edit act true }) old new
    (record { line = line; at = length new.log.records; answer = answers.Stale base })

-- it was refused for another reason: the history is full, or there is no version to go to
abbrev pub RefusedActsTakeLines : Type 0
RefusedActsTakeLines = (of : SessionOf) (line : ℕ) (act : Act)
    (once : Bool) (answer : Answer) (old new : SessionView)
    → AcceptsNothing old new → NotesFor of.plan of.models act old new
    → is_resting answer ≡ true
    → refused_by (Edit act once) (length new.log.records) answer ≡ []
    → (SeesSuited of new → Answers of.plan of.models (history_seen of new)
    (IsLooked new.found new.marks line (length new.log.records))
    of.number line (length new.log.records) (Edit act once) answer)
    → AnswersLine of (record { line = line; command = Edit act once }) old new
    (record { line = line; at = length new.log.records; answer = answer })

-- a version was forgotten
abbrev pub ForgottenVersionsTakeLines : Type 0
ForgottenVersionsTakeLines = (of : SessionOf) (line version : ℕ)
    (old new : SessionView)
    → ForgetsOwn of.number line version old new
    → AnswersLine of (record { line = line; command = Forget version }) old new
    (record { line = line; at = length new.log.records; answer = answers.Forgot version })

-- the line was answered, and nothing but what was seen has changed
abbrev pub RestingLinesTakeLines : Type 0
RestingLinesTakeLines = (of : SessionOf) (l : ScriptLine)
    (answer : Answer) (old new : SessionView)
    → OnlySees old new → is_resting answer ≡ true
    → refused_by l.command (length new.log.records) answer ≡ []
    → (SeesSuited of new → Answers of.plan of.models (history_seen of new)
    (IsLooked new.found new.marks l.line (length new.log.records))
    of.number l.line (length new.log.records) l.command answer)
    → AnswersLine of l old new (answer_at l (length new.log.records) answer)

-- a version that was found without a mark is readable, and so is the newest one
abbrev pub FoundVersionsAreReadable : Type 0
FoundVersionsAreReadable = (session line : ℕ) (s : SessionView) (version : ℕ)
    → KnowsOwn session s → FindsVersion s version
    → IsReadable (IsLooked s.found s.marks line (length s.log.records)) (length s.log.records)
    version

-- and one with a mark is forgotten for the line
abbrev pub SeenMarksForget : Type 0
SeenMarksForget = (session line : ℕ) (s : SessionView) (version : ℕ)
    → KnowsOwn session s → AreEarlier s line → SeesForgotten s version
    → IsForgotten s.log.marks session line (length s.log.records) version

-- an edit has its way, and so has an undo or a redo whose target was found without a mark
abbrev pub FoundTargetsAreReadable : Type 0
FoundTargetsAreReadable = (session line : ℕ) (s : SessionView) (act : Act)
    → KnowsOwn session s
    → (is_edit act ≡ true)
    ⊎ ((to : ℕ) × (target_at s.log.records (length s.log.records) act ≡ Some to)
    × FindsVersion s to)
    → HasReadableTarget (IsLooked s.found s.marks line (length s.log.records)) s.log.records
    (length s.log.records) act
