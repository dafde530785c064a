-- What each arm of a responder has to show, by what it did: a change was accepted and became a
-- record, a version was forgotten, a change met a full bucket, or nothing changed.
use Rattle.std.specs.Prelude.{◌≡◌, ℕ, ◌+◌, ◌^◌, ◌≤◌, Bool, true, List, [], ◌∷◌, ◌++◌, length}
use Rattle.vox_read.specs.Contents.{Content}
use Rattle.history_model.specs.declared.acts.Act.{Act}
use Rattle.history_model.specs.declared.histories.Mark.{Mark}
use Rattle.history_model.specs.declared.histories.Record.{Record}
use Rattle.history_model.specs.Logs.{Log, IsLegal}
use Rattle.history_model.specs.Worlds.{is_edit}
use Rattle.node_words.specs.shapes.Shape.{Shape, IsPart}
use Rattle.node_words.specs.Gathering.{Grew, Fails}
use Rattle.node_words.specs.Held.{StoreState}
use Rattle.node_words.specs.Plans.{Layout}
use Rattle.script.specs.declared.commands.Command.TheVariants.{Edit, Forget}
use Rattle.script.specs.declared.commands.ScriptLine.{ScriptLine}
use Rattle.transcript.specs.declared.answers.Answer.{Answer}
use Rattle.transcript.specs.declared.answers.Answer.TheVariants as answers
use Rattle.transcript.specs.declared.answers.LineAnswer.{LineAnswer}
use Rattle.conformance.specs.Answers.{IsUnforgotten, Answers}
use Rattle.conformance.specs.Kinds.{is_resting, answer_at}
use Rattle.conformance.specs.Refusing.{refused_by}
use Rattle.conformance.specs.Running.{GrowsByRecord, ForgetsBy, PushesOut}
use Rattle.conformance.specs.Shown.{accepted_by}
use Rattle.conformance.specs.scripts.Keeping.{MadeAndMet, made_and_met, IsWanted, IsPlainTarget, MeetsFull, last_moment}
use Rattle.conformance.specs.scripts.Sessions.{IsRunning, TakesLine}

-- an edit of the newest version was rebuilt in the store, and became a record
abbrev pub RebuiltEditsTakeLines : Type 0
RebuiltEditsTakeLines = (p : Layout) (models : List Content) (session first line : ℕ) (act : Act)
    (once : Bool) (log new : Log) (made now : MadeAndMet)
    → GrowsByRecord p models (record { session = session; line = line; act = act }) log new
    → first ≤ length log.records
    → Grew (IsWanted p models log.records act (length log.records)) made.made now.made
    → now.met ≡ made.met
    → TakesLine 0 p models session first (record { line = line; command = Edit act once }) log new
    made now (record { line = line; at = length log.records + 1; answer = answers.Done })

-- an undo or a redo became a record: nothing was made, since its root is one that was kept
abbrev pub UndosTakeLines : Type 0
UndosTakeLines = (p : Layout) (models : List Content) (session first line : ℕ) (act : Act)
    (once : Bool) (log new : Log) (noted : MadeAndMet)
    → GrowsByRecord p models (record { session = session; line = line; act = act }) log new
    → TakesLine 0 p models session first (record { line = line; command = Edit act once }) log new
    noted noted (record { line = line; at = length log.records + 1; answer = answers.Done })

-- a version was forgotten
abbrev pub ForgettingsTakeLines : Type 0
ForgettingsTakeLines = (keep : ℕ) (p : Layout) (models : List Content) (first : ℕ) (mark : Mark)
    (log new : Log) (noted : MadeAndMet)
    → ForgetsBy p models mark log new
    → TakesLine keep p models mark.session first
    (record { line = mark.line; command = Forget mark.version }) log new noted noted
    (record { line = mark.line; at = length log.records; answer = answers.Forgot mark.version })

-- an edit of the newest version met a full bucket
abbrev pub FullBucketsTakeLines : Type 0
FullBucketsTakeLines =
    (keep : ℕ) (p : Layout) (models : List Content) (session first line : ℕ) (act : Act)
    (once : Bool) (level bucket : ℕ) (log : Log) (old new : StoreState)
    → IsLegal (2 ^ p.side) models log → old.plan ≡ p → first ≤ length log.records
    → MeetsFull (IsWanted p models log.records act (length log.records)) level bucket old new
    → TakesLine keep p models session first
    (record { line = line; command = Edit act once }) log log
    (made_and_met old) (made_and_met new)
    (record { line = line; at = length log.records; answer = answers.Full level bucket })

-- an edit of the newest version was rebuilt in the store, and the history has all records that one
-- can have
abbrev pub LateEditsTakeLines : Type 0
LateEditsTakeLines =
    (keep : ℕ) (p : Layout) (models : List Content) (session first line : ℕ) (act : Act)
    (once : Bool) (log : Log) (made now : MadeAndMet)
    → IsLegal (2 ^ p.side) models log → length log.records ≡ 65535
    → is_edit act ≡ true → first ≤ length log.records
    → Grew (IsWanted p models log.records act (length log.records)) made.made now.made
    → now.met ≡ made.met
    → TakesLine keep p models session first
    (record { line = line; command = Edit act once }) log log
    made now (record { line = line; at = length log.records; answer = answers.LogFull })

-- the line was answered at the newest moment, and nothing changed
abbrev pub RestingAnswersTakeLines : Type 0
RestingAnswersTakeLines =
    (keep : ℕ) (p : Layout) (models : List Content) (session first : ℕ) (l : ScriptLine)
    (log : Log) (answer : Answer) (noted : MadeAndMet)
    → IsLegal (2 ^ p.side) models log → is_resting answer ≡ true
    → refused_by l.command (length log.records) answer ≡ []
    → Answers p models log
    (IsUnforgotten log.marks session l.line (length log.records)) session l.line
    (length log.records) l.command answer
    → TakesLine keep p models session first l log log noted noted
    (answer_at l (length log.records) answer)

-- what an accepted change pushes out of the last `keep` versions is marked by its line
abbrev pub PushedVersionsTakeLines : Type 0
PushedVersionsTakeLines = (keep : ℕ) (p : Layout) (models : List Content)
    (session first line : ℕ) (act : Act) (once : Bool) (log mid new : Log) (made now : MadeAndMet)
    → TakesLine 0 p models session first (record { line = line; command = Edit act once }) log mid
    made now (record { line = line; at = length mid.records; answer = answers.Done })
    → mid.records ≡ log.records ++ record { session = session; line = line; act = act } ∷ []
    → mid.marks ≡ log.marks → PushesOut keep p models session line mid new
    → TakesLine keep p models session first (record { line = line; command = Edit act once }) log
    new made now (record { line = line; at = length mid.records; answer = answers.Done })

-- and a line that accepts no change pushes none out
abbrev pub OtherLinesTakeLines : Type 0
OtherLinesTakeLines = (keep : ℕ) (p : Layout) (models : List Content) (session first : ℕ)
    (l : ScriptLine) (log new : Log) (made now : MadeAndMet) (a : LineAnswer)
    → accepted_by session l.line l.command a.at a.answer ≡ []
    → TakesLine 0 p models session first l log new made now a
    → TakesLine keep p models session first l log new made now a

-- the moment of the line before is one of the history
abbrev pub MomentsAreInHistory : Type 0
MomentsAreInHistory = (since keep : ℕ) (p : Layout) (models : List Content)
    (scripts : List (List ScriptLine)) (transcripts : List (List LineAnswer))
    (script : List ScriptLine) (transcript : List LineAnswer) (log : Log) (noted : MadeAndMet)
    → IsRunning since keep p models scripts transcripts script transcript log noted
    → last_moment 0 transcript ≤ length log.records

-- an edit without a tint wants the parts of its target
abbrev pub PlainTargetsAreWanted : Type 0
PlainTargetsAreWanted = (p : Layout) (models : List Content) (records : List Record) (act : Act)
    (version : ℕ) (target s : Shape)
    → IsPlainTarget p models records act version target → IsPart s target
    → IsWanted p models records act version s

-- and a part of its target that met a full bucket is one that it wants
abbrev pub PlainFailuresMeetFull : Type 0
PlainFailuresMeetFull = (p : Layout) (models : List Content) (records : List Record) (act : Act)
    (version : ℕ) (target : Shape) (level bucket : ℕ) (old new : StoreState)
    → IsPlainTarget p models records act version target → Fails target level bucket old new
    → MeetsFull (IsWanted p models records act version) level bucket old new
