-- What each answer of a session's calls tells. Of cells it tells those of the world's store, and
-- what is asked is told of the world that such a store keeps.
use Rattle.std.specs.Prelude.{◌≡◌, ◌⊎◌, ℕ, ◌/◌, ◌^◌, ◌<◌, ◌≤◌, Bool, true, false, Option, Some, None, length, Result, Ok, Err}
use Rattle.std.specs.List.{Contains}
use Rattle.vw_cell.specs.declared.boxes.Boxed.{Boxed}
use Rattle.vw_cell.specs.declared.cells.Cell.{Cell}
use Rattle.vw_cell.specs.Counts.{number_in}
use Rattle.vw_cell.specs.Places.{IsInWorld}
use Rattle.history_model.specs.declared.acts.Act.{Act}
use Rattle.history_model.specs.declared.acts.Act.TheVariants.{Undo, Redo}
use Rattle.history_model.specs.declared.histories.Mark.{Mark}
use Rattle.history_model.specs.declared.questions.Question.{Question}
use Rattle.history_model.specs.Planes.{StoresTints, tells}
use Rattle.history_model.specs.Stores.{store_has}
use Rattle.history_model.specs.Tints.{Tints}
use Rattle.history_model.specs.Worlds.{World, is_edit}
use Rattle.node_words.specs.Sums.{one_if}
use Rattle.core_laws.specs.contents.Versions.{SameWorld}
use Rattle.transcript.specs.declared.answers.Answer.{Answer}
use Rattle.transcript.specs.declared.answers.Answer.TheVariants as answers
use Rattle.transcript.specs.declared.answers.LineAnswer.{LineAnswer}
use Rattle.conformance.specs.Answers.{asked_version, target_at}
use Rattle.conformance.specs.Kinds.{is_resting}
use Rattle.conformance.specs.QuestionAnswers.{AnswersTo}
use Rattle.conformance.specs.declared.sessions.calls.ActAnswer.{ActAnswer}
use Rattle.conformance.specs.declared.sessions.calls.ActAnswer.TheVariants as acts
use Rattle.conformance.specs.declared.sessions.calls.OnceAnswer.{OnceAnswer}
use Rattle.conformance.specs.declared.sessions.calls.OnceAnswer.TheVariants as onces
use Rattle.conformance.specs.declared.sessions.calls.AskedAt.{AskedAt}
use Rattle.conformance.specs.declared.sessions.calls.SavedAt.{SavedAt}
use Rattle.retain.specs.declared.refusals.PinRefused.{PinRefused}
use Rattle.retain.specs.declared.refusals.PinRefused.TheVariants as pins
use Rattle.retain.specs.declared.refusals.ForgetRefused.{ForgetRefused}
use Rattle.retain.specs.declared.refusals.ForgetRefused.TheVariants as forgets
use Rattle.retain.specs.declared.comparing.SameAt.{SameAt}
use Rattle.retain.specs.declared.comparing.SameRefused.{SameRefused}
use Rattle.retain.specs.declared.comparing.SameRefused.TheVariants as sames
use Rattle.conformance.specs.sessions.Calls.{AcceptsNothing, OnlySees, AppendsOwn, ForgetsOwn, NotesFor, MeetsFullBucket, FindsVersion}
use Rattle.conformance.specs.sessions.SessionViews.{SessionOf, SessionView}

-- the moment is the length of what the session has seen
abbrev pub IsSeenLength : SessionView → ℕ → Type 0
IsSeenLength s at = at ≡ length s.log.records

-- ---- a change

pub record ActDone (of : SessionOf) (line : ℕ) (act : Act) (old new : SessionView) (n : ℕ) : Type 0
  where
    pub at_is : IsSeenLength new n
    pub appends : AppendsOwn of.keep of.number line act old new
    pub notes : NotesFor of.plan of.models act old new

pub record ActFull (of : SessionOf) (act : Act) (old new : SessionView) (at level bucket : ℕ)
    : Type 0 where
  pub at_is : IsSeenLength new at
  pub nothing : AcceptsNothing old new
  pub meets : MeetsFullBucket of.plan of.models act level bucket old new

-- an edit needs no version to go to, and an undo's or redo's was found without a mark
abbrev pub HasFoundTarget : SessionView → Act → Type 0
HasFoundTarget s act = (is_edit act ≡ true)
    ⊎ ((to : ℕ) × (target_at s.log.records (length s.log.records) act ≡ Some to)
    × FindsVersion s to)

pub record ActLate (of : SessionOf) (act : Act) (old new : SessionView) : Type 0 where
  pub all : length new.log.records ≡ 65535
  pub nothing : AcceptsNothing old new
  pub notes : NotesFor of.plan of.models act old new
  pub way : HasFoundTarget new act

pub record ActNowhere (of : SessionOf) (act wanted : Act) (old new : SessionView) (at : ℕ) : Type 0
  where
    pub at_is : IsSeenLength new at
    pub is : act ≡ wanted
    pub nothing : AcceptsNothing old new
    pub notes : NotesFor of.plan of.models act old new
    pub none : target_at new.log.records (length new.log.records) wanted ≡ None

pub record ActForgotten (of : SessionOf) (act : Act) (old new : SessionView) (at : ℕ) (mark : Mark)
    : Type 0 where
  pub at_is : IsSeenLength new at
  pub nothing : AcceptsNothing old new
  pub notes : NotesFor of.plan of.models act old new
  pub target : target_at new.log.records (length new.log.records) act ≡ Some mark.version
  pub listed : Contains new.log.marks mark

abbrev pub ActSpec : SessionOf → ℕ → Act → SessionView → SessionView → ActAnswer → Type 0
ActSpec of line act old new (acts.Done n) = ActDone of line act old new n
ActSpec of line act old new (acts.Full at full) = ActFull of act old new at full.level full.bucket
ActSpec of line act old new acts.LogFull = ActLate of act old new
ActSpec of line act old new (acts.NothingToUndo at) = ActNowhere of act Undo old new at
ActSpec of line act old new (acts.NothingToRedo at) = ActNowhere of act Redo old new at
ActSpec of line act old new (acts.Forgotten at mark) = ActForgotten of act old new at mark

-- it began at this length, at which it pinned the newest version, and the history has more records
pub record ActStale (of : SessionOf) (act : Act) (old new : SessionView) (at base : ℕ) : Type 0
  where
    pub at_is : IsSeenLength new at
    pub nothing : AcceptsNothing old new
    pub notes : NotesFor of.plan of.models act old new
    pub low : length old.log.records ≤ base
    pub pinned : Contains new.found (record { version = base; at = base })
    pub over : base < length new.log.records
    pub room : length new.log.records < 65535

abbrev pub OnceSpec : SessionOf → ℕ → Act → SessionView → SessionView → OnceAnswer → Type 0
OnceSpec of line act old new (onces.Done n) = ActDone of line act old new n
OnceSpec of line act old new (onces.Full at full) =
    ActFull of act old new at full.level full.bucket
OnceSpec of line act old new onces.LogFull = ActLate of act old new
OnceSpec of line act old new (onces.Stale at base) = ActStale of act old new at base

-- ---- a version that is pinned

-- it is named, and over the length
pub record NamesNone (version : Option ℕ) (old new : SessionView) (at : ℕ) : Type 0 where
  pub at_is : IsSeenLength new at
  pub only : OnlySees old new
  pub named : ℕ
  pub is : version ≡ Some named
  pub over : at < named

-- it is named, and has this mark
pub record NamesMarked (version : Option ℕ) (old new : SessionView) (at : ℕ) (mark : Mark) : Type 0
  where
    pub at_is : IsSeenLength new at
    pub only : OnlySees old new
    pub is : version ≡ Some mark.version
    pub listed : Contains new.log.marks mark

abbrev pub PinIsRefused : Option ℕ → SessionView → SessionView → PinRefused → Type 0
PinIsRefused version old new (pins.NoVersion at) = NamesNone version old new at
PinIsRefused version old new (pins.Forgotten at mark) = NamesMarked version old new at mark

-- the tints of a world whose set cells have tint 1
abbrev pub plainly_tinted : World → Tints
plainly_tinted w c = one_if (w c)

-- the answer tells what the question asks of the world that these cells of a store of this side
-- keep. Where cells have no tints, they are the world's, each set one with tint 1; where they have,
-- it is each world of a quarter of the side whose tints, which are below 256, the store keeps, and
-- whose cells are those with a tint other than 0
abbrev pub AnswersStored : Bool → ℕ → World → Question → Answer → Type 0
AnswersStored false side cells question answer =
    AnswersTo side cells (plainly_tinted cells) question answer
AnswersStored true side cells question answer =
    (w : World) (t : Tints) → StoresTints (side / 4) t cells
    → ((c : Cell) → IsInWorld (side / 4) c → t c < 2 ^ 8)
    → ((c : Cell) → IsInWorld (side / 4) c → tells 0 (t c) ≡ w c)
    → AnswersTo (side / 4) w t question answer

-- it was found, and the answer is that of the world that its cells keep
pub record WasAsked (of : SessionOf) (version : Option ℕ) (question : Question)
    (old new : SessionView) (a : AskedAt) : Type 0 where
  pub at_is : IsSeenLength new a.at
  pub only : OnlySees old new
  pub finds : FindsVersion new (asked_version version a.at)
  pub tells : AnswersStored of.tint (2 ^ new.log.side)
      (store_has of.models new.log (asked_version version a.at)) question a.answer
  pub rests : is_resting a.answer ≡ true

abbrev pub AskSpec : SessionOf → Option ℕ → Question → SessionView → SessionView
    → Result AskedAt PinRefused → Type 0
AskSpec of version question old new (Ok a) = WasAsked of version question old new a
AskSpec of version question old new (Err refused) = PinIsRefused version old new refused

pub record Saved (of : SessionOf) (version : Option ℕ) (part : Boxed) (old new : SessionView)
    (a : SavedAt) : Type 0 where
  pub at_is : IsSeenLength new a.at
  pub only : OnlySees old new
  pub finds : FindsVersion new (asked_version version a.at)
  pub cells : a.cells ≡ number_in part
      (store_has of.models new.log (asked_version version a.at))

abbrev pub SaveSpec : SessionOf → Option ℕ → Boxed → SessionView → SessionView
    → Result SavedAt PinRefused → Type 0
SaveSpec of version part old new (Ok a) = Saved of version part old new a
SaveSpec of version part old new (Err refused) = PinIsRefused version old new refused

-- ---- a version that is forgotten

pub record WasForgotten (of : SessionOf) (line version : ℕ) (old new : SessionView) (at : ℕ)
    : Type 0 where
  pub at_is : IsSeenLength new at
  pub forgets : ForgetsOwn of.number line version old new

pub record IsNewest (version : ℕ) (old new : SessionView) (at : ℕ) : Type 0 where
  pub at_is : IsSeenLength new at
  pub only : OnlySees old new
  pub is : version ≡ at

abbrev pub ForgetSpec : SessionOf → ℕ → ℕ → SessionView → SessionView
    → Result ℕ ForgetRefused → Type 0
ForgetSpec of line version old new (Ok at) = WasForgotten of line version old new at
ForgetSpec of line version old new (Err (forgets.NoVersion at)) =
    NamesNone (Some version) old new at
ForgetSpec of line version old new (Err (forgets.IsHead at)) = IsNewest version old new at
ForgetSpec of line version old new (Err (forgets.Forgotten at mark)) =
    NamesMarked (Some version) old new at mark

-- ---- two versions that are compared

abbrev pub IsEqual : Bool → Type 0 → Type 0
IsEqual true same = same
IsEqual false same = ¬ same

pub record Compared (of : SessionOf) (v w : ℕ) (old new : SessionView) (a : SameAt) : Type 0 where
  pub at_is : IsSeenLength new a.at
  pub only : OnlySees old new
  pub first : FindsVersion new v
  pub second : FindsVersion new w
  pub equal : IsEqual a.equal (SameWorld (2 ^ new.log.side)
      (store_has of.models new.log v) (store_has of.models new.log w))

-- it is the first version, or the second one, and the first was found
abbrev pub NamesVersion : ℕ → ℕ → SessionView → ℕ → Type 0
NamesVersion v w new version = (v ≡ version) ⊎ ((w ≡ version) × FindsVersion new v)

pub record ComparesNone (v w : ℕ) (old new : SessionView) (at version : ℕ) : Type 0 where
  pub at_is : IsSeenLength new at
  pub only : OnlySees old new
  pub named : NamesVersion v w new version
  pub over : at < version

pub record ComparesMarked (v w : ℕ) (old new : SessionView) (at : ℕ) (mark : Mark) : Type 0 where
  pub at_is : IsSeenLength new at
  pub only : OnlySees old new
  pub named : NamesVersion v w new mark.version
  pub listed : Contains new.log.marks mark

abbrev pub SameSpec : SessionOf → ℕ → ℕ → SessionView → SessionView → Result SameAt SameRefused
    → Type 0
SameSpec of v w old new (Ok a) = Compared of v w old new a
SameSpec of v w old new (Err (sames.NoVersion at version)) = ComparesNone v w old new at version
SameSpec of v w old new (Err (sames.Forgotten at mark)) = ComparesMarked v w old new at mark

pub record HeadSpec (old new : SessionView) (at : ℕ) : Type 0 where
  pub at_is : IsSeenLength new at
  pub only : OnlySees old new

-- ---- how each answer stands in a transcript

abbrev pub answered : ℕ → ℕ → Answer → LineAnswer
answered line at answer = record { line = line; at = at; answer = answer }

abbrev pub act_line : ℕ → ActAnswer → LineAnswer
act_line line (acts.Done n) = answered line n answers.Done
act_line line (acts.Full at full) = answered line at (answers.Full full.level full.bucket)
act_line line acts.LogFull = answered line 65535 answers.LogFull
act_line line (acts.NothingToUndo at) = answered line at answers.NothingToUndo
act_line line (acts.NothingToRedo at) = answered line at answers.NothingToRedo
act_line line (acts.Forgotten at mark) = answered line at (answers.Forgotten mark.version)

abbrev pub once_line : ℕ → OnceAnswer → LineAnswer
once_line line (onces.Done n) = answered line n answers.Done
once_line line (onces.Full at full) = answered line at (answers.Full full.level full.bucket)
once_line line onces.LogFull = answered line 65535 answers.LogFull
once_line line (onces.Stale at base) = answered line at (answers.Stale base)

-- that of a version which is not pinned, which is named
abbrev pub named_version : Option ℕ → ℕ
named_version None = 0
named_version (Some version) = version

abbrev pub pin_line : ℕ → Option ℕ → PinRefused → LineAnswer
pin_line line version (pins.NoVersion at) =
    answered line at (answers.NoVersion (named_version version))
pin_line line version (pins.Forgotten at mark) = answered line at (answers.Forgotten mark.version)

abbrev pub ask_line : ℕ → Option ℕ → Result AskedAt PinRefused → LineAnswer
ask_line line version (Ok a) = answered line a.at a.answer
ask_line line version (Err refused) = pin_line line version refused

abbrev pub save_line : ℕ → Option ℕ → Result SavedAt PinRefused → LineAnswer
save_line line version (Ok a) = answered line a.at (answers.Saved a.cells)
save_line line version (Err refused) = pin_line line version refused

abbrev pub forget_line : ℕ → ℕ → Result ℕ ForgetRefused → LineAnswer
forget_line line version (Ok at) = answered line at (answers.Forgot version)
forget_line line version (Err (forgets.NoVersion at)) =
    answered line at (answers.NoVersion version)
forget_line line version (Err (forgets.IsHead at)) = answered line at answers.IsHead
forget_line line version (Err (forgets.Forgotten at mark)) =
    answered line at (answers.Forgotten version)

abbrev pub same_line : ℕ → Result SameAt SameRefused → LineAnswer
same_line line (Ok a) = answered line a.at (answers.Same a.equal)
same_line line (Err (sames.NoVersion at version)) = answered line at (answers.NoVersion version)
same_line line (Err (sames.Forgotten at mark)) = answered line at (answers.Forgotten mark.version)
