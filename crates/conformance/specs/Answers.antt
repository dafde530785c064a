-- Which answer fits a command at a moment. A moment is a number of records.
use Rattle.std.specs.Prelude.{◌≡◌, ◌≢◌, ℕ, ◌-◌, ◌<◌, ◌≤◌, ◌⊎◌, Bool, true, false, List, ◌++◌, take, length, Option, Some, None, All, slice_index}
use Rattle.std.specs.List.{slice_get, Contains}
use Rattle.history_model.specs.Contents.{Content}
use Rattle.history_model.specs.declared.acts.Act.{Act}
use Rattle.history_model.specs.declared.acts.Act.TheVariants.{Undo, Redo}
use Rattle.history_model.specs.declared.histories.Record.{Record}
use Rattle.history_model.specs.declared.histories.Mark.{Mark}
use Rattle.history_model.specs.Worlds.{is_edit}
use Rattle.history_model.specs.Positions.{position_after, first_of}
use Rattle.history_model.specs.Logs.{Log, world_side}
use Rattle.history_model.specs.Moments.{world_has, world_tint}
use Rattle.history_model.specs.Tints.{SameTints}
use Rattle.node_words.specs.Plans.{Layout}
use Rattle.conformance.specs.Aligned.{top}
use Rattle.script.specs.declared.commands.Command.{Command}
use Rattle.script.specs.declared.commands.Command.TheVariants.{Edit, Forget, Ask, Save, Same, Head}
use Rattle.history_model.specs.declared.questions.Question.{Question}
use Rattle.script.specs.declared.commands.ScriptLine.{ScriptLine}
use Rattle.transcript.specs.declared.answers.Answer.{Answer}
use Rattle.transcript.specs.declared.answers.Answer.TheVariants as answers
use Rattle.transcript.specs.declared.answers.LineAnswer.{LineAnswer}
use Rattle.vw_cell.specs.declared.boxes.Boxed.{Boxed}
use Rattle.vw_cell.specs.Counts.{number_in}
use Rattle.script.specs.declared.commands.SaveName.{SaveName}
use Rattle.conformance.specs.QuestionAnswers.{AnswersTo}

-- the version isn't surely forgotten: no mark forgets it below n, or by an earlier line of this
-- session
pub record IsUnforgotten (marks : List Mark) (session line n version : ℕ) : Type 0 where
  pub later : All (λ mark. mark.version ≡ version → n ≤ mark.at) marks
  pub own : All (λ mark. mark.version ≡ version → mark.session ≡ session → line ≤ mark.line) marks

-- the version is possibly forgotten: a mark forgets it at n or below, which isn't by this line or a
-- later one of this session
pub record IsForgotten (marks : List Mark) (session line n version : ℕ) : Type 0 where
  pub mark : Mark
  pub listed : Contains marks mark
  pub same : mark.version ≡ version
  pub by_then : mark.at ≤ n
  pub earlier : mark.session ≡ session → mark.line < line

-- the version is there at moment n, and stands
pub record IsReadable (Unforgotten : ℕ → Type 0) (n version : ℕ) : Type 0 where
  pub there : version ≤ n
  pub stands : Unforgotten version

-- record n is of this session, line and act
pub record IsRecordOf (records : List Record) (n session line : ℕ) (act : Act) : Type 0 where
  pub first : 1 ≤ n
  pub is : slice_get records (n - 1) ≡ Some (record { session = session; line = line; act = act })

abbrev pub mark_of : ℕ → ℕ → ℕ → ℕ → Mark
mark_of version n session line = record
    { version = version; at = n; session = session; line = line }

-- the version that an undo goes back to at moment n, and a redo on to
abbrev pub target_at : List Record → ℕ → Act → Option ℕ
target_at records n Undo = first_of (position_after (take n records)).past
target_at records n Redo = first_of (position_after (take n records)).future
target_at records n edit = None

-- an undo or a redo has a version to go to
abbrev pub HasReadableTarget : (ℕ → Type 0) → List Record → ℕ → Act → Type 0
HasReadableTarget Unforgotten records n act =
    is_edit act ≢ true → (to : ℕ) × (target_at records n act ≡ Some to)
    × IsReadable Unforgotten n to

-- a question without a version is asked of that of its moment
abbrev pub asked_version : Option ℕ → ℕ → ℕ
asked_version None n = n
asked_version (Some version) n = version

-- the command names the version; the second one of two only counts where the first one is readable
abbrev pub Names : (ℕ → Type 0) → ℕ → Command → ℕ → Type 0
Names Unforgotten n (Forget u) v = u ≡ v
Names Unforgotten n (Ask (Some u) question) v = u ≡ v
Names Unforgotten n (Ask None question) v = ⊥
Names Unforgotten n (Save (Some u) name part) v = u ≡ v
Names Unforgotten n (Save None name part) v = ⊥
Names Unforgotten n (Same u w) v = (u ≡ v) ⊎ ((w ≡ v) × IsReadable Unforgotten n u)
Names Unforgotten n (Edit act once) v = ⊥
Names Unforgotten n Head v = ⊥

-- or it is an undo or a redo that goes to it
abbrev pub LooksUp : (ℕ → Type 0) → List Record → ℕ → Command → ℕ → Type 0
LooksUp Unforgotten records n (Edit act once) v = target_at records n act ≡ Some v
LooksUp Unforgotten records n (Forget u) v = u ≡ v
LooksUp Unforgotten records n (Ask version question) v =
    Names Unforgotten n (Ask version question) v
LooksUp Unforgotten records n (Save version name part) v =
    Names Unforgotten n (Save version name part) v
LooksUp Unforgotten records n (Same u w) v = Names Unforgotten n (Same u w) v
LooksUp Unforgotten records n Head v = ⊥

-- the answer to the command of this session and line, decided at moment n of the history, where
-- `Unforgotten` says of which
-- versions it is known that they aren't surely forgotten
pub data Answers (p : Layout) (models : List Content) (log : Log) (Unforgotten : ℕ → Type 0)
    (session line n : ℕ) : Command → Answer → Type 0 where
  done : (act : Act) (once : Bool) → IsRecordOf log.records n session line act
      → Answers p models log Unforgotten session line n (Edit act once) answers.Done
  forgot : (v : ℕ) → Contains log.marks (mark_of v n session line)
      → Answers p models log Unforgotten session line n (Forget v) (answers.Forgot v)
  tells : (version : Option ℕ) (question : Question) (answer : Answer)
      → IsReadable Unforgotten n (asked_version version n)
      → AnswersTo (world_side log) (world_has models log.records (asked_version version n))
      (world_tint models log.records (asked_version version n)) question answer
      → Answers p models log Unforgotten session line n (Ask version question) answer
  saves : (version : Option ℕ) (name : SaveName) (part : Boxed) (cells : ℕ)
      → IsReadable Unforgotten n (asked_version version n)
      → cells ≡ number_in part (world_has models log.records (asked_version version n))
      → Answers p models log Unforgotten session line n (Save version name part)
      (answers.Saved cells)
  same : (v w : ℕ) → IsReadable Unforgotten n v → IsReadable Unforgotten n w
      → SameTints (world_side log) (world_tint models log.records v)
      (world_tint models log.records w)
      → Answers p models log Unforgotten session line n (Same v w) (answers.Same true)
  different : (v w : ℕ) → IsReadable Unforgotten n v → IsReadable Unforgotten n w
      → ¬ SameTints (world_side log) (world_tint models log.records v)
      (world_tint models log.records w)
      → Answers p models log Unforgotten session line n (Same v w) (answers.Same false)
  head : Answers p models log Unforgotten session line n Head answers.Head
  no_version : (command : Command) (v : ℕ) → Names Unforgotten n command v → n < v
      → Answers p models log Unforgotten session line n command (answers.NoVersion v)
  forgotten : (command : Command) (v : ℕ) → LooksUp Unforgotten log.records n command v
      → IsForgotten log.marks session line n v
      → Answers p models log Unforgotten session line n command (answers.Forgotten v)
  is_head : Answers p models log Unforgotten session line n (Forget n) answers.IsHead
  nothing_to_undo : (once : Bool) → target_at log.records n Undo ≡ None
      → Answers p models log Unforgotten session line n (Edit Undo once) answers.NothingToUndo
  nothing_to_redo : (once : Bool) → target_at log.records n Redo ≡ None
      → Answers p models log Unforgotten session line n (Edit Redo once) answers.NothingToRedo
  log_full : (act : Act) (once : Bool) → n ≡ 65535 → HasReadableTarget Unforgotten log.records n act
      → Answers p models log Unforgotten session line n (Edit act once) answers.LogFull
  stale : (act : Act) (base : ℕ) → base < n → n < 65535
      → Answers p models log Unforgotten session line n (Edit act true) (answers.Stale base)
  full : (act : Act) (once : Bool) (level bucket : ℕ) → is_edit act ≡ true → level ≤ top p.side
      → bucket < slice_index p.buckets level
      → Answers p models log Unforgotten session line n (Edit act once) (answers.Full level bucket)

-- a transcript's line answers the script's line, at a moment of the history
pub record LineFits (p : Layout) (models : List Content) (log : Log) (session : ℕ) (l : ScriptLine)
    (a : LineAnswer) : Type 0 where
  pub same_line : a.line ≡ l.line
  pub within : a.at ≤ length log.records
  pub answers : Answers p models log
      (IsUnforgotten log.marks session l.line a.at) session l.line a.at
      l.command a.answer

-- the newer history has the records of the older one first, and all its marks
pub record ExtendsLog (old new : Log) : Type 0 where
  pub side : new.side ≡ old.side
  pub coloured : new.coloured ≡ old.coloured
  pub more : List Record
  pub records : new.records ≡ old.records ++ more
  pub marks : All (Contains new.marks) old.marks
