-- Which answer fits a command, told by the answer.
use Rattle.std.specs.Prelude.{◌≡◌, ℕ, ◌<◌, ◌≤◌, Bool, true, List, Option, None, slice_index}
use Rattle.std.specs.Bool.{MatchBool}
use Rattle.std.specs.List.{Contains}
use Rattle.history_model.specs.Contents.{Content}
use Rattle.history_model.specs.declared.acts.Act.{Act}
use Rattle.history_model.specs.declared.acts.Act.TheVariants.{Undo, Redo}
use Rattle.history_model.specs.declared.questions.Question.{Question}
use Rattle.history_model.specs.Logs.{Log, world_side}
use Rattle.history_model.specs.Moments.{world_has, world_tint}
use Rattle.history_model.specs.Worlds.{is_edit}
use Rattle.node_words.specs.Plans.{Layout}
use Rattle.core_laws.specs.contents.Aligned.{top}
use Rattle.history_model.specs.Tints.{SameTints}
use Rattle.script.specs.declared.commands.Command.{Command}
use Rattle.script.specs.declared.commands.Command.TheVariants.{Edit, Forget, Ask, Save, Same, Head}
use Rattle.transcript.specs.declared.answers.Answer.{Answer}
use Rattle.transcript.specs.declared.answers.Answer.TheVariants as answers
use Rattle.vw_cell.specs.declared.boxes.Boxed.{Boxed}
use Rattle.vw_cell.specs.Counts.{number_in}
use Rattle.conformance.specs.Answers.{IsForgotten, IsReadable, IsRecordOf, mark_of, target_at, HasReadableTarget, asked_version, Names, LooksUp}
use Rattle.conformance.specs.QuestionAnswers.{AnswersTo}

-- the answer tells what the question asks of a version
abbrev pub AnswersVersion : List Content → Log → ℕ → Question → Answer → Type 0
AnswersVersion models log v question answer =
    AnswersTo (world_side log) (world_has models log.records v) (world_tint models log.records v)
    question answer

-- two versions have the same tints
abbrev pub AreSame : List Content → Log → ℕ → ℕ → Type 0
AreSame models log v w =
    SameTints (world_side log) (world_tint models log.records v) (world_tint models log.records w)

-- ---- the command is one of a kind, and this holds of it

abbrev pub EditIs : Command → (Act → Bool → Type 0) → Type 0
EditIs (Edit act once) P = P act once
EditIs (Forget v) P = ⊥
EditIs (Ask version question) P = ⊥
EditIs (Save version name part) P = ⊥
EditIs (Same v w) P = ⊥
EditIs Head P = ⊥

abbrev pub ForgetIs : Command → (ℕ → Type 0) → Type 0
ForgetIs (Forget v) P = P v
ForgetIs (Edit act once) P = ⊥
ForgetIs (Ask version question) P = ⊥
ForgetIs (Save version name part) P = ⊥
ForgetIs (Same v w) P = ⊥
ForgetIs Head P = ⊥

abbrev pub AskIs : Command → (Option ℕ → Question → Type 0) → Type 0
AskIs (Ask version question) P = P version question
AskIs (Edit act once) P = ⊥
AskIs (Forget v) P = ⊥
AskIs (Save version name part) P = ⊥
AskIs (Same v w) P = ⊥
AskIs Head P = ⊥

abbrev pub SaveIs : Command → (Option ℕ → Boxed → Type 0) → Type 0
SaveIs (Save version name part) P = P version part
SaveIs (Edit act once) P = ⊥
SaveIs (Forget v) P = ⊥
SaveIs (Ask version question) P = ⊥
SaveIs (Same v w) P = ⊥
SaveIs Head P = ⊥

abbrev pub SameIs : Command → (ℕ → ℕ → Type 0) → Type 0
SameIs (Same v w) P = P v w
SameIs (Edit act once) P = ⊥
SameIs (Forget v) P = ⊥
SameIs (Ask version question) P = ⊥
SameIs (Save version name part) P = ⊥
SameIs Head P = ⊥

-- ---- by the answer

module _ (p : Layout) (models : List Content) (log : Log) (Unforgotten : ℕ → Type 0)
    (session line n : ℕ) where
  abbrev pub DoneFits : Command → Type 0
  DoneFits command = EditIs command (λ act once. IsRecordOf log.records n session line act)

  abbrev pub ForgotFits : Command → ℕ → Type 0
  ForgotFits command v =
      ForgetIs command (λ u. (u ≡ v) × Contains log.marks (mark_of v n session line))

  abbrev pub AnsweredFits : Command → Answer → Type 0
  AnsweredFits command answer = AskIs command (λ version question.
      IsReadable Unforgotten n (asked_version version n)
      × AnswersVersion models log (asked_version version n) question answer)

  abbrev pub SavedFits : Command → ℕ → Type 0
  SavedFits command cells = SaveIs command (λ version part.
      IsReadable Unforgotten n (asked_version version n)
      × (cells ≡ number_in part (world_has models log.records (asked_version version n))))

  abbrev pub SameFits : Command → Bool → Type 0
  SameFits command same = SameIs command (λ v w.
      IsReadable Unforgotten n v × IsReadable Unforgotten n w
      × MatchBool same (AreSame models log v w) (AreSame models log v w → ⊥))

  abbrev pub HeadFits : Command → Type 0
  HeadFits command = command ≡ Head

  abbrev pub NoVersionFits : Command → ℕ → Type 0
  NoVersionFits command v = Names Unforgotten n command v × (n < v)

  abbrev pub ForgottenFits : Command → ℕ → Type 0
  ForgottenFits command v =
      LooksUp Unforgotten log.records n command v × IsForgotten log.marks session line n v

  abbrev pub IsHeadFits : Command → Type 0
  IsHeadFits command = ForgetIs command (λ v. v ≡ n)

  abbrev pub NothingFits : Command → Act → Type 0
  NothingFits command which =
      EditIs command (λ act once. (act ≡ which) × (target_at log.records n which ≡ None))

  abbrev pub LogFullFits : Command → Type 0
  LogFullFits command =
      EditIs command (λ act once. (n ≡ 65535) × HasReadableTarget Unforgotten log.records n act)

  abbrev pub StaleFits : Command → ℕ → Type 0
  StaleFits command base =
      EditIs command (λ act once. (once ≡ true) × (base < n) × (n < 65535))

  abbrev pub FullFits : Command → ℕ → ℕ → Type 0
  FullFits command level bucket = EditIs command (λ act once. (is_edit act ≡ true)
      × (level ≤ top p.side) × (bucket < slice_index p.buckets level))

  abbrev pub FitsBy : Command → Answer → Type 0
  FitsBy command answers.Done = DoneFits command
  FitsBy command (answers.Forgot v) = ForgotFits command v
  FitsBy command (answers.Is set) = AnsweredFits command (answers.Is set)
  FitsBy command (answers.Colour tint) = AnsweredFits command (answers.Colour tint)
  FitsBy command (answers.Count cells) = AnsweredFits command (answers.Count cells)
  FitsBy command (answers.Faces faces) = AnsweredFits command (answers.Faces faces)
  FitsBy command (answers.Extent least) = AnsweredFits command (answers.Extent least)
  FitsBy command (answers.Hit found) = AnsweredFits command (answers.Hit found)
  FitsBy command (answers.Same same) = SameFits command same
  FitsBy command answers.Head = HeadFits command
  FitsBy command (answers.Saved cells) = SavedFits command cells
  FitsBy command (answers.Full level bucket) = FullFits command level bucket
  FitsBy command (answers.NoVersion v) = NoVersionFits command v
  FitsBy command (answers.Forgotten v) = ForgottenFits command v
  FitsBy command answers.IsHead = IsHeadFits command
  FitsBy command answers.NothingToUndo = NothingFits command Undo
  FitsBy command answers.NothingToRedo = NothingFits command Redo
  FitsBy command answers.LogFull = LogFullFits command
  FitsBy command (answers.Stale base) = StaleFits command base
