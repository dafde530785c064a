-- How much transcripts show.
use Rattle.std.specs.Prelude.{◌≡◌, ℕ, ◌-◌, ◌<◌, ◌==◌, ◌&&◌, ◌↔◌, Bool, false, if◌then◌else◌, List, length, Option, Some, None, All, AllPairs, slice_get, sum_by}
use Rattle.history_model.specs.Contents.{Content}
use Rattle.history_model.specs.declared.histories.Mark.{Mark}
use Rattle.history_model.specs.declared.histories.Record.{Record}
use Rattle.history_model.specs.Logs.{Log}
use Rattle.node_words.specs.Plans.{Layout}
use Rattle.script.specs.declared.commands.ScriptLine.{ScriptLine}
use Rattle.transcript.specs.declared.answers.Answer.{Answer}
use Rattle.transcript.specs.declared.answers.Answer.TheVariants as answers
use Rattle.transcript.specs.declared.answers.LineAnswer.{LineAnswer}
use Rattle.retain.specs.Retained.{KeepsLast, falls_out}
use Rattle.conformance.specs.Agreeing.{SessionsAgree}
use Rattle.conformance.specs.Shown.{IsShownKeeping, is_done}

-- 1 for an accepted change, and 1 for a forgotten version
abbrev pub as_done : Answer → ℕ
as_done answer = if is_done answer then 1 else 0

abbrev pub as_forgot : Answer → ℕ
as_forgot (answers.Forgot v) = 1
as_forgot _ = 0

abbrev pub number_done : List LineAnswer → ℕ
number_done transcript = sum_by (λ a. as_done a.answer) transcript

abbrev pub number_forgot : List LineAnswer → ℕ
number_forgot transcript = sum_by (λ a. as_forgot a.answer) transcript

-- the mark is of this version; it was made by this record's session and line
abbrev pub is_of : Mark → Option ℕ → Bool
is_of m None = false
is_of m (Some v) = v == m.version

abbrev pub is_by : Mark → Option Record → Bool
is_by m None = false
is_by m (Some r) = (r.session == m.session) && (r.line == m.line)

-- its version fell out of the last `keep` by it: as the record came that pushed the version out,
-- and by that record's session and line
abbrev pub fell_out : ℕ → List Record → Mark → Bool
fell_out keep records m =
    is_of m (falls_out m.at keep) && is_by m (slice_get records (m.at - 1))

-- how many of the marks are others, which were made by hand
abbrev pub as_by_hand : ℕ → List Record → Mark → ℕ
as_by_hand keep records m = if fell_out keep records m then 0 else 1

abbrev pub number_by_hand : ℕ → List Record → List Mark → ℕ
number_by_hand keep records marks = sum_by (as_by_hand keep records) marks

-- all transcripts show as many changes as there are records, and as many forgettings as marks by
-- hand
pub record ShowAsMany (keep : ℕ) (transcripts : List (List LineAnswer)) (log : Log)
    : Type 0 where
  pub records : sum_by number_done transcripts ≡ length log.records
  pub marks : sum_by number_forgot transcripts ≡ number_by_hand keep log.records log.marks

-- the lines of a script stand by rising number
abbrev pub HasRisingLines : List ScriptLine → Type 0
HasRisingLines script = AllPairs (λ l k. l.line < k.line) script

-- where sessions agree with a history that keeps its last versions and whose marks stand by rising
-- version, the transcripts show it just where they show as much
abbrev pub CountsAreEnough : Type 0
CountsAreEnough = (keep : ℕ) (p : Layout) (models : List Content) (log : Log)
    (scripts : List (List ScriptLine)) (transcripts : List (List LineAnswer))
    → All HasRisingLines scripts → AllPairs (λ a b. a.version < b.version) log.marks
    → KeepsLast keep log → SessionsAgree p models log 0 scripts transcripts
    → ShowAsMany keep transcripts log ↔ IsShownKeeping keep scripts transcripts log
