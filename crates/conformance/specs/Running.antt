-- What a run of scripts one after another keeps, and what one more line makes of it.
use Rattle.std.specs.Prelude.{◌≡◌, ◌≢◌, ℕ, true, nat_le, if◌then◌else◌, ◌^◌, ◌<◌, ◌≤◌, ◌⊎◌, List, [], ◌∷◌, ◌++◌, length, map, All, AllPairs, Some, None}
use Rattle.std.specs.List.{AllZip, Contains}
use Rattle.history_model.specs.Contents.{Content}
use Rattle.history_model.specs.declared.histories.Record.{Record}
use Rattle.history_model.specs.declared.histories.Mark.{Mark}
use Rattle.conformance.specs.Versions.{InsertsMark}
use Rattle.history_model.specs.Logs.{Log, IsLegal, SuitsTints, suits_tints}
use Rattle.node_words.specs.Plans.{Layout}
use Rattle.retain.specs.Retained.{falls_out, fallen_by, unnamed_by}
use Rattle.script.specs.declared.commands.ScriptLine.{ScriptLine}
use Rattle.transcript.specs.declared.answers.Answer.TheVariants as answers
use Rattle.transcript.specs.declared.answers.LineAnswer.{LineAnswer}
use Rattle.conformance.specs.Answers.{LineFits, ExtendsLog, mark_of}
use Rattle.conformance.specs.Shown.{Accepted, SameItems, numbered, accepted_by, forgotten_by, accepted_in, forgotten_in, accepted_of, forgotten_of}
use Rattle.conformance.specs.Agreeing.{InOrder, SessionsAgree}

abbrev pub line_numbers : List ScriptLine → List ℕ
line_numbers script = map (λ l. l.line) script

-- the mark is by an earlier session, or by one of these lines of this one
abbrev pub IsBy : ℕ → List ScriptLine → Mark → Type 0
IsBy session script mark = (mark.session < session)
    ⊎ ((mark.session ≡ session) × Contains (line_numbers script) mark.line)

-- the mark of the version that a record pushes out of the last `keep`, by the record's session and
-- line; the first `since` records push none
abbrev pub pushed : ℕ → ℕ → Accepted → List Mark
pushed since keep c =
    if nat_le c.at since then [] else fallen_by c.at c.entry (falls_out c.at keep)

abbrev pub pushed_by : ℕ → ℕ → List Accepted → List Mark
pushed_by since keep [] = []
pushed_by since keep (c ∷ more) = pushed since keep c ++ pushed_by since keep more

-- marks made by hand, and those of the versions that were pushed out and that none of them names
abbrev pub with_pushed : ℕ → ℕ → List Accepted → List Mark → List Mark
with_pushed since keep records forgot =
    forgot ++ unnamed_by forgot (pushed_by since keep records)

-- some scripts were run, and of the next one these lines; acts are tinted exactly where the history
-- is coloured. Behind the first `since` records the last `keep` versions alone are held, with 0 all
pub record IsSoFar (since keep : ℕ) (p : Layout) (models : List Content)
    (scripts : List (List ScriptLine))
    (transcripts : List (List LineAnswer)) (script : List ScriptLine)
    (transcript : List LineAnswer) (log : Log) : Type 0 where
  pub legal : IsLegal (2 ^ p.side) models log
  pub suits : SuitsTints log
  pub before : SessionsAgree p models log 0 scripts transcripts
  pub lines : AllZip (LineFits p models log (length scripts)) script transcript
  pub moments : AllPairs InOrder transcript
  pub records : SameItems (numbered 1 log.records)
      (accepted_of 0 scripts transcripts ++ accepted_in (length scripts) script transcript)
  pub marks : SameItems log.marks
      (with_pushed since keep (numbered 1 log.records)
      (forgotten_of 0 scripts transcripts ++ forgotten_in (length scripts) script transcript))
  pub by : All (IsBy (length scripts) script) log.marks

-- a mark is one of the older ones, or was made by this line at this length
abbrev pub IsOldOrNew : List Mark → ℕ → ℕ → ℕ → Mark → Type 0
IsOldOrNew old n session line mark = Contains old mark
    ⊎ ((n ≤ mark.at) × (mark.session ≡ session) × (mark.line ≡ line))

-- what one line of a session makes of the history, and its answer, where the last `keep` versions
-- alone are held: one that it forgets had no mark, and the one that its record pushes out has one
pub record LineStep (keep : ℕ) (p : Layout) (models : List Content) (session : ℕ) (l : ScriptLine)
    (old new : Log) (a : LineAnswer) : Type 0 where
  pub legal : IsLegal (2 ^ p.side) models new
  pub suits : SuitsTints old → SuitsTints new
  pub goes_on : ExtendsLog old new
  pub new_marks : All (IsOldOrNew old.marks (length old.records) session l.line) new.marks
  pub no_earlier : length old.records ≤ a.at
  pub later : a.answer ≡ answers.Done → length old.records < a.at
  pub unseen : (base : ℕ) → a.answer ≡ answers.Stale base → length old.records ≤ base
  pub fits : LineFits p models new session l a
  pub records : SameItems (numbered 1 new.records)
      (numbered 1 old.records ++ accepted_by session l.line l.command a.at a.answer)
  pub unmarked : All (λ m. All (λ o. o.version ≢ m.version) old.marks)
      (forgotten_by session l.line a.at a.answer)
  pub marks : SameItems new.marks
      (old.marks ++ forgotten_by session l.line a.at a.answer ++ unnamed_by old.marks
      (pushed_by 0 keep (accepted_by session l.line l.command a.at a.answer)))

-- the history with one more record, legal as it was, and as much coloured
pub record GrowsByRecord (p : Layout) (models : List Content) (r : Record)
    (old new : Log) : Type 0 where
  pub legal : IsLegal (2 ^ p.side) models new
  pub side : new.side ≡ old.side
  pub coloured : new.coloured ≡ old.coloured
  pub suits : suits_tints old.coloured r.act ≡ true
  pub records : new.records ≡ old.records ++ r ∷ []
  pub marks : new.marks ≡ old.marks

-- the history with one more mark, which was made at its length
pub record ForgetsBy (p : Layout) (models : List Content) (mark : Mark)
    (old new : Log) : Type 0 where
  pub legal : IsLegal (2 ^ p.side) models new
  pub side : new.side ≡ old.side
  pub coloured : new.coloured ≡ old.coloured
  pub records : new.records ≡ old.records
  pub now : mark.at ≡ length old.records
  pub marks : InsertsMark old.marks mark new.marks

-- what the newest record pushes out of the last `keep` versions gets its mark, by this session and
-- line, where it has none
pub data PushesOut (keep : ℕ) (p : Layout) (models : List Content) (session line : ℕ)
    (old : Log) : Log → Type 0 where
  none : (new : Log) → falls_out (length old.records) keep ≡ None → new ≡ old
      → PushesOut keep p models session line old new
  marked : (new : Log) (mark : Mark) → falls_out (length old.records) keep ≡ Some mark.version
      → Contains old.marks mark → new ≡ old → PushesOut keep p models session line old new
  forgot : (new : Log) (version : ℕ) → falls_out (length old.records) keep ≡ Some version
      → ForgetsBy p models (mark_of version (length old.records) session line) old new
      → PushesOut keep p models session line old new
