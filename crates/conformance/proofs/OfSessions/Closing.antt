-- Sessions that ran beside each other in a world that was closed are a run of their scripts.
use Rattle.std.proofs.Common.{◌≡◌, ℕ, ◌+◌, ◌^◌, ◌≤◌, Bool, List, [], ◌∷◌, length, refl, ◌∙◌, arith}
use Rattle.std.specs.Prelude.{All, sum_by}
use Rattle.std.proofs.lemmas.List.Elements.{All-nil, All-head, All-tail, All-weaker}
use Rattle.std.proofs.lemmas.List.Sums.{sum_by-append}
use Rattle.history_model.specs.Contents.{Content}
use Rattle.history_model.specs.Logs.{Log, IsLegal}
use Rattle.history_model.specs.Moments.{world_has}
use Rattle.node_words.specs.Plans.{Layout}
use Rattle.script.specs.declared.commands.ScriptLine.{ScriptLine}
use Rattle.transcript.specs.declared.answers.LineAnswer.{LineAnswer}
use Rattle.conformance.specs.Agreeing.{SessionsAgree}
use Rattle.conformance.specs.Answers.{ExtendsLog}
use Rattle.conformance.specs.Passes.{ArePartly}
use Rattle.conformance.specs.Refusing.{spans_in, spans_of, refused_in, refused_of}
use Rattle.conformance.specs.Runs.{AllRanKeeping}
use Rattle.conformance.specs.Shown.{Accepted, SameItems, numbered, accepted_in, accepted_of}
use Rattle.conformance.proofs.Parts.{all_are_parts, accepted_own}
use Rattle.conformance.proofs.GoingOn.{world_stays}
use Rattle.conformance.proofs.Seeing.{longer}
use Rattle.conformance.specs.scripts.Keeping.{KeepsMade}
use Rattle.conformance.proofs.OfScripts.Refusals.{full_only_where_possible}
use Rattle.conformance.specs.sessions.SessionViews.{session_keeping, log_as, SessionView, SuitsWorld, IsStill, AllowsWhole, none_noted}
use Rattle.conformance.specs.sessions.Ran.{SessionsRanKeeping, ClosesWorld, StillFound, records_of_all, noted_of_all}
use Rattle.conformance.proofs.OfSessions.Items.{same_flipped, same_through}
use Rattle.conformance.proofs.OfSessions.SuitLaws.{history_suits, may_tint}
use Rattle.conformance.proofs.OfSessions.Joined.{AreTheirs, keeps_last, marks_are_theirs, marks_shown}
use Rattle.conformance.proofs.OfSessions.Noting.{keep_both, notes_are_kept, notes_stay}

-- ---- as many transcripts as scripts

as_many : (keep : ℕ) (tint : Bool) (p : Layout) (models : List Content) (first : ℕ)
    (scripts : List (List ScriptLine)) (transcripts : List (List LineAnswer))
    (sessions : List SessionView)
    → SessionsRanKeeping keep tint p models first scripts transcripts sessions
    → length scripts ≡ length transcripts
as_many keep tint p models first [] [] [] ran = refl
as_many keep tint p models first (script ∷ scripts) (answers ∷ transcripts) (s ∷ sessions) ran =
    let rest = as_many keep tint p models (first + 1) scripts transcripts sessions ran.1 in
    omega arith
as_many keep tint p models first _ _ _ ran = absurd ran

-- ---- what all sessions did is what all transcripts show

records_weigh : (keep : ℕ) (tint : Bool) (p : Layout) (models : List Content) (f : Accepted → ℕ)
    (first : ℕ) (scripts : List (List ScriptLine)) (transcripts : List (List LineAnswer))
    (sessions : List SessionView)
    → SessionsRanKeeping keep tint p models first scripts transcripts sessions
    → sum_by f (records_of_all sessions) ≡ sum_by f (accepted_of first scripts transcripts)
records_weigh keep tint p models f first [] [] [] ran = refl
records_weigh keep tint p models f first (script ∷ scripts) (answers ∷ transcripts)
    (s ∷ sessions) ran =
    let here = ran.0.records.weighs f in
    let rest = records_weigh keep tint p models f (first + 1) scripts transcripts sessions ran.1 in
    let one = sum_by-append f s.records (records_of_all sessions) in
    let two =
    sum_by-append f (accepted_in first script answers)
    (accepted_of (first + 1) scripts transcripts) in
    omega arith
records_weigh keep tint p models f first _ _ _ ran = absurd ran

-- ---- each session agrees with the history

sessions_agree : (keep : ℕ) (tint : Bool) (p : Layout) (models : List Content) (log : Log)
    (first : ℕ) (scripts : List (List ScriptLine)) (transcripts : List (List LineAnswer))
    (sessions : List SessionView) → IsLegal (2 ^ p.side) models log → SuitsWorld tint p models log
    → SessionsRanKeeping keep tint p models first scripts transcripts sessions
    → ArePartly (λ c. c.entry.session) accepted_in
    (numbered 1 log.records) first scripts transcripts → AreTheirs log.marks first sessions
    → All (λ s. ExtendsLog (log_as tint s.log) log) sessions
    → All (λ s. All (StillFound log) s.found) sessions
    → SessionsAgree p models log first scripts transcripts
sessions_agree keep tint p models log first [] [] [] legal suits ran records marks seen found = tt
sessions_agree keep tint p models log first (script ∷ scripts) (answers ∷ transcripts)
    (s ∷ sessions) legal suits ran records marks seen found = (
      record { lines = ran.0.fit log whole; moments = ran.0.moments },
      sessions_agree keep tint p models log
          (first + 1) scripts transcripts sessions legal suits ran.1 records.1 marks.1
          (All-tail (λ t. ExtendsLog (log_as tint t.log) log) s sessions seen)
          (All-tail (λ t. All (StillFound log) t.found) s sessions found),
    )
  where
    whole : AllowsWhole (session_keeping keep tint p models first) s log
    whole = record {
      legal = legal;
      may = may_tint tint p models log suits.keeps;
      coloured = suits.coloured;
      suits = suits.acts;
      goes_on = All-head (λ t. ExtendsLog (log_as tint t.log) log) s sessions seen;
      records = same_through _ (accepted_in first script answers) s.records records.0
          (same_flipped s.records (accepted_in first script answers) ran.0.records);
      marks = marks.0;
      found = All-weaker (StillFound log) (IsStill log) (λ f was. was.still) s.found
          (All-head (λ t. All (StillFound log) t.found) s sessions found);
    }
sessions_agree keep tint p models log first _ _ _ legal suits ran records marks seen found =
    absurd ran

-- ---- what was made and met by all

all_kept : (keep : ℕ) (tint : Bool) (p : Layout) (models : List Content) (log : Log) (first : ℕ)
    (scripts : List (List ScriptLine)) (transcripts : List (List LineAnswer))
    (sessions : List SessionView)
    → SessionsRanKeeping keep tint p models first scripts transcripts sessions
    → All (λ s. ExtendsLog (log_as tint s.log) log) sessions
    → KeepsMade p models log.records (spans_of scripts transcripts) (refused_of scripts transcripts)
    (noted_of_all sessions)
all_kept keep tint p models log first [] [] [] ran seen =
    record { made_in = All-nil _; was_met = All-nil _ }
all_kept keep tint p models log first (script ∷ scripts) (answers ∷ transcripts)
    (s ∷ sessions) ran seen =
    let g = All-head (λ t. ExtendsLog (log_as tint t.log) log) s sessions seen in
    let wide = longer (log_as tint s.log) log g in
    let same : length s.log.records ≤ length s.log.records = omega arith in
    let here =
    notes_are_kept p models log (length s.log.records) script answers s.noted wide ran.0.lines
    (notes_stay p models (log_as tint s.log) log g
    (length s.log.records) 0 script answers none_noted s.noted same ran.0.lines ran.0.notes) in
    let rest =
    all_kept keep tint p models log (first + 1) scripts transcripts sessions ran.1
    (All-tail (λ t. ExtendsLog (log_as tint t.log) log) s sessions seen) in
    keep_both p models log.records (spans_in 0 script answers) (spans_of scripts transcripts)
    (refused_in script answers) (refused_of scripts transcripts) s.noted
    (noted_of_all sessions) here rest
all_kept keep tint p models log first _ _ _ ran seen = absurd ran

-- ---- together

pub are_a_run : (keep : ℕ) (tint : Bool) (p : Layout) (models : List Content)
    (scripts : List (List ScriptLine)) (transcripts : List (List LineAnswer))
    (sessions : List SessionView) (log : Log)
    → SessionsRanKeeping keep tint p models 0 scripts transcripts sessions
    → ClosesWorld tint p models sessions log
    → AllRanKeeping keep p models scripts transcripts log
are_a_run keep tint p models scripts transcripts sessions log ran closes =
    let many = as_many keep tint p models 0 scripts transcripts sessions ran in
    let records : SameItems (numbered 1 log.records) (accepted_of 0 scripts transcripts) =
    record {
      weighs = λ f. closes.records.weighs f
          ∙ records_weigh keep tint p models f 0 scripts transcripts sessions ran;
    } in
    let suits = history_suits keep tint p models scripts transcripts sessions log ran closes in
    record {
      legal = closes.legal;
      suits = suits.acts;
      last = keeps_last keep tint p models log scripts transcripts sessions ran closes.seen closes.records;
      agrees = record {
        sessions =
            sessions_agree keep tint p models log 0 scripts transcripts sessions closes.legal suits ran
            (all_are_parts (λ c. c.entry.session) accepted_in accepted_own
            (numbered 1 log.records) scripts transcripts many records)
            (marks_are_theirs keep tint p models log.marks scripts transcripts sessions ran closes.marks) closes.seen closes.found;
        shown = record {
          records = records;
          marks = marks_shown keep tint p models log scripts transcripts sessions ran closes.legal.rising closes.seen closes.records closes.marks;
          rising = closes.legal.rising;
        };
      };
      full = full_only_where_possible p models log scripts transcripts (noted_of_all sessions)
          (all_kept keep tint p models log 0 scripts transcripts sessions ran closes.seen) closes.enough;
    }

-- what a session saw of a version
pub seen_stays : (models : List Content) (seen log : Log) (version : ℕ) → ExtendsLog seen log
    → version ≤ length seen.records
    → world_has models log.records version ≡ world_has models seen.records version
seen_stays models seen log version g le =
    world_stays seen log g (length seen.records) (omega arith) models version le
