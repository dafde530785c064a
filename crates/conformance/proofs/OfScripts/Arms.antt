-- What each arm of a responder has to show, by what it did.
use Rattle.std.proofs.Common.{◌≡◌, ℕ, ◌+◌, ◌^◌, ◌≤◌, Bool, true, List, [], ◌∷◌, ◌++◌, length, refl, ap, sym, subst, arith}
use Rattle.std.specs.Prelude.{All}
use Rattle.std.proofs.lemmas.List.Elements.{All-head, All-tail}
use Rattle.vox_read.specs.Contents.{Content}
use Rattle.history_model.specs.declared.acts.Act.{Act}
use Rattle.history_model.specs.declared.histories.Mark.{Mark}
use Rattle.history_model.specs.declared.histories.Record.{Record}
use Rattle.history_model.specs.Worlds.{World, is_edit}
use Rattle.history_model.specs.Logs.{Log, IsLegal}
use Rattle.node_words.specs.Held.{StoreState, Wanted, IsSought}
use Rattle.node_words.specs.Gathering.{Grew, unchanged, one}
use Rattle.node_words.specs.Plans.{Layout}
use Rattle.core_laws.specs.contents.Aligned.{top, world_block}
use Rattle.conformance.specs.possible.Needed.{made_of}
use Rattle.script.specs.declared.commands.Command.TheVariants.{Edit, Forget}
use Rattle.script.specs.declared.commands.ScriptLine.{ScriptLine}
use Rattle.transcript.specs.declared.answers.Answer.{Answer}
use Rattle.transcript.specs.declared.answers.Answer.TheVariants as answers
use Rattle.transcript.specs.declared.answers.LineAnswer.{LineAnswer}
use Rattle.conformance.specs.Answers.{IsUnforgotten, Answers, full, log_full}
use Rattle.conformance.specs.Kinds.{is_resting, answer_at}
use Rattle.conformance.specs.Refusing.{refused_by}
use Rattle.conformance.specs.Running.{GrowsByRecord, ForgetsBy, PushesOut}
use Rattle.conformance.specs.Shown.{accepted_by}
use Rattle.conformance.proofs.LineKinds.{done_line, forgot_line, other_line, pushed_line, resting_line}
use Rattle.conformance.proofs.Running.{moments_within}
use Rattle.conformance.specs.scripts.Keeping.{LineMakes, MadeAndMet, made_and_met, IsPartOfWorld, IsWanted, MeetsFull, last_moment}
use Rattle.conformance.specs.scripts.Sessions.{IsRunning, TakesLine}
use Rattle.conformance.proofs.OfScripts.PartsShown.{aligned_low, part_of_world}
use Rattle.conformance.proofs.OfScripts.Refusals.{wanted_stays}
use Rattle.conformance.proofs.OfScripts.StoreLines.{grows_line, fails_line, idle_line}

-- what an act wants of a version stays what it wants
grew_as : {A : Type 0} (P Q : A → Type 0) (old new : List A) → ((a : A) → P a → Q a)
    → Grew P old new → Grew Q old new
grew_as P Q old _ each unchanged = unchanged
grew_as P Q old _ each (one {a} {new =
    before} p rest) = one (each a p) (grew_as P Q old before each rest)

pub rebuilt_arm : (p : Layout) (models : List Content) (session first line : ℕ) (act : Act)
    (once : Bool) (log new : Log) (made now : MadeAndMet)
    → GrowsByRecord p models (record { session = session; line = line; act = act }) log new
    → first ≤ length log.records
    → Grew (IsWanted p models log.records act (length log.records)) made.made now.made
    → now.met ≡ made.met
    → TakesLine 0 p models session first
    (record { line = line; command = Edit act once }) log new made now
    (record { line = line; at = length log.records + 1; answer = answers.Done })
rebuilt_arm p models session first line act once log new made now grows low grew same =
    let step = done_line p models session line act once log new grows in
    record {
      line = step;
      makes =
          grows_line p models new.records act (length log.records) first line
          (length log.records + 1) once answers.Done made now low (omega arith) refl
          (grew_as (IsWanted p models log.records act (length log.records))
          (IsWanted p models new.records act (length log.records)) made.made now.made
          (λ s wanted. wanted_stays p models log new step.goes_on act
          (length log.records) s (omega arith) wanted) grew) same;
    }

pub undone_arm : (p : Layout) (models : List Content) (session first line : ℕ) (act : Act)
    (once : Bool) (log new : Log) (noted : MadeAndMet)
    → GrowsByRecord p models (record { session = session; line = line; act = act }) log new
    → TakesLine 0 p models session first
    (record { line = line; command = Edit act once }) log new noted noted
    (record { line = line; at = length log.records + 1; answer = answers.Done })
undone_arm p models session first line act once log new noted grows = record {
  line = done_line p models session line act once log new grows;
  makes = idle_line p models new.records first (record { line = line; command = Edit act once })
      (record { line = line; at = length log.records + 1; answer = answers.Done }) noted refl;
}

pub forgot_arm : (keep : ℕ) (p : Layout) (models : List Content) (first : ℕ) (mark : Mark) (log new : Log)
    (noted : MadeAndMet) → ForgetsBy p models mark log new
    → TakesLine keep p models mark.session first
    (record { line = mark.line; command = Forget mark.version }) log new noted noted
    (record { line = mark.line; at = length log.records; answer = answers.Forgot mark.version })
forgot_arm keep p models first mark log new noted forgets = record {
  line = forgot_line keep p models mark log new forgets;
  makes = idle_line p models new.records first
      (record { line = mark.line; command = Forget mark.version })
      (record { line = mark.line; at = length log.records; answer = answers.Forgot mark.version }) noted refl;
}

-- what an accepted change pushes out is marked, and nothing more is made
pushed_records : (keep : ℕ) (p : Layout) (models : List Content) (session line : ℕ)
    (mid new : Log) → PushesOut keep p models session line mid new → new.records ≡ mid.records
pushed_records keep p models session line mid new (PushesOut.none _ falls same) =
    ap (λ (log : Log). log.records) same
pushed_records keep p models session line mid new (PushesOut.marked _ mark falls listed same) =
    ap (λ (log : Log). log.records) same
pushed_records keep p models session line mid new (PushesOut.forgot _ version falls e) = e.records

pub pushed_arm : (keep : ℕ) (p : Layout) (models : List Content) (session first line : ℕ)
    (act : Act) (once : Bool) (log mid new : Log) (made now : MadeAndMet)
    → TakesLine 0 p models session first (record { line = line; command = Edit act once }) log mid
    made now (record { line = line; at = length mid.records; answer = answers.Done })
    → mid.records ≡ log.records ++ record { session = session; line = line; act = act } ∷ []
    → mid.marks ≡ log.marks → PushesOut keep p models session line mid new
    → TakesLine keep p models session first (record { line = line; command = Edit act once }) log
    new made now (record { line = line; at = length mid.records; answer = answers.Done })
pushed_arm keep p models session first line act once log mid new made now takes records marks out =
    record {
      line =
          pushed_line keep p models session line act once log mid new takes.line records marks out;
      makes = subst (λ (rs : List Record). LineMakes p models first
          (record { line = line; command = Edit act once })
          (record { line = line; at = length mid.records; answer = answers.Done }) rs made now)
          (sym (pushed_records keep p models session line mid new out)) takes.makes;
    }

pub other_arm : (keep : ℕ) (p : Layout) (models : List Content) (session first : ℕ)
    (l : ScriptLine) (log new : Log) (made now : MadeAndMet) (a : LineAnswer)
    → accepted_by session l.line l.command a.at a.answer ≡ []
    → TakesLine 0 p models session first l log new made now a
    → TakesLine keep p models session first l log new made now a
other_arm keep p models session first l log new made now a none takes = record {
  line = other_line keep p models session l log new a none takes.line;
  makes = takes.makes;
}

-- what a store wants is of a level of the world
pub sought_low : (p : Layout) (w : World) (wanted : Wanted) → IsPartOfWorld p w wanted.shape
    → IsSought p wanted → wanted.level ≤ top p.side
sought_low p w wanted part sought =
    let f = part_of_world p w wanted.level wanted.shape part sought.canonical sought.some in
    let same = f.same_level in
    let low = aligned_low (world_block p.side) f.block f.aligned in
    omega arith

pub full_arm : (keep : ℕ) (p : Layout) (models : List Content) (session first line : ℕ) (act : Act)
    (once : Bool) (level bucket : ℕ) (log : Log) (old new : StoreState) → IsLegal (2 ^ p.side) models log
    → old.plan ≡ p
    → first ≤ length log.records
    → MeetsFull (IsWanted p models log.records act (length log.records)) level bucket old new
    → TakesLine keep p models session first (record { line = line; command = Edit act once }) log log
    (made_and_met old) (made_and_met new)
    (record { line = line; at = length log.records; answer = answers.Full level bucket })
full_arm keep p models session first line act once level bucket log old new legal same low fails =
    let w : Wanted = record { level = level; bucket = bucket; shape = fails.wanted } in
    let sought : IsSought p w = subst (λ (q : Layout). IsSought q w) same fails.sought in
    record {
      line =
          resting_line keep p models session (record { line = line; command = Edit act once }) log
          (answers.Full level bucket) legal refl
          (full act once level bucket fails.wants.edit
          (sought_low p
          (made_of (2 ^ p.side) models log.records act
          (length log.records) fails.wants.parts) w fails.wants.part sought) sought.bucket_in);
      makes = fails_line p models log.records act
          (length log.records) first line once level bucket old new low (omega arith) same fails;
    }

pub late_arm : (keep : ℕ) (p : Layout) (models : List Content) (session first line : ℕ) (act : Act)
    (once : Bool) (log : Log) (made now : MadeAndMet) → IsLegal (2 ^ p.side) models log
    → length log.records ≡ 65535
    → is_edit act ≡ true → first ≤ length log.records
    → Grew (IsWanted p models log.records act (length log.records)) made.made now.made
    → now.met ≡ made.met
    → TakesLine keep p models session first
    (record { line = line; command = Edit act once }) log log made now
    (record { line = line; at = length log.records; answer = answers.LogFull })
late_arm keep p models session first line act once log made now legal all edit low grew same = record {
  line =
      resting_line keep p models session
      (record { line = line; command = Edit act once }) log answers.LogFull legal refl
      (log_full act once all (λ other. absurd (other edit)));
  makes = grows_line p models log.records act (length log.records) first line
      (length log.records) once answers.LogFull made now low (omega arith) refl grew same;
}

pub resting_arm : (keep : ℕ) (p : Layout) (models : List Content) (session first : ℕ) (l : ScriptLine)
    (log : Log) (answer : Answer) (noted : MadeAndMet) → IsLegal (2 ^ p.side) models log
    → is_resting answer ≡ true → refused_by l.command (length log.records) answer ≡ []
    → Answers p models log (IsUnforgotten log.marks session l.line (length log.records)) session l.line
    (length log.records) l.command answer
    → TakesLine keep p models session first l log log noted noted
    (answer_at l (length log.records) answer)
resting_arm keep p models session first l log answer noted legal rests none fits = record {
  line = resting_line keep p models session l log answer legal rests fits;
  makes = idle_line p models log.records first l
      (answer_at l (length log.records) answer) noted none;
}

-- the moment of the line before is one of the history
pub last_within : (n first : ℕ) (transcript : List LineAnswer) → All (λ a. a.at ≤ n) transcript
    → first ≤ n → last_moment first transcript ≤ n
last_within n first [] all low = low
last_within n first (a ∷ transcript) all low =
    last_within n a.at transcript (All-tail (λ b. b.at ≤ n) a transcript all)
    (All-head (λ b. b.at ≤ n) a transcript all)

pub before_within : (since keep : ℕ) (p : Layout) (models : List Content)
    (scripts : List (List ScriptLine)) (transcripts : List (List LineAnswer))
    (script : List ScriptLine) (transcript : List LineAnswer) (log : Log) (noted : MadeAndMet)
    → IsRunning since keep p models scripts transcripts script transcript log noted
    → last_moment 0 transcript ≤ length log.records
before_within since keep p models scripts transcripts script transcript log noted r =
    last_within (length log.records) 0 transcript
    (moments_within p models log (length scripts) script transcript r.so_far.lines)
    (omega arith)
