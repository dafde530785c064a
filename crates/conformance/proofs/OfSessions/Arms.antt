-- What each call of a session makes of the line that it answers.
use Rattle.std.proofs.Common.{◌≡◌, ℕ, ◌<◌, ◌≤◌, ◌⊎◌, ◌^◌, Bool, true, Some, List, [], ◌++◌, length, refl, ap, sym, subst, ◌∙◌, inl, inr, arith}
use Rattle.std.specs.Prelude.{All}
use Rattle.std.specs.List.{Contains}
use Rattle.std.proofs.lemmas.Bool.{false≢true}
use Rattle.std.proofs.lemmas.List.Elements.{All-nil, All-cons, All-contains, All-weaker}
use Rattle.history_model.specs.Contents.{Content}
use Rattle.history_model.specs.declared.acts.Act.{Act}
use Rattle.history_model.specs.declared.histories.Mark.{Mark}
use Rattle.history_model.specs.Worlds.{is_edit}
use Rattle.node_words.specs.Held.{Wanted}
use Rattle.node_words.specs.Plans.{Layout}
use Rattle.conformance.specs.possible.Needed.{made_of}
use Rattle.script.specs.declared.commands.Command.TheVariants.{Edit, Forget}
use Rattle.script.specs.declared.commands.ScriptLine.{ScriptLine}
use Rattle.transcript.specs.declared.answers.Answer.{Answer}
use Rattle.transcript.specs.declared.answers.Answer.TheVariants as answers
use Rattle.transcript.specs.declared.answers.LineAnswer.{LineAnswer}
use Rattle.conformance.specs.Answers.{Answers, IsForgotten, IsReadable, HasReadableTarget, target_at, done, forgot, stale, full}
use Rattle.conformance.specs.Kinds.{is_resting, answer_at}
use Rattle.conformance.specs.Passes.{IsLooked}
use Rattle.conformance.specs.Refusing.{Refusal, refused_by}
use Rattle.conformance.specs.Shown.{Accepted, accepted_by, forgotten_by}
use Rattle.conformance.proofs.LineKinds.{resting_not_done, resting_accepts, resting_forgets}
use Rattle.conformance.specs.scripts.Keeping.{MakesFor, WasMet}
use Rattle.conformance.proofs.OfScripts.Arms.{sought_low}
use Rattle.conformance.specs.sessions.SessionViews.{session_keeping, log_as, SessionView, SeesSuited}
use Rattle.conformance.specs.sessions.Fallen.{LineMarks}
use Rattle.conformance.specs.sessions.Notes.{LineNotes}
use Rattle.conformance.specs.sessions.Lines.{AreEarlier, AnswersLine}
use Rattle.conformance.specs.sessions.Calls.{KnowsOwn, AcceptsNothing, OnlySees, AppendsOwn, ForgetsOwn, NotesFor, MeetsFullBucket, FindsVersion, SeesForgotten}

-- ---- what was noted

act_notes : (p : Layout) (models : List Content) (act : Act) (once : Bool) (line : ℕ)
    (answer : Answer) (old new : SessionView)
    → refused_by (Edit act once) (length new.log.records) answer ≡ []
    → NotesFor p models act old new
    → LineNotes p models new.log.records (length old.log.records)
    (record { line = line; command = Edit act once })
    (record { line = line; at = length new.log.records; answer = answer }) old.noted new.noted
act_notes p models act once line answer old new none n = record {
  more = n.more;
  made = n.made;
  further = n.further;
  met = n.met;
  parts = n.parts;
  wanted = n.wanted;
  was_met = subst (λ (rs : List Refusal). All (WasMet p models new.log.records n.further) rs)
      (sym none) (All-nil (WasMet p models new.log.records n.further));
}

full_notes : (p : Layout) (models : List Content) (act : Act) (once : Bool) (line level bucket : ℕ)
    (old new : SessionView) → MeetsFullBucket p models act level bucket old new
    → LineNotes p models new.log.records (length old.log.records)
    (record { line = line; command = Edit act once })
    (record { line = line; at = length new.log.records; answer = answers.Full level bucket }) old.noted new.noted
full_notes p models act once line level bucket old new m =
    let n : NotesFor p models act old new = m.notes in
    record {
      more = n.more;
      made = n.made;
      further = n.further;
      met = n.met;
      parts = n.parts;
      wanted = n.wanted;
      was_met =
          All-cons (WasMet p models new.log.records n.further)
          (record { act = act; at = length new.log.records; level = level; bucket = bucket }) []
          (record {
            shape = m.shape;
            is_met = record { wanted = m.wanted; canonical = m.sought.canonical; some = m.sought.some; of_bucket = sym m.sought.bucket_is };
            listed = m.listed;
            there = omega arith;
          }) (All-nil (WasMet p models new.log.records n.further));
    }

idle_notes : (p : Layout) (models : List Content) (l : ScriptLine) (a : LineAnswer)
    (old new : SessionView) → refused_by l.command a.at a.answer ≡ [] → new.noted ≡ old.noted
    → LineNotes p models new.log.records (length old.log.records) l a old.noted new.noted
idle_notes p models l a old new none same = record {
  more = [];
  made = ap (λ n. n.made) same;
  further = [];
  met = ap (λ n. n.met) same;
  parts = All-nil (MakesFor p models new.log.records l.command (length old.log.records) a.at);
  wanted = All-nil
      (λ (w : Wanted). MakesFor p models new.log.records l.command
      (length old.log.records) a.at w.shape);
  was_met = subst (λ (rs : List Refusal). All (WasMet p models new.log.records []) rs) (sym none)
      (All-nil (WasMet p models new.log.records []));
}

-- ---- lines that accept something

pub accepted_arm : (keep : ℕ) (tint : Bool) (p : Layout) (models : List Content) (session line : ℕ)
    (act : Act) (once : Bool) (old new : SessionView) → AppendsOwn keep session line act old new
    → NotesFor p models act old new
    → AnswersLine (session_keeping keep tint p models session)
    (record { line = line; command = Edit act once }) old new
    (record { line = line; at = length new.log.records; answer = answers.Done })
accepted_arm keep tint p models session line act once old new appends notes = record {
  same_line = refl;
  newest = refl;
  goes_on = appends.sees.goes_on;
  later = λ _. appends.longer;
  unseen = λ base e. absurd (let no : ⊥ = cc in no);
  found = appends.sees.found;
  records = appends.records;
  marks = appends.marks;
  fits = λ suits. done act once appends.last;
  notes = act_notes p models act once line answers.Done old new refl notes;
}

pub forgot_arm : (keep : ℕ) (tint : Bool) (p : Layout) (models : List Content)
    (session line version : ℕ) (old new : SessionView) → ForgetsOwn session line version old new
    → AnswersLine (session_keeping keep tint p models session)
    (record { line = line; command = Forget version }) old new
    (record { line = line; at = length new.log.records; answer = answers.Forgot version })
forgot_arm keep tint p models session line version old new forgets = record {
  same_line = refl;
  newest = refl;
  goes_on = forgets.sees.goes_on;
  later = λ e. absurd (let no : ⊥ = cc in no);
  unseen = λ base e. absurd (let no : ⊥ = cc in no);
  found = forgets.sees.found;
  records = forgets.records;
  marks = forgets.marks;
  fits = λ suits. forgot version forgets.listed;
  notes = idle_notes p models (record { line = line; command = Forget version })
      (record { line = line; at = length new.log.records; answer = answers.Forgot version }) old new refl forgets.noted;
}

-- ---- lines that accept nothing

-- what comes of nothing
pub same_after : {X : Type 0} (none old new : List X) → none ≡ [] → new ≡ old → new ≡ none ++ old
same_after {X} none old new e same = subst (λ (xs : List X). new ≡ xs ++ old) (sym e) same

-- a line without a record pushes no version out
no_record : (keep : ℕ) (xs : List Accepted) (were : List Mark) (new : SessionView) → xs ≡ []
    → new.marks ≡ were → LineMarks keep xs were new
no_record keep xs were new none same =
    subst (λ (cs : List Accepted). LineMarks keep cs were new) (sym none) same

pub full_arm : (keep : ℕ) (tint : Bool) (p : Layout) (models : List Content) (session line : ℕ)
    (act : Act) (once : Bool) (level bucket : ℕ) (old new : SessionView) → AcceptsNothing old new
    → MeetsFullBucket p models act level bucket old new
    → AnswersLine (session_keeping keep tint p models session)
    (record { line = line; command = Edit act once }) old new
    (record { line = line; at = length new.log.records; answer = answers.Full level bucket })
full_arm keep tint p models session line act once level bucket old new nothing meets = record {
  same_line = refl;
  newest = refl;
  goes_on = nothing.sees.goes_on;
  later = λ e. absurd (let no : ⊥ = cc in no);
  unseen = λ base e. absurd (let no : ⊥ = cc in no);
  found = nothing.sees.found;
  records = nothing.records;
  marks = nothing.marks;
  fits = λ suits.
      full act once level bucket meets.wanted.edit
      (sought_low p
      (made_of (2 ^ p.side) models new.log.records act
      (length new.log.records) meets.wanted.parts)
      (record { level = level; bucket = bucket; shape = meets.shape }) meets.wanted.part meets.sought) meets.sought.bucket_in;
  notes = full_notes p models act once line level bucket old new meets;
}

abbrev base_of : Answer → ℕ
base_of (answers.Stale b) = b
base_of _ = 0

same_base : (b c : ℕ) → answers.Stale b ≡ answers.Stale c → b ≡ c
same_base b c e = ap base_of e

pub stale_arm : (keep : ℕ) (tint : Bool) (p : Layout) (models : List Content) (session line : ℕ)
    (act : Act) (base : ℕ) (old new : SessionView) → AcceptsNothing old new
    → NotesFor p models act old new → length old.log.records ≤ base → base < length new.log.records
    → length new.log.records < 65535
    → AnswersLine (session_keeping keep tint p models session)
    (record { line = line; command = Edit act true }) old new
    (record { line = line; at = length new.log.records; answer = answers.Stale base })
stale_arm keep tint p models session line act base old new nothing notes low high room = record {
  same_line = refl;
  newest = refl;
  goes_on = nothing.sees.goes_on;
  later = λ e. absurd (let no : ⊥ = cc in no);
  unseen = λ b e. subst (λ (n : ℕ). length old.log.records ≤ n) (same_base base b e) low;
  found = nothing.sees.found;
  records = nothing.records;
  marks = nothing.marks;
  fits = λ suits. stale act base high room;
  notes = act_notes p models act true line (answers.Stale base) old new refl notes;
}

pub refused_arm : (keep : ℕ) (tint : Bool) (p : Layout) (models : List Content) (session line : ℕ)
    (act : Act) (once : Bool) (answer : Answer) (old new : SessionView) → AcceptsNothing old new
    → NotesFor p models act old new → is_resting answer ≡ true
    → refused_by (Edit act once) (length new.log.records) answer ≡ []
    → (SeesSuited (session_keeping keep tint p models session) new
    → Answers p models (log_as tint new.log)
    (IsLooked new.found new.marks line (length new.log.records)) session line
    (length new.log.records) (Edit act once) answer)
    → AnswersLine (session_keeping keep tint p models session)
    (record { line = line; command = Edit act once }) old new
    (record { line = line; at = length new.log.records; answer = answer })
refused_arm keep tint p models session line act once answer old new nothing notes rests none fits =
    record {
      same_line = refl;
      newest = refl;
      goes_on = nothing.sees.goes_on;
      later = λ e. absurd (false≢true (sym (ap is_resting e) ∙ rests));
      unseen = λ base e. absurd (false≢true (sym (ap is_resting e) ∙ rests));
      found = nothing.sees.found;
      records = same_after
          (accepted_by session line (Edit act once)
          (length new.log.records) answer) old.records new.records
          (resting_accepts session line (Edit act once) (length new.log.records) answer
          (resting_not_done answer rests)) nothing.records;
      marks =
          no_record keep (accepted_by session line (Edit act once) (length new.log.records) answer)
          (forgotten_by session line (length new.log.records) answer ++ old.marks) new
          (resting_accepts session line (Edit act once) (length new.log.records) answer
          (resting_not_done answer rests))
          (same_after (forgotten_by session line (length new.log.records) answer) old.marks new.marks
          (resting_forgets session line (length new.log.records) answer rests) nothing.marks);
      fits = fits;
      notes = act_notes p models act once line answer old new none notes;
    }

pub resting_arm : (keep : ℕ) (tint : Bool) (p : Layout) (models : List Content) (session : ℕ)
    (l : ScriptLine) (answer : Answer) (old new : SessionView) → OnlySees old new
    → is_resting answer ≡ true → refused_by l.command (length new.log.records) answer ≡ []
    → (SeesSuited (session_keeping keep tint p models session) new
    → Answers p models (log_as tint new.log)
    (IsLooked new.found new.marks l.line (length new.log.records)) session l.line
    (length new.log.records) l.command answer)
    → AnswersLine (session_keeping keep tint p models session) l old new
    (answer_at l (length new.log.records) answer)
resting_arm keep tint p models session l answer old new only rests none fits = record {
  same_line = refl;
  newest = refl;
  goes_on = only.nothing.sees.goes_on;
  later = λ e. absurd (false≢true (sym (ap is_resting e) ∙ rests));
  unseen = λ base e. absurd (false≢true (sym (ap is_resting e) ∙ rests));
  found = only.nothing.sees.found;
  records = same_after
      (accepted_by session l.line l.command
      (length new.log.records) answer) old.records new.records
      (resting_accepts session l.line l.command (length new.log.records) answer
      (resting_not_done answer rests)) only.nothing.records;
  marks =
      no_record keep (accepted_by session l.line l.command (length new.log.records) answer)
      (forgotten_by session l.line (length new.log.records) answer ++ old.marks) new
      (resting_accepts session l.line l.command (length new.log.records) answer
      (resting_not_done answer rests))
      (same_after (forgotten_by session l.line (length new.log.records) answer) old.marks new.marks
      (resting_forgets session l.line
      (length new.log.records) answer rests) only.nothing.marks);
  fits = fits;
  notes = idle_notes p models l
      (answer_at l (length new.log.records) answer) old new none only.noted;
}

-- ---- what stands behind answers

pub found_readable : (session line : ℕ) (s : SessionView) (version : ℕ) → KnowsOwn session s
    → FindsVersion s version
    → IsReadable (IsLooked s.found s.marks line (length s.log.records))
    (length s.log.records) version
found_readable session line s version knows finds = record {
  there = finds.there;
  stands = record {
    listed = inl finds.listed;
    later =
        All-weaker (Contains s.log.marks) (λ (m : Mark). m.version ≡ version → line ≤ m.line)
        (λ m seen same. absurd
        (All-contains
        (λ (n : Mark). n.version ≡ version
        → ⊥) s.log.marks m finds.unmarked seen same)) s.marks knows.listed;
  };
}

pub marked_forgotten : (session line : ℕ) (s : SessionView) (version : ℕ) → KnowsOwn session s
    → AreEarlier s line → SeesForgotten s version
    → IsForgotten s.log.marks session line (length s.log.records) version
marked_forgotten session line s version knows earlier sees = record {
  mark = sees.mark;
  listed = sees.listed;
  same = sees.same;
  by_then = (All-contains
      (λ (m : Mark). (m.version < m.at)
      × (m.at ≤ length s.log.records)) s.log.marks sees.mark knows.dated sees.listed).1;
  earlier = λ mine. All-contains (λ (m : Mark). m.line < line) s.marks sees.mark earlier
      (All-contains
      (λ (m : Mark). m.session ≡ session
      → Contains s.marks m) s.log.marks sees.mark knows.own sees.listed mine);
}

pub found_way : (session line : ℕ) (s : SessionView) (act : Act) → KnowsOwn session s
    →
    ((is_edit act ≡ true)
    ⊎ ((to : ℕ) × (target_at s.log.records (length s.log.records) act ≡ Some to)
    × FindsVersion s to))
    → HasReadableTarget (IsLooked s.found s.marks line (length s.log.records)) s.log.records
    (length s.log.records) act
found_way session line s act knows (inl edit) other = absurd (other edit)
found_way session line s act knows (inr way) other =
    (way.0, way.1, found_readable session line s way.0 knows way.2)
