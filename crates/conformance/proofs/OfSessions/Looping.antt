-- The loop over a session's lines.
use Rattle.std.proofs.Common.{◌≡◌, ℕ, zero, suc, arith, ◌+◌, ◌<◌, ◌≤◌, List, [], ◌∷◌, ◌++◌, length, take, get_or, refl, ap, sym, subst, ◌∙◌, append-nil, append_assoc}
use Rattle.std.specs.List.{Contains}
use Rattle.std.proofs.lemmas.List.{take_more, take_all}
use Rattle.std.proofs.lemmas.List.Elements.{All-contains, All-weaker}
use Rattle.history_model.specs.declared.histories.Record.{Record}
use Rattle.history_model.specs.Logs.{Log}
use Rattle.script.specs.declared.commands.ScriptLine.{ScriptLine}
use Rattle.script.specs.Fitting.{RisesFrom}
use Rattle.transcript.specs.declared.answers.LineAnswer.{LineAnswer}
use Rattle.conformance.specs.declared.saves.SavedBox.{SavedBox}
use Rattle.conformance.specs.Answers.{ExtendsLog}
use Rattle.conformance.specs.Kinds.{IsAfter}
use Rattle.conformance.specs.Saves.{saved_by}
use Rattle.conformance.proofs.LineKinds.{goes_nowhere}
use Rattle.conformance.proofs.OfScripts.RunSteps.{earlier}
use Rattle.conformance.proofs.OfScripts.Saving.{SavedByLines, no_line_saved, line_saved, all_lines_saved}
use Rattle.conformance.specs.sessions.SessionViews.{SessionOf, SessionView, DidNothing}
use Rattle.conformance.specs.sessions.Lines.{AreEarlier, AnswersLine, SuitsCommand, SessionSoFar}
use Rattle.conformance.specs.sessions.Runs.{RunsScript}
use Rattle.conformance.specs.sessions.Saves.{saves_asked, saves_asked_in, versions_of}
use Rattle.conformance.proofs.OfSessions.Going.{begins, are_earlier, goes_on, ends}

-- a history goes on from what it goes on from
goes_through : (a b c : Log) → ExtendsLog a b → ExtendsLog b c → ExtendsLog a c
goes_through a b c first second = record {
  side = second.side ∙ first.side;
  coloured = second.coloured ∙ first.coloured;
  more = first.more ++ second.more;
  records = second.records ∙ ap (λ (rs : List Record). rs ++ second.more) first.records
      ∙ append_assoc a.records first.more second.more;
  marks = All-weaker (Contains b.marks) (Contains c.marks)
      (λ m there. All-contains (Contains c.marks) b.marks m second.marks there) a.marks first.marks;
}

-- the versions of more saves
versions_append : (xs ys : List SavedBox)
    → versions_of (xs ++ ys) ≡ versions_of xs ++ versions_of ys
versions_append [] ys = refl
versions_append (x ∷ xs) ys = ap (λ (vs : List ℕ). x.version ∷ vs) (versions_append xs ys)

more_versions : (were between are : List ℕ) (boxes more : List SavedBox)
    → between ≡ were ++ versions_of boxes → are ≡ between ++ versions_of more
    → are ≡ were ++ versions_of (boxes ++ more)
more_versions were between are boxes more old new =
    new ∙ ap (λ (vs : List ℕ). vs ++ versions_of more) old
    ∙ append_assoc were (versions_of boxes) (versions_of more)
    ∙ ap (λ (vs : List ℕ). were ++ vs) (sym (versions_append boxes more))

-- ---- how many saves the first lines ask for

asked_first : (lines : List ScriptLine) (i : ℕ) (l : ScriptLine) → i < length lines
    → l ≡ get_or lines i l
    → saves_asked_in (take (suc i) lines) ≡ saves_asked_in (take i lines) + saves_asked l.command
asked_first [] i l lt is = absurd (omega arith)
asked_first (k ∷ lines) zero l lt is =
    (let one : saves_asked l.command
    ≡ saves_asked k.command = ap (λ (m : ScriptLine). saves_asked m.command) is in omega arith)
asked_first (k ∷ lines) (suc i) l lt is =
    (let rest = asked_first lines i l (omega arith) is in omega arith)

pub asked_next : (lines : List ScriptLine) (i : ℕ) (l : ScriptLine) → i < length lines
    → l ≡ get_or lines i l
    → saves_asked_in (take (i + 1) lines) ≡ saves_asked_in (take i lines) + saves_asked l.command
asked_next lines i l lt is =
    ap (λ (n : ℕ). saves_asked_in (take n lines)) (let e : i + 1 ≡ suc i = omega arith in e)
    ∙ asked_first lines i l lt is

pub asked_within : (lines : List ScriptLine) (i : ℕ) (l : ScriptLine) → i < length lines
    → l ≡ get_or lines i l
    → saves_asked_in (take i lines) + saves_asked l.command ≤ saves_asked_in lines
asked_within [] i l lt is = absurd (omega arith)
asked_within (k ∷ lines) zero l lt is =
    (let one : saves_asked l.command
    ≡ saves_asked k.command = ap (λ (m : ScriptLine). saves_asked m.command) is in omega arith)
asked_within (k ∷ lines) (suc i) l lt is =
    (let rest = asked_within lines i l (omega arith) is in omega arith)

-- the first lines of a script were run
pub record LinesRan (of : SessionOf) (lines : List ScriptLine) (before after : List LineAnswer)
    (old new : SessionView) (were are : List ℕ) : Type 0 where
  pub answers : List LineAnswer
  pub pushed : after ≡ before ++ answers
  pub so_far : SessionSoFar of lines answers old.noted new
  pub goes_on : ExtendsLog old.log new.log
  pub boxes : List SavedBox
  pub saved : SavedByLines [] boxes lines answers
  pub versions : are ≡ were ++ versions_of boxes

pub no_lines : (of : SessionOf) (before : List LineAnswer) (s : SessionView) (saved : List ℕ)
    → DidNothing s → LinesRan of [] before before s s saved saved
no_lines of before s saved idle = record {
  answers = [];
  pushed = sym (append-nil before);
  so_far = begins of.keep of.tint of.plan of.models of.number s idle;
  goes_on = goes_nowhere s.log;
  boxes = [];
  saved = no_line_saved [];
  versions = sym (append-nil saved);
}

-- the next line's premise
pub next_earlier : (of : SessionOf) (lines : List ScriptLine) (i : ℕ) (l : ScriptLine)
    (before after : List LineAnswer) (old s : SessionView) (were are : List ℕ) → i < length lines
    → RisesFrom 1 lines → l ≡ get_or lines i l
    → LinesRan of (take i lines) before after old s were are → AreEarlier s l.line
next_earlier of lines i l before after old s were are lt rising is ran =
    are_earlier of.keep of.tint of.plan of.models of.number
    (take i lines) ran.answers old.noted s l ran.so_far
    (subst (λ (k : ScriptLine). IsAfter (take i lines) k) (sym is)
    (earlier 1 lines i l rising lt))

pub next_line : (of : SessionOf) (lines : List ScriptLine) (i : ℕ) (l : ScriptLine)
    (before after further : List LineAnswer) (old mid new : SessionView) (were between are : List ℕ)
    (a : LineAnswer)
    → i < length lines → RisesFrom 1 lines → l ≡ get_or lines i l → SuitsCommand of.tint l.command
    → LinesRan of (take i lines) before after old mid were between → AnswersLine of l mid new a
    → are ≡ between ++ versions_of (saved_by l.command a.at a.answer) → further ≡ after ++ a ∷ []
    → LinesRan of (take (i + 1) lines) before further old new were are
next_line of lines i l before after further old mid new were between are a lt rising is suited ran takes saved pushed =
    let next : take (i + 1) lines ≡ take i lines ++ l ∷ [] =
    take_more lines i l lt ∙ ap (λ (k : ScriptLine). take i lines ++ k ∷ []) (sym is) in
    let rises : IsAfter (take i lines) l =
    subst (λ (k : ScriptLine). IsAfter (take i lines) k) (sym is)
    (earlier 1 lines i l rising lt) in
    record {
      answers = ran.answers ++ a ∷ [];
      pushed = pushed ∙ ap (λ (bs : List LineAnswer). bs ++ a ∷ []) ran.pushed
          ∙ append_assoc before ran.answers (a ∷ []);
      so_far = subst
          (λ (ls : List ScriptLine). SessionSoFar of ls (ran.answers ++ a ∷ []) old.noted new)
          (sym next) (goes_on of.keep of.tint of.plan of.models of.number
          (take i lines) ran.answers old.noted mid new l a ran.so_far rises suited takes);
      goes_on = goes_through old.log mid.log new.log ran.goes_on takes.goes_on;
      boxes = ran.boxes ++ saved_by l.command a.at a.answer;
      saved = line_saved [] ran.boxes
          (ran.boxes ++ saved_by l.command a.at a.answer) lines i l ran.answers
          (ran.answers ++ a ∷ []) a lt ran.saved is refl refl;
      versions = more_versions were between are ran.boxes
          (saved_by l.command a.at a.answer) ran.versions saved;
    }

pub all_lines : (of : SessionOf) (lines : List ScriptLine) (i : ℕ) (before after : List LineAnswer)
    (old new : SessionView) (were are : List ℕ) → length lines ≤ i
    → LinesRan of (take i lines) before after old new were are
    → RunsScript of lines before after old new were are
all_lines of lines i before after old new were are past ran = record {
  answers = ran.answers;
  pushed = ran.pushed;
  ran = ends of.keep of.tint of.plan of.models of.number lines ran.answers old.noted new
      (subst (λ (ls : List ScriptLine). SessionSoFar of ls ran.answers old.noted new)
      (take_all i lines past) ran.so_far);
  goes_on = ran.goes_on;
  saved = ran.versions
      ∙ ap (λ (ss : List SavedBox). were ++ versions_of ss)
      (all_lines_saved [] ran.boxes lines i ran.answers past ran.saved);
}
