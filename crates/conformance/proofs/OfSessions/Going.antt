-- A session's run goes on line by line.
use Rattle.std.proofs.Common.{◌≡◌, ℕ, ◌+◌, ◌<◌, ◌≤◌, ◌⊎◌, Bool, true, List, [], ◌∷◌, ◌++◌, length, refl, sym, subst, ◌∙◌, inl, inr, arith}
use Rattle.std.specs.Prelude.{All, sum_by}
use Rattle.std.specs.List.{AllZip, Contains}
use Rattle.std.proofs.lemmas.List.Sums.{sum_by-append}
use Rattle.std.proofs.lemmas.List.Elements.{All-nil, All-cons, All-append, All-contains, All-contains_itself, All-map, All-weaker, Contains-append_left, Contains-push}
use Rattle.history_model.specs.Contents.{Content}
use Rattle.history_model.specs.declared.histories.Mark.{Mark}
use Rattle.history_model.specs.Logs.{Log, suits_tints}
use Rattle.node_words.specs.Plans.{Layout}
use Rattle.script.specs.declared.commands.ScriptLine.{ScriptLine}
use Rattle.transcript.specs.declared.answers.Answer.{Answer}
use Rattle.transcript.specs.declared.answers.Answer.TheVariants as answers
use Rattle.transcript.specs.declared.answers.LineAnswer.{LineAnswer}
use Rattle.conformance.specs.Agreeing.{InOrder}
use Rattle.conformance.specs.Kinds.{IsAfter}
use Rattle.conformance.specs.Passes.{PassStep, Closes}
use Rattle.conformance.specs.Running.{line_numbers}
use Rattle.script.specs.declared.commands.Command.{Command}
use Rattle.script.specs.declared.commands.Command.TheVariants.{Edit}
use Rattle.conformance.specs.Shown.{Accepted, SameItems, accepted_by, accepted_in, forgotten_by, forgotten_in}
use Rattle.conformance.proofs.Lists.{pairs_nil, pairs_push, same_of, zip_map, zip_push}
use Rattle.conformance.proofs.Running.{accepted_push, lines_push, forgotten_push}
use Rattle.conformance.proofs.Seeing.{pass_line, pass_agrees, longer}
use Rattle.conformance.specs.scripts.Keeping.{MadeAndMet, last_moment}
use Rattle.conformance.proofs.OfScripts.Arms.{last_within}
use Rattle.conformance.specs.sessions.SessionViews.{session_keeping, log_as, SessionView, SeesSuited, DidNothing, AllowsWhole}
use Rattle.conformance.specs.sessions.Ran.{IsAnswered, SessionRan}
use Rattle.conformance.specs.sessions.Lines.{AreEarlier, AnswersLine, SuitsCommand, SessionSoFar}
use Rattle.conformance.specs.sessions.Fallen.{IsFallen}
use Rattle.conformance.proofs.OfSessions.Fallen.{Grown, line_grows, fallen_is_of, none_own, own_more}
use Rattle.conformance.proofs.OfSessions.Items.{own_listed, same_first}
use Rattle.conformance.proofs.OfSessions.SuitLaws.{accepted_suit, goes_as, suits_before, whole_suits}
use Rattle.conformance.proofs.OfSessions.SavedSeen.{saves_seen}
use Rattle.conformance.proofs.OfSessions.Noting.{line_notes_from, notes_push, notes_stay}

pub begins : (keep : ℕ) (tint : Bool) (p : Layout) (models : List Content) (session : ℕ)
    (s : SessionView) → DidNothing s
    → SessionSoFar (session_keeping keep tint p models session) [] [] s.noted s
begins keep tint p models session s idle = record {
  lines = tt;
  moments = pairs_nil InOrder;
  accepted = same_of s.records [] idle.records;
  suit = subst (λ (cs : List Accepted). All (λ c. suits_tints tint c.entry.act ≡ true) cs)
      (sym idle.records) (All-nil _);
  marks = none_own keep s idle.records idle.marks;
  by = subst (λ (ms : List Mark). All (λ m. Contains (line_numbers []) m.line) ms) (sym idle.marks)
      (All-nil _);
  pass = λ suits.
      record { lines = tt; moments = pairs_nil InOrder; accepted = same_of s.records [] idle.records };
  notes = refl;
}

pub are_earlier : (keep : ℕ) (tint : Bool) (p : Layout) (models : List Content) (session : ℕ)
    (script : List ScriptLine) (answers : List LineAnswer) (before : MadeAndMet) (s : SessionView)
    (l : ScriptLine)
    → SessionSoFar (session_keeping keep tint p models session) script answers before s
    → IsAfter script l → AreEarlier s l.line
are_earlier keep tint p models session script answers before s l so_far rising =
    All-weaker (λ (m : Mark). Contains (line_numbers script) m.line) (λ (m : Mark). m.line < l.line)
    (λ m here. All-contains (λ (n : ℕ). n < l.line) (line_numbers script) m.line
    (All-map (λ (n : ℕ). n < l.line)
    (λ (k : ScriptLine). k.line) script rising) here) s.marks so_far.by

-- each line was answered at a moment that was seen
answered_within : (n : ℕ) (script : List ScriptLine) (answers : List LineAnswer)
    → AllZip (IsAnswered n) script answers → All (λ a. a.at ≤ n) answers
answered_within n [] [] all = All-nil _
answered_within n [] (a ∷ answers) all = absurd all
answered_within n (l ∷ script) [] all = absurd all
answered_within n (l ∷ script) (a ∷ answers) all =
    All-cons (λ b. b.at ≤ n) a answers all.0.within (answered_within n script answers all.1)

answered_later : (m n : ℕ) (script : List ScriptLine) (answers : List LineAnswer) → m ≤ n
    → AllZip (IsAnswered m) script answers → AllZip (IsAnswered n) script answers
answered_later m n script answers le all =
    zip_map (IsAnswered m) (IsAnswered n) (λ _. Unit {0}) script answers (λ i d lt. tt)
    (λ k b _ is.
    (let within = is.within in record { same_line = is.same_line; within = omega arith })) all

both_weigh : {X : Type 0} (f : X → ℕ) (xs ys zs all : List X) → sum_by f xs ≡ sum_by f zs
    → sum_by f all ≡ sum_by f zs + sum_by f ys → sum_by f (xs ++ ys) ≡ sum_by f all
both_weigh f xs ys zs all a b = (let c = sum_by-append f xs ys in omega arith)

-- the records of a line are of the line
accepted_of_line : (session line : ℕ) (command : Command) (n : ℕ) (answer : Answer)
    → All (λ (c : Accepted). c.entry.line ≡ line) (accepted_by session line command n answer)
accepted_of_line session line (Edit act once) n answers.Done =
    All-cons (λ (c : Accepted). c.entry.line ≡ line) _ [] refl
    (All-nil (λ (c : Accepted). c.entry.line ≡ line))
accepted_of_line session line (Edit act once) n _ = All-nil (λ (c : Accepted). c.entry.line ≡ line)
accepted_of_line session line _ n answer = All-nil (λ (c : Accepted). c.entry.line ≡ line)

-- a mark that the line forgot a version by is of the line
forgotten_of_line : (session line n : ℕ) (answer : Answer)
    → All (λ (m : Mark). m.line ≡ line) (forgotten_by session line n answer)
forgotten_of_line session line n (answers.Forgot v) =
    All-cons (λ (m : Mark). m.line ≡ line) _ [] refl (All-nil (λ (m : Mark). m.line ≡ line))
forgotten_of_line session line n _ = All-nil (λ (m : Mark). m.line ≡ line)

module _ (keep : ℕ) (tint : Bool) (p : Layout) (models : List Content) (session : ℕ)
    (l : ScriptLine) (old new : SessionView) (a : LineAnswer)
    (step : AnswersLine (session_keeping keep tint p models session) l old new a) where
  -- a mark of a version that fell out is of the line
  fallen_of_line : (m : Mark) → IsFallen keep (accepted_by session l.line l.command a.at a.answer) m
      → m.line ≡ l.line
  fallen_of_line m f =
      let is = fallen_is_of keep (accepted_by session l.line l.command a.at a.answer) m f in
      is.2 ∙ All-contains (λ (c : Accepted). c.entry.line ≡ l.line)
      (accepted_by session l.line l.command a.at a.answer) f.by
      (accepted_of_line session l.line l.command a.at a.answer) f.listed

  own_or_new : All (λ m. (Contains old.marks m) ⊎ (m.line ≡ l.line)) new.marks
  own_or_new =
      let grown : Grown keep (accepted_by session l.line l.command a.at a.answer) (forgotten_by session l.line a.at a.answer ++ old.marks) new.marks =
      line_grows keep (accepted_by session l.line l.command a.at a.answer)
      (forgotten_by session l.line a.at a.answer ++ old.marks) new step.marks in
      subst (λ (ms : List Mark). All (λ m. (Contains old.marks m) ⊎ (m.line ≡ l.line)) ms)
      (sym grown.is)
      (All-append (λ (m : Mark). (Contains old.marks m) ⊎ (m.line ≡ l.line)) grown.fallen
      (forgotten_by session l.line a.at a.answer ++ old.marks)
      (All-weaker (IsFallen keep (accepted_by session l.line l.command a.at a.answer))
      (λ (m : Mark). (Contains old.marks m) ⊎ (m.line ≡ l.line))
      (λ m f. inr (fallen_of_line m f)) grown.fallen grown.each)
      (All-append (λ (m : Mark). (Contains old.marks m) ⊎ (m.line ≡ l.line))
      (forgotten_by session l.line a.at a.answer) old.marks
      (All-weaker (λ (m : Mark). m.line ≡ l.line)
      (λ (m : Mark). (Contains old.marks m) ⊎ (m.line ≡ l.line)) (λ m e. inr e)
      (forgotten_by session l.line a.at a.answer)
      (forgotten_of_line session l.line a.at a.answer))
      (λ i d lt. inl (All-contains_itself old.marks i d lt))))

  pass_step : SeesSuited (session_keeping keep tint p models session) new
      → PassStep p models session l (log_as tint old.log)
      (log_as tint new.log) old.found new.found old.records new.records old.marks new.marks a
  pass_step suits =
      let wide = longer old.log new.log step.goes_on in
      let at = step.newest in
      let low : length old.log.records ≤ a.at = omega arith in
      let within : a.at ≤ length new.log.records = omega arith in
      record {
        goes_on = goes_as tint old.log new.log step.goes_on;
        found_stay = step.found;
        own_or_new = own_or_new;
        no_earlier = low;
        later = step.later;
        unseen = step.unseen;
        fits = record { same_line = step.same_line; within = within; answers = step.fits suits };
        accepted = same_first new.records
            (accepted_by session l.line l.command a.at a.answer) old.records step.records;
      }

pub goes_on : (keep : ℕ) (tint : Bool) (p : Layout) (models : List Content) (session : ℕ)
    (script : List ScriptLine) (answers : List LineAnswer) (before : MadeAndMet)
    (old new : SessionView) (l : ScriptLine) (a : LineAnswer)
    → SessionSoFar (session_keeping keep tint p models session) script answers before old
    → IsAfter script l → SuitsCommand tint l.command
    → AnswersLine (session_keeping keep tint p models session) l old new a
    → SessionSoFar (session_keeping keep tint p models session) (script ++ l ∷ [])
    (answers ++ a ∷ []) before new
goes_on keep tint p models session script answers before old new l a so_far rising suited step =
    let within = answered_within (length old.log.records) script answers so_far.lines in
    let low = last_within (length old.log.records) 0 answers within (omega arith) in
    let wide = longer old.log new.log step.goes_on in
    let at = step.newest in
    let now : SameItems new.records (old.records ++ accepted_by session l.line l.command a.at a.answer) = same_first new.records (accepted_by session l.line l.command a.at a.answer) old.records step.records in
    record {
      lines =
          zip_push (IsAnswered (length new.log.records)) script answers l a
          (answered_later (length old.log.records)
          (length new.log.records) script answers wide so_far.lines)
          (record { same_line = step.same_line; within = omega arith });
      moments =
          pairs_push InOrder answers a so_far.moments
          (All-weaker (λ b. b.at ≤ length old.log.records) (λ b. InOrder b a)
          (λ b le. record {
            no_earlier = omega arith;
            later = λ e.
                (let so = step.later e in omega arith);
            unseen = λ base e.
                (let so = step.unseen base e in omega arith);
          }) answers within);
      accepted = record {
        weighs = λ f. now.weighs f
            ∙ both_weigh f old.records (accepted_by session l.line l.command a.at a.answer)
            (accepted_in session script answers)
            (accepted_in session (script ++ l ∷ []) (answers ++ a ∷ []))
            (so_far.accepted.weighs f)
            (accepted_push
            (IsAnswered (length old.log.records)) f session script answers l a so_far.lines);
      };
      suit =
          subst (λ (cs : List Accepted). All (λ c. suits_tints tint c.entry.act ≡ true) cs)
          (sym step.records)
          (All-append (λ (c : Accepted). suits_tints tint c.entry.act ≡ true)
          (accepted_by session l.line l.command a.at a.answer) old.records
          (accepted_suit tint session l.line l.command a.at a.answer suited) so_far.suit);
      marks =
          own_more keep old new (accepted_by session l.line l.command a.at a.answer)
          (forgotten_in session script answers) (forgotten_by session l.line a.at a.answer)
          (forgotten_in session (script ++ l ∷ [])
          (answers ++ a ∷ [])) step.records step.goes_on.marks step.marks
          (λ f. forgotten_push
          (IsAnswered (length old.log.records)) f session script answers l a so_far.lines) so_far.marks;
      by =
          subst (λ (ns : List ℕ). All (λ m. Contains ns m.line) new.marks)
          (sym (lines_push script l))
          (All-weaker (λ (m : Mark). (Contains old.marks m) ⊎ (m.line ≡ l.line))
          (λ (m : Mark). Contains (line_numbers script ++ l.line ∷ []) m.line)
          (λ m which. elim which [
            | inl was ↦ Contains-append_left (line_numbers script) (l.line ∷ []) m.line
                (All-contains
                (λ (n : Mark). Contains (line_numbers script) n.line) old.marks m so_far.by was)
            | inr now ↦ subst (λ (n : ℕ). Contains (line_numbers script ++ l.line ∷ []) n)
                (sym now) (Contains-push (line_numbers script) l.line)
          ]) new.marks (own_or_new keep tint p models session l old new a step));
      pass = λ suits. pass_line p models session script answers l (log_as tint old.log)
          (log_as tint new.log) old.found new.found old.records new.records old.marks new.marks a
          (so_far.pass
          (suits_before tint p models (log_as tint old.log) (log_as tint new.log)
          (goes_as tint old.log new.log step.goes_on) suits)) rising
          (pass_step keep tint p models session l old new a step suits);
      notes =
          notes_push p models new.log.records 0 script answers before old.noted new.noted l a
          (notes_stay p models old.log new.log step.goes_on
          (length old.log.records) 0 script answers before old.noted
          (omega arith) so_far.lines so_far.notes)
          (line_notes_from p models new.log.records (last_moment 0 answers)
          (length old.log.records) l a old.noted new.noted low step.notes);
    }

-- at the end each answer fits over every whole history that the session's view allows
pub ends : (keep : ℕ) (tint : Bool) (p : Layout) (models : List Content) (session : ℕ)
    (script : List ScriptLine) (answers : List LineAnswer) (before : MadeAndMet) (s : SessionView)
    → SessionSoFar (session_keeping keep tint p models session) script answers before s
    → SessionRan (session_keeping keep tint p models session) script answers before s
ends keep tint p models session script answers before s so_far = record {
  lines = so_far.lines;
  moments = so_far.moments;
  fit = λ whole is.
      (pass_agrees p models session script answers
      (log_as tint s.log) whole s.found s.records s.marks
      (so_far.pass
      (suits_before tint p models (log_as tint s.log) whole is.goes_on
      (whole_suits (session_keeping keep tint p models session) s whole is)))
      (closes whole is)).lines;
  records = so_far.accepted;
  suit = so_far.suit;
  marks = so_far.marks;
  notes = so_far.notes;
  saves = λ suits. saves_seen tint p models session s script answers (so_far.pass suits).lines;
}
  where
    closes : (whole : Log) → AllowsWhole (session_keeping keep tint p models session) s whole
        → Closes (log_as tint s.log) s.found session s.marks whole
    closes whole is = record {
      goes_on = is.goes_on;
      excluded = is.found;
      listed = own_listed session whole.marks s.marks is.marks;
      dated = All-weaker (λ (m : Mark). (m.version < m.at) × (m.at ≤ length whole.records))
          (λ (m : Mark). m.version < m.at) (λ m both. both.0) whole.marks is.legal.marked;
    }
