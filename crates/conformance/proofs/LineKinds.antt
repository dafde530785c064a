-- What each kind of answer makes of a history.
use Rattle.std.proofs.Common.{◌≡◌, ◌≢◌, ℕ, zero, suc, ◌+◌, ◌-◌, ◌^◌, ◌<◌, ◌≤◌, ◌⊎◌, Bool, true, false, List, [], ◌∷◌, ◌++◌, length, get_or, Option, Some, None, eq-eqb, refl, ap, sym, subst, ◌∙◌, inl, inr, arith, length-append, append-nil}
use Rattle.std.specs.Prelude.{All, sum_by, ◌==◌}
use Rattle.std.specs.List.{slice_get, Contains}
use Rattle.std.proofs.lemmas.Bool.{false≢true}
use Rattle.std.proofs.lemmas.List.{take_all}
use Rattle.std.proofs.lemmas.List.Elements.{All-nil, All-cons, All-weaker, All-append, All-contains, All-contains_itself, All-map, Contains-append_right}
use Rattle.std.proofs.lemmas.List.Sums.{sum_by-append, sum_by-cons, sum_by_push}
use Rattle.history_model.specs.Contents.{Content}
use Rattle.history_model.specs.declared.acts.Act.{Act}
use Rattle.history_model.specs.declared.acts.Act.TheVariants.{Undo, Redo}
use Rattle.history_model.specs.declared.histories.Record.{Record}
use Rattle.history_model.specs.declared.histories.Mark.{Mark}
use Rattle.history_model.specs.Worlds.{is_edit}
use Rattle.history_model.specs.Positions.{position_after, first_of}
use Rattle.history_model.specs.Logs.{Log, IsLegal, suits_tints, side_of_world, world_side}
use Rattle.history_model.specs.Tints.{Tints, SameTints}
use Rattle.node_words.specs.Plans.{Layout}
use Rattle.retain.specs.Retained.{AreRising, falls_out, fallen_by, unnamed_by}
use Rattle.conformance.specs.Versions.{HoldsVersion, InsertsMark}
use Rattle.script.specs.declared.commands.Command.{Command}
use Rattle.script.specs.declared.commands.Command.TheVariants.{Edit, Forget, Ask, Save, Same, Head}
use Rattle.script.specs.declared.commands.ScriptLine.{ScriptLine}
use Rattle.transcript.specs.declared.answers.Answer.{Answer}
use Rattle.transcript.specs.declared.answers.Answer.TheVariants as answers
use Rattle.transcript.specs.declared.answers.LineAnswer.{LineAnswer}
use Rattle.conformance.specs.Answers.{IsRecordOf, IsUnforgotten, IsForgotten, IsReadable, mark_of, target_at, HasReadableTarget, Answers, done, forgot, ExtendsLog}
use Rattle.conformance.specs.Shown.{Accepted, SameItems, numbered, is_done, accepted_by, forgotten_by}
use Rattle.conformance.specs.Running.{line_numbers, IsBy, IsSoFar, IsOldOrNew, LineStep, GrowsByRecord, ForgetsBy, PushesOut, pushed_by}
use Rattle.conformance.specs.Kinds.{is_resting, answer_at, IsAfter}
use Rattle.conformance.proofs.Lists.{same_nothing, same_nothings, same_of}
use Rattle.conformance.proofs.Pushed.{named_alone, none_named, one_pushed, unnamed_alone, unnamed_of}
use Rattle.conformance.proofs.OfSessions.Fallen.{any_there}

-- a history goes on from itself
pub goes_nowhere : (log : Log) → ExtendsLog log log
goes_nowhere log =
    record {
      side = refl;
      coloured = refl;
      more = [];
      records = sym
          (append-nil log.records);
      marks = All-contains_itself log.marks;
    }

-- ---- lines that change nothing

pub resting_not_done : (answer : Answer) → is_resting answer ≡ true → is_done answer ≡ false
resting_not_done answers.Done rests = absurd (false≢true rests)
resting_not_done (answers.Forgot v) rests = refl
resting_not_done (answers.Is set) rests = refl
resting_not_done (answers.Colour tint) rests = refl
resting_not_done (answers.Count k) rests = refl
resting_not_done (answers.Faces k) rests = refl
resting_not_done (answers.Extent least) rests = refl
resting_not_done (answers.Hit found) rests = refl
resting_not_done (answers.Saved k) rests = refl
resting_not_done (answers.Same is) rests = refl
resting_not_done answers.Head rests = refl
resting_not_done (answers.Full l b) rests = refl
resting_not_done (answers.NoVersion v) rests = refl
resting_not_done (answers.Forgotten v) rests = refl
resting_not_done answers.IsHead rests = refl
resting_not_done answers.NothingToUndo rests = refl
resting_not_done answers.NothingToRedo rests = refl
resting_not_done answers.LogFull rests = refl
resting_not_done (answers.Stale b) rests = refl

pub resting_accepts : (session line : ℕ) (command : Command) (n : ℕ) (answer : Answer)
    → is_done answer ≡ false → accepted_by session line command n answer ≡ []
resting_accepts session line (Edit act once) n answer other = rw other refl
resting_accepts session line (Forget v) n answer other = refl
resting_accepts session line (Ask version question) n answer other = refl
resting_accepts session line (Save version name part) n answer other = refl
resting_accepts session line (Same v w) n answer other = refl
resting_accepts session line Head n answer other = refl

pub resting_forgets : (session line n : ℕ) (answer : Answer) → is_resting answer ≡ true
    → forgotten_by session line n answer ≡ []
resting_forgets session line n answers.Done rests = refl
resting_forgets session line n (answers.Forgot v) rests = absurd (false≢true rests)
resting_forgets session line n (answers.Is set) rests = refl
resting_forgets session line n (answers.Colour tint) rests = refl
resting_forgets session line n (answers.Count k) rests = refl
resting_forgets session line n (answers.Faces k) rests = refl
resting_forgets session line n (answers.Extent least) rests = refl
resting_forgets session line n (answers.Hit found) rests = refl
resting_forgets session line n (answers.Saved k) rests = refl
resting_forgets session line n (answers.Same is) rests = refl
resting_forgets session line n answers.Head rests = refl
resting_forgets session line n (answers.Full l b) rests = refl
resting_forgets session line n (answers.NoVersion v) rests = refl
resting_forgets session line n (answers.Forgotten v) rests = refl
resting_forgets session line n answers.IsHead rests = refl
resting_forgets session line n answers.NothingToUndo rests = refl
resting_forgets session line n answers.NothingToRedo rests = refl
resting_forgets session line n answers.LogFull rests = refl
resting_forgets session line n (answers.Stale b) rests = refl

-- an accepted change is later than all before it, and forgets nothing by hand
done_is : (answer : Answer) → is_done answer ≡ true → answer ≡ answers.Done
done_is answers.Done e = refl
done_is _ e = absurd (false≢true e)

pub accepted_later : (count session line : ℕ) (command : Command) (n : ℕ) (answer : Answer)
    → (answer ≡ answers.Done → count < n)
    → All (λ c. count < c.at) (accepted_by session line command n answer)
accepted_later count session line (Edit act once) n answer later = go (is_done answer) refl
  where
    go : (b : Bool) → is_done answer ≡ b
        → All (λ c. count < c.at) (accepted_by session line (Edit act once) n answer)
    go true e = rw e (All-cons (λ (c : Accepted). count < c.at)
        (record { at = n; entry = record { session = session; line = line; act = act } }) []
        (later (done_is answer e)) (All-nil (λ c. count < c.at)))
    go false e = rw e (All-nil (λ (c : Accepted). count < c.at))
accepted_later count session line _ n answer later = All-nil (λ c. count < c.at)

pub by_hand_or_not : (session line : ℕ) (command : Command) (n : ℕ) (answer : Answer)
    → (forgotten_by session line n answer ≡ []) ⊎ (accepted_by session line command n answer ≡ [])
by_hand_or_not session line command n (answers.Forgot v) =
    inr (resting_accepts session line command n (answers.Forgot v) refl)
by_hand_or_not session line command n _ = inl refl

-- nothing is pushed out by what isn't accepted
none_pushed_by : (keep : ℕ) (marks : List Mark) (accepted : List Accepted) → accepted ≡ []
    → unnamed_by marks (pushed_by 0 keep accepted) ≡ []
none_pushed_by keep marks accepted none =
    ap (λ (cs : List Accepted). unnamed_by marks (pushed_by 0 keep cs)) none

pub resting_line : (keep : ℕ) (p : Layout) (models : List Content) (session : ℕ) (l : ScriptLine) (log : Log)
    (answer : Answer) → IsLegal (2 ^ p.side) models log → is_resting answer ≡ true
    → Answers p models log (IsUnforgotten log.marks session l.line (length log.records)) session l.line
    (length log.records) l.command answer
    → LineStep keep p models session l log log (answer_at l (length log.records) answer)
resting_line keep p models session l log answer legal rests fits = record {
  legal = legal;
  suits = λ suits. suits;
  goes_on = goes_nowhere log;
  new_marks = λ i d lt. inl (All-contains_itself log.marks i d lt);
  no_earlier = omega arith;
  later = λ e. absurd (false≢true (sym (ap is_resting e) ∙ rests));
  unseen = λ base e. absurd (false≢true (sym (ap is_resting e) ∙ rests));
  fits = record { same_line = refl; within = omega arith; answers = fits };
  records = same_nothing (numbered 1 log.records) _ accepts;
  unmarked = subst (λ (ms : List Mark). All (λ m. All (λ o. o.version ≢ m.version) log.marks) ms)
      (sym forgets) (All-nil (λ m. All (λ o. o.version ≢ m.version) log.marks));
  marks = same_nothings log.marks _ _ forgets
      (none_pushed_by keep log.marks
      (accepted_by session l.line l.command (length log.records) answer) accepts);
}
  where
    accepts : accepted_by session l.line l.command (length log.records) answer ≡ []
    accepts = resting_accepts session l.line l.command (length log.records) answer
        (resting_not_done answer rests)

    forgets : forgotten_by session l.line (length log.records) answer ≡ []
    forgets = resting_forgets session l.line (length log.records) answer rests

-- ---- an accepted change

numbered_push : (n : ℕ) (records : List Record) (r : Record)
    → numbered n (records ++ r ∷ []) ≡ numbered n records ++ record
    { at = n + length records; entry = r } ∷ []
numbered_push n [] r =
    let at : n ≡ n + 0 = omega arith in ap (λ (k : ℕ). record { at = k; entry = r } ∷ []) at
numbered_push n (s ∷ records) r =
    let at : n + 1 + length records ≡ n + length (s ∷ records) = omega arith in
    ap (λ (xs : List Accepted). record { at = n; entry = s } ∷ xs)
    (numbered_push (n + 1) records r
    ∙ ap (λ (k : ℕ). numbered (n + 1) records ++ record { at = k; entry = r } ∷ []) at)

get_last : {X : Type 0} (xs : List X) (x : X) → slice_get (xs ++ x ∷ []) (length xs) ≡ Some x
get_last [] x = refl
get_last (y ∷ xs) x = get_last xs x

record_of : ℕ → ℕ → Act → Record
record_of session line act = record { session = session; line = line; act = act }

with_record : Log → Record → Log
with_record log r =
    record { side = log.side; coloured = log.coloured; records = log.records ++ r ∷ []; marks = log.marks }

done_step : (p : Layout) (models : List Content) (session line : ℕ) (act : Act) (once : Bool)
    (log : Log) → IsLegal (2 ^ p.side) models (with_record log (record_of session line act))
    → suits_tints log.coloured act ≡ true
    → LineStep 0 p models session (record { line = line; command = Edit act once }) log
    (with_record log (record_of session line act))
    (record { line = line; at = length log.records + 1; answer = answers.Done })
unfolding with_record record_of
done_step p models session line act once log legal suits =
    let r : Record = record { session = session; line = line; act = act } in
    let longer : length (log.records ++ r ∷ []) ≡ length log.records + 1 =
    length-append log.records (r ∷ []) in
    let place : length log.records ≡ length log.records + 1 - 1 = omega arith in
    let number : 1 + length log.records ≡ length log.records + 1 = omega arith in
    record {
      legal = legal;
      suits = λ all. All-append (λ (s : Record). suits_tints log.coloured s.act ≡ true) log.records
          (r ∷ []) all
          (All-cons (λ (s : Record). suits_tints log.coloured s.act ≡ true) r [] suits
          (All-nil _));
      goes_on = record { side = refl; coloured = refl; more = r ∷ []; records = refl; marks = All-contains_itself log.marks };
      new_marks = λ i d lt. inl (All-contains_itself log.marks i d lt);
      no_earlier = omega arith;
      later = λ _. omega arith;
      unseen = λ base e. absurd (let no : ⊥ = cc in no);
      fits = record {
        same_line = refl;
        within = omega arith;
        answers = done act once
            (record {
              first = omega arith;
              is = subst
                  (λ (n : ℕ). slice_get (log.records ++ r ∷ []) n ≡ Some r) place
                  (get_last log.records r);
            });
      };
      records = same_of _ _
          (numbered_push 1 log.records r
          ∙ ap (λ (k : ℕ). numbered 1 log.records ++ record { at = k; entry = r } ∷ []) number);
      unmarked = All-nil (λ m. All (λ o. o.version ≢ m.version) log.marks);
      marks = same_nothings log.marks [] _ refl
          (none_named log.marks
          (record { at = length log.records + 1; entry = r } ∷ []));
    }

log_of : ℕ → Bool → List Record → List Mark → Log
log_of side coloured records marks =
    record { side = side; coloured = coloured; records = records; marks = marks }

grown : (p : Layout) (models : List Content) (r : Record) (old new : Log)
    → GrowsByRecord p models r old new → with_record old r ≡ new
unfolding with_record log_of
grown p models r old new g =
    ap (λ (n : ℕ). log_of n old.coloured (old.records ++ r ∷ []) old.marks) (sym g.side)
    ∙ ap (λ (c : Bool). log_of new.side c (old.records ++ r ∷ []) old.marks) (sym g.coloured)
    ∙ ap (λ (rs : List Record). log_of new.side new.coloured rs old.marks) (sym g.records)
    ∙ ap (λ (ms : List Mark). log_of new.side new.coloured new.records ms) (sym g.marks)

pub done_line : (p : Layout) (models : List Content) (session line : ℕ) (act : Act) (once : Bool)
    (old new : Log)
    → GrowsByRecord p models (record { session = session; line = line; act = act }) old new
    → LineStep 0 p models session (record { line = line; command = Edit act once }) old new
    (record { line = line; at = length old.records + 1; answer = answers.Done })
unfolding record_of
done_line p models session line act once old new g =
    let same = grown p models (record_of session line act) old new g in
    subst (λ (log : Log). LineStep 0 p models session
    (record { line = line; command = Edit act once }) old log
    (record { line = line; at = length old.records + 1; answer = answers.Done })) same
    (done_step p models session line act once old
    (subst (λ (log : Log). IsLegal (2 ^ p.side) models log) (sym same) g.legal) g.suits)

-- ---- a version is forgotten

All-old : {X : Type 0} (P : X → Type 0) (xs ys : List X) (x : X) → All P (xs ++ ys) → P x
    → All P (xs ++ x ∷ ys)
All-old P [] ys x all here = All-cons P x ys here all
All-old P (w ∷ xs) ys x all here =
    All-cons P w (xs ++ x ∷ ys) (all 0 w (omega arith))
    (All-old P xs ys x (λ k d lt. all (suc k) d (omega arith)) here)

marks_weigh : (f : Mark → ℕ) (old : List Mark) (mark : Mark) (new : List Mark)
    → InsertsMark old mark new → sum_by f new ≡ sum_by f old + f mark
marks_weigh f old mark new m =
    let a : sum_by f old ≡ sum_by f (m.before ++ m.after) = ap (sum_by f) m.was in
    let b : sum_by f new ≡ sum_by f (m.before ++ mark ∷ m.after) = ap (sum_by f) m.is in
    let c = sum_by-append f m.before m.after in
    let d = sum_by-append f m.before (mark ∷ m.after) in
    let e = sum_by-cons f mark m.after in
    omega arith

old_listed : (old : List Mark) (mark : Mark) (new : List Mark) → InsertsMark old mark new
    → All (Contains new) old
old_listed old mark new m =
    subst (λ (xs : List Mark). All (Contains new) xs) (sym m.was)
    (λ k d lt. subst (λ (xs : List Mark). Contains xs (get_or (m.before ++ m.after) k d))
    (sym m.is) (wide m.before m.after (get_or (m.before ++ m.after) k d)
    (All-contains_itself (m.before ++ m.after) k d lt)))
  where
    wide : (xs ys : List Mark) (x : Mark) → Contains (xs ++ ys) x → Contains (xs ++ mark ∷ ys) x
    wide [] ys x (k, lt, e) = (suc k, omega arith, e)
    wide (w ∷ xs) ys x (zero, lt, e) = (zero, omega arith, e)
    wide (w ∷ xs) ys x (suc k, lt, e) =
        (let c = wide xs ys x (k, omega arith, e) in let at = c.1 in (suc c.0, omega arith, c.2))

new_listed : (old : List Mark) (mark : Mark) (new : List Mark) → InsertsMark old mark new
    → Contains new mark
new_listed old mark new m =
    subst (λ (xs : List Mark). Contains xs mark) (sym m.is)
    (Contains-append_right m.before (mark ∷ m.after) mark (0, omega arith, refl))

old_or_new : (old : List Mark) (n : ℕ) (mark : Mark) (new : List Mark) → InsertsMark old mark new
    → n ≡ mark.at → All (IsOldOrNew old n mark.session mark.line) new
old_or_new old n mark new m at =
    subst (λ (xs : List Mark). All (IsOldOrNew old n mark.session mark.line) xs) (sym m.is)
    (All-old (IsOldOrNew old n mark.session mark.line) m.before m.after mark
    (subst (λ (xs : List Mark). All (IsOldOrNew old n mark.session mark.line) xs) m.was
    (λ k d lt. inl (All-contains_itself old k d lt)))
    (inr (omega arith, refl, refl)))

-- it had no mark
above : (x z : Mark) (xs : List Mark) → AreRising (x ∷ xs) → Contains xs z → x.version < z.version
above x z xs rising (k, lt, e) =
    let less : x.version < (get_or xs k z).version =
    rising 0 (suc k) z (omega arith) (omega arith) in
    subst (λ (y : Mark). x.version < y.version) e less

rises_on : (x : Mark) (xs : List Mark) → AreRising (x ∷ xs) → AreRising xs
rises_on x xs rising i j d low high = rising (suc i) (suc j) d (omega arith) (omega arith)

apart_of : (xs ys : List Mark) (m : Mark) → AreRising (xs ++ m ∷ ys)
    → All (λ o. o.version ≢ m.version) (xs ++ ys)
apart_of [] ys m rising = λ k d lt same. (
    let high : m.version < (get_or ys k d).version =
    rising 0 (suc k) d (omega arith) (omega arith) in omega (arith, high, same))
apart_of (x ∷ xs) ys m rising =
    let low : x.version < m.version =
    above x m (xs ++ m ∷ ys) rising
    (Contains-append_right xs (m ∷ ys) m (0, omega arith, refl)) in
    All-cons (λ (o : Mark). o.version ≢ m.version) x (xs ++ ys)
    (λ same. omega (arith, low, same))
    (apart_of xs ys m (rises_on x (xs ++ m ∷ ys) rising))

inserted_new : (old : List Mark) (mark : Mark) (new : List Mark) → InsertsMark old mark new
    → AreRising new → All (λ o. o.version ≢ mark.version) old
inserted_new old mark new m rising =
    subst (λ (xs : List Mark). All (λ o. o.version ≢ mark.version) xs) (sym m.was)
    (apart_of m.before m.after mark (subst (λ (xs : List Mark). AreRising xs) m.is rising))

pub forgot_line : (keep : ℕ) (p : Layout) (models : List Content) (mark : Mark) (old new : Log)
    → ForgetsBy p models mark old new
    → LineStep keep p models mark.session
    (record { line = mark.line; command = Forget mark.version }) old new
    (record { line = mark.line; at = length old.records; answer = answers.Forgot mark.version })
forgot_line keep p models mark old new e =
    let n : ℕ = length old.records in
    let same_number : length new.records ≡ n = ap length e.records in
    let same_mark : mark ≡ mark_of mark.version n mark.session mark.line =
    ap (λ (k : ℕ). mark_of mark.version k mark.session mark.line) e.now in
    record {
      legal = e.legal;
      suits = λ all. subst
          (λ (c : Bool). All (λ (r : Record). suits_tints c r.act ≡ true) new.records)
          (sym e.coloured)
          (subst (λ (rs : List Record). All
          (λ (r : Record). suits_tints old.coloured r.act ≡ true) rs)
          (sym e.records) all);
      goes_on = record {
        side = e.side;
        coloured = e.coloured;
        more = [];
        records = e.records
            ∙ sym (append-nil old.records);
        marks = old_listed old.marks mark new.marks e.marks;
      };
      new_marks = old_or_new old.marks n mark new.marks e.marks (sym e.now);
      no_earlier = omega arith;
      later = λ same. absurd (let no : ⊥ = cc in no);
      unseen = λ base same. absurd (let no : ⊥ = cc in no);
      fits = record {
        same_line = refl;
        within = omega arith;
        answers = forgot mark.version
            (subst (λ (m : Mark). Contains new.marks m) same_mark
            (new_listed old.marks mark new.marks e.marks));
      };
      records = record {
        weighs = λ f.
            (let a : sum_by f (numbered 1 new.records)
            ≡ sum_by f (numbered 1 old.records) = ap
            (λ (rs : List Record). sum_by f
            (numbered 1 rs)) e.records in let b = sum_by-append f
            (numbered 1 old.records) [] in let none : sum_by f []
            ≡ 0 = refl in omega arith);
      };
      unmarked =
          All-cons (λ (m : Mark). All (λ o. o.version ≢ m.version) old.marks)
          (mark_of mark.version n mark.session mark.line) []
          (inserted_new old.marks mark new.marks e.marks e.legal.rising)
          (All-nil (λ m. All (λ o. o.version ≢ m.version) old.marks));
      marks = record {
        weighs = λ f. (
            let a = marks_weigh f old.marks mark new.marks e.marks in
            let b = sum_by_push f old.marks (mark_of mark.version n mark.session mark.line) in
            let c =
            sum_by-append f (old.marks ++ mark_of mark.version n mark.session mark.line ∷ []) [] in
            let none : sum_by f [] ≡ 0 = refl in
            let g : f mark ≡ f (mark_of mark.version n mark.session mark.line) = ap f same_mark in
            omega arith);
      };
    }

-- ---- what a change pushes out

-- a line that accepts nothing pushes nothing out
pub other_line : (keep : ℕ) (p : Layout) (models : List Content) (session : ℕ) (l : ScriptLine)
    (old new : Log) (a : LineAnswer)
    → accepted_by session l.line l.command a.at a.answer ≡ []
    → LineStep 0 p models session l old new a → LineStep keep p models session l old new a
other_line keep p models session l old new a none step =
    let accepted : List Accepted = accepted_by session l.line l.command a.at a.answer in
    let by_hand : List Mark = forgotten_by session l.line a.at a.answer in
    record {
      legal = step.legal;
      suits = step.suits;
      goes_on = step.goes_on;
      new_marks = step.new_marks;
      no_earlier = step.no_earlier;
      later = step.later;
      unseen = step.unseen;
      fits = step.fits;
      records = step.records;
      unmarked = step.unmarked;
      marks = subst (λ (ms : List Mark). SameItems new.marks (old.marks ++ by_hand ++ ms))
          (none_pushed_by 0 old.marks accepted none
          ∙ sym (none_pushed_by keep old.marks accepted none)) step.marks;
    }

module _ (keep : ℕ) (p : Layout) (models : List Content) (session line : ℕ) (act : Act)
    (once : Bool) (old mid : Log)
    (step : LineStep 0 p models session (record { line = line; command = Edit act once }) old mid
    (record { line = line; at = length mid.records; answer = answers.Done }))
    (records : mid.records ≡ old.records ++ record { session = session; line = line; act = act } ∷ [])
    (marks : mid.marks ≡ old.marks) where
  r : Record
  r = record { session = session; line = line; act = act }

  longer : length mid.records ≡ length old.records + 1
  unfolding r
  longer = ap length records ∙ length-append old.records (r ∷ [])

  c : Accepted
  c = record { at = length mid.records; entry = r }

  none_out : unnamed_by old.marks (pushed_by 0 keep (c ∷ [])) ≡ []
      → LineStep keep p models session (record { line = line; command = Edit act once }) old mid
      (record { line = line; at = length mid.records; answer = answers.Done })
  unfolding c r
  none_out none = record {
    legal = step.legal;
    suits = step.suits;
    goes_on = step.goes_on;
    new_marks = step.new_marks;
    no_earlier = step.no_earlier;
    later = step.later;
    unseen = step.unseen;
    fits = step.fits;
    records = step.records;
    unmarked = step.unmarked;
    marks = subst (λ (ms : List Mark). SameItems ms
        (old.marks ++ [] ++ unnamed_by old.marks (pushed_by 0 keep (c ∷ []))))
        (sym marks) (same_nothings old.marks [] _ refl none);
  }

  pushed_as : (o : Option ℕ) → falls_out (length mid.records) keep ≡ o
      → pushed_by 0 keep (c ∷ []) ≡ fallen_by (length mid.records) r o
  unfolding c
  pushed_as o falls =
      one_pushed keep (record { at = length mid.records; entry = r }) o
      (let l = longer in omega (arith, l)) falls

  was_marked : (mark : Mark) → falls_out (length mid.records) keep ≡ Some mark.version
      → Contains mid.marks mark → unnamed_by old.marks (pushed_by 0 keep (c ∷ [])) ≡ []
  unfolding r
  was_marked mark falls listed =
      let m : Mark = mark_of mark.version (length mid.records) session line in
      let there : Contains old.marks mark =
      subst (λ (ms : List Mark). Contains ms mark) marks listed in
      ap (λ (ms : List Mark). unnamed_by old.marks ms) (pushed_as (Some mark.version) falls)
      ∙ named_alone old.marks m
      (any_there (λ (o : Mark). o.version == mark.version) old.marks mark there
      (eq-eqb mark.version mark.version refl))

  module _ (new : Log) (version : ℕ)
      (falls : falls_out (length mid.records) keep ≡ Some version)
      (e : ForgetsBy p models (mark_of version (length mid.records) session line) mid new) where
    mark : Mark
    mark = mark_of version (length mid.records) session line

    all_records : new.records ≡ old.records ++ r ∷ []
    unfolding r
    all_records = e.records ∙ records

    one_out : unnamed_by old.marks (pushed_by 0 keep (c ∷ [])) ≡ mark ∷ []
    unfolding mark r
    one_out =
        ap (λ (ms : List Mark). unnamed_by old.marks ms) (pushed_as (Some version) falls)
        ∙ unnamed_alone old.marks (mark_of version (length mid.records) session line)
        (unnamed_of old.marks version
        (subst (λ (ms : List Mark). All (λ o. o.version ≢ version) ms) marks
        (inserted_new mid.marks (mark_of version (length mid.records) session line) new.marks
        e.marks e.legal.rising)))

    goes : ExtendsLog old new
    goes = record {
      side = e.side ∙ step.goes_on.side;
      coloured = e.coloured ∙ step.goes_on.coloured;
      more = step.goes_on.more;
      records = e.records ∙ step.goes_on.records;
      marks = subst (λ (ms : List Mark). All (Contains new.marks) ms) marks
          (old_listed mid.marks (mark_of version (length mid.records) session line) new.marks
          e.marks);
    }

    of_line : All (IsOldOrNew old.marks (length old.records) session line) new.marks
    of_line =
        All-weaker (IsOldOrNew mid.marks (length mid.records) session line)
        (IsOldOrNew old.marks (length old.records) session line)
        (λ m which. elim which [
          | inl was ↦ inl (subst (λ (ms : List Mark). Contains ms m) marks was)
          | inr made ↦ (let l = longer in let at = made.0 in inr (omega arith, made.1, made.2))
        ]) new.marks
        (old_or_new mid.marks (length mid.records)
        (mark_of version (length mid.records) session line) new.marks e.marks refl)

    is_record : IsRecordOf new.records (length mid.records) session line act
    unfolding r
    is_record =
        let place : length old.records ≡ length mid.records - 1 = (let l = longer in omega arith) in
        record {
          first = (let l = longer in omega arith);
          is = subst (λ (rs : List Record). slice_get rs (length mid.records - 1) ≡ Some r)
              (sym all_records)
              (subst (λ (n : ℕ). slice_get (old.records ++ r ∷ []) n ≡ Some r) place
              (get_last old.records r));
        }

    sums : SameItems new.marks
        (old.marks ++ [] ++ unnamed_by old.marks (pushed_by 0 keep (c ∷ [])))
    unfolding mark
    sums =
        subst (λ (ms : List Mark). SameItems new.marks (old.marks ++ [] ++ ms)) (sym one_out)
        (record {
          weighs = λ f. (
              let m : Mark = mark_of version (length mid.records) session line in
              let a = marks_weigh f mid.marks m new.marks e.marks in
              let b : sum_by f mid.marks ≡ sum_by f old.marks = ap (sum_by f) marks in
              let d = sum_by-append f (old.marks ++ []) (m ∷ []) in
              let g = sum_by-append f old.marks [] in
              let h = sum_by-cons f m [] in
              let none : sum_by f [] ≡ 0 = refl in
              omega arith);
        })

    pub mark_out : LineStep keep p models session (record { line = line; command = Edit act once })
        old new (record { line = line; at = length mid.records; answer = answers.Done })
    unfolding c r
    mark_out = record {
      legal = e.legal;
      suits = λ all. subst
          (λ (b : Bool). All (λ (s : Record). suits_tints b s.act ≡ true) new.records)
          (sym e.coloured)
          (subst (λ (rs : List Record). All
          (λ (s : Record). suits_tints mid.coloured s.act ≡ true) rs)
          (sym e.records) (step.suits all));
      goes_on = goes;
      new_marks = of_line;
      no_earlier = step.no_earlier;
      later = step.later;
      unseen = step.unseen;
      fits = record {
        same_line = refl;
        within = (let same : length new.records ≡ length mid.records = ap length e.records in
            omega arith);
        answers = done act once is_record;
      };
      records = record {
        weighs = λ f. ap (λ (rs : List Record). sum_by f (numbered 1 rs)) e.records
            ∙ step.records.weighs f;
      };
      unmarked = step.unmarked;
      marks = sums;
    }

  pub pushes_line : (new : Log) → PushesOut keep p models session line mid new
      → LineStep keep p models session (record { line = line; command = Edit act once }) old new
      (record { line = line; at = length mid.records; answer = answers.Done })
  pushes_line new (PushesOut.none _ falls same) =
      subst (λ (log : Log). LineStep keep p models session
      (record { line = line; command = Edit act once }) old log
      (record { line = line; at = length mid.records; answer = answers.Done })) (sym same)
      (none_out (ap (λ (ms : List Mark). unnamed_by old.marks ms) (pushed_as None falls)))
  pushes_line new (PushesOut.marked _ mark falls listed same) =
      subst (λ (log : Log). LineStep keep p models session
      (record { line = line; command = Edit act once }) old log
      (record { line = line; at = length mid.records; answer = answers.Done })) (sym same)
      (none_out (was_marked mark falls listed))
  pushes_line new (PushesOut.forgot _ version falls e) = mark_out new version falls e

pub pushed_line : (keep : ℕ) (p : Layout) (models : List Content) (session line : ℕ) (act : Act)
    (once : Bool) (old mid new : Log)
    → LineStep 0 p models session (record { line = line; command = Edit act once }) old mid
    (record { line = line; at = length mid.records; answer = answers.Done })
    → mid.records ≡ old.records ++ record { session = session; line = line; act = act } ∷ []
    → mid.marks ≡ old.marks → PushesOut keep p models session line mid new
    → LineStep keep p models session (record { line = line; command = Edit act once }) old new
    (record { line = line; at = length mid.records; answer = answers.Done })
pushed_line keep p models session line act once old mid new step records marks out =
    pushes_line keep p models session line act once old mid step records marks new out

-- ---- what stands behind the answers that change nothing

-- a version that no mark forgets is readable
pub kept_readable : (log : Log) (session line v : ℕ) → HoldsVersion log v
    → IsReadable (IsUnforgotten log.marks session line (length log.records)) (length log.records) v
kept_readable log session line v kept = record {
  there = kept.there;
  stands = record {
    later = λ k d lt same. absurd (kept.unmarked k d lt same);
    own =
        λ k d lt same. absurd (kept.unmarked k d lt same);
  };
}

-- a mark of the run so far forgets its version for the next line
pub marked_forgotten : (since keep : ℕ) (p : Layout) (models : List Content)
    (scripts : List (List ScriptLine)) (transcripts : List (List LineAnswer))
    (script : List ScriptLine) (transcript : List LineAnswer)
    (l : ScriptLine) (log : Log) (mark : Mark)
    → IsSoFar since keep p models scripts transcripts script transcript log → IsAfter script l
    → Contains log.marks mark
    → IsForgotten log.marks (length scripts) l.line (length log.records) mark.version
marked_forgotten since keep p models scripts transcripts script transcript l log mark s rising listed =
    record {
      mark = mark;
      listed = listed;
      same = refl;
      by_then = (All-contains
          (λ (m : Mark). (m.version < m.at)
          × (m.at ≤ length log.records)) log.marks mark s.legal.marked listed).1;
      earlier = λ mine. elim (All-contains (IsBy (length scripts) script) log.marks mark s.by listed) [
        | inl before ↦ absurd (omega arith)
        | inr here ↦ All-contains (λ (n : ℕ). n < l.line) (line_numbers script) mark.line
            (All-map (λ (n : ℕ). n < l.line) (λ (k : ScriptLine). k.line) script rising) here.1
      ];
    }

-- the target of an undo or a redo at the length
pub target_now : (records : List Record) (act : Act) (to : Option ℕ)
    → to ≡ target_at records (length records) act → target_at records (length records) act ≡ to
target_now records act to e = sym e

pub undo_target : (records : List Record)
    → target_at records (length records) Undo ≡ first_of (position_after records).past
undo_target records =
    ap (λ (rs : List Record). first_of (position_after rs).past)
    (take_all (length records) records (omega arith))

pub redo_target : (records : List Record)
    → target_at records (length records) Redo ≡ first_of (position_after records).future
redo_target records =
    ap (λ (rs : List Record). first_of (position_after rs).future)
    (take_all (length records) records (omega arith))

-- a full history: an edit needs no target, and an undo's or redo's is kept
pub full_way : (log : Log) (session line : ℕ) (act : Act)
    →
    ((is_edit act ≡ true)
    ⊎ ((to : ℕ) × (target_at log.records (length log.records) act ≡ Some to)
    × HoldsVersion log to))
    → HasReadableTarget (IsUnforgotten log.marks session line (length log.records)) log.records
    (length log.records) act
full_way log session line act (inl edit) other = absurd (other edit)
full_way log session line act (inr way) other =
    (way.0, way.1, kept_readable log session line way.0 way.2)

-- what is told of a world of a plan's side is told of one of the history's
pub same_side : (p : Layout) (models : List Content) (log : Log) (t u : Tints)
    → IsLegal (2 ^ p.side) models log → SameTints (side_of_world log.coloured (2 ^ p.side)) t u
    → SameTints (world_side log) t u
same_side p models log t u legal same =
    subst (λ (side : ℕ). SameTints (side_of_world log.coloured side) t u) (sym legal.same_side) same
