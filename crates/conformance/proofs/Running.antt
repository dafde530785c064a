-- One more line of a run of scripts, and the next script.
use Rattle.std.proofs.Common.{◌≡◌, ◌≢◌, ℕ, ◌+◌, ◌^◌, ◌<◌, ◌≤◌, ◌⊎◌, List, [], ◌∷◌, ◌++◌, length, get_or, refl, ap, sym, subst, ◌∙◌, inl, inr, arith, length-append, append-nil, append_assoc, Bool}
use Rattle.std.specs.Prelude.{All, sum_by}
use Rattle.std.specs.List.{AllZip, Contains}
use Rattle.std.proofs.lemmas.List.{length_push}
use Rattle.std.proofs.lemmas.List.Elements.{All-nil, All-cons, All-contains, All-weaker, Contains-append_left, Contains-push}
use Rattle.std.proofs.lemmas.List.Sums.{sum_by-append}
use Rattle.history_model.specs.Contents.{Content}
use Rattle.history_model.specs.declared.histories.Mark.{Mark}
use Rattle.history_model.specs.Logs.{Log, IsLegal, SuitsTints}
use Rattle.history_model.specs.LegalLaws.{legal_empty}
use Rattle.node_words.specs.Plans.{Layout}
use Rattle.script.specs.declared.commands.ScriptLine.{ScriptLine}
use Rattle.transcript.specs.declared.answers.LineAnswer.{LineAnswer}
use Rattle.conformance.specs.Answers.{IsUnforgotten, LineFits, ExtendsLog}
use Rattle.conformance.specs.Shown.{Accepted, SameItems, numbered, accepted_by, forgotten_by, accepted_in, forgotten_in, accepted_of, forgotten_of}
use Rattle.conformance.specs.Agreeing.{InOrder, SessionAgrees, SessionsAgree, AgreesKeeping}
use Rattle.conformance.specs.Running.{line_numbers, IsBy, IsSoFar, LineStep, with_pushed}
use Rattle.conformance.proofs.GoingOn.{answers_stay}
use Rattle.conformance.proofs.Lists.{zip_push, zip_map, pairs_nil, pairs_push, same_more, same_joined, same_itself}
use Rattle.conformance.proofs.Pushed.{all_low, marks_step, none_pushed, pushes_from_here, with_all}
use Rattle.conformance.proofs.LineKinds.{accepted_later, by_hand_or_not}

pub lines_push : (script : List ScriptLine) (l : ScriptLine)
    → line_numbers (script ++ l ∷ []) ≡ line_numbers script ++ l.line ∷ []
lines_push [] l = refl
lines_push (k ∷ script) l = ap (λ (ns : List ℕ). k.line ∷ ns) (lines_push script l)

-- all moments are within the history
pub moments_within : (p : Layout) (models : List Content) (log : Log) (session : ℕ)
    (script : List ScriptLine) (transcript : List LineAnswer)
    → AllZip (LineFits p models log session) script transcript
    → All (λ a. a.at ≤ length log.records) transcript
moments_within p models log session [] [] all = All-nil _
moments_within p models log session [] (a ∷ transcript) all = absurd all
moments_within p models log session (l ∷ script) [] all = absurd all
moments_within p models log session (l ∷ script) (a ∷ transcript) all =
    All-cons (λ b. b.at ≤ length log.records) a transcript all.0.within
    (moments_within p models log session script transcript all.1)

-- what one more line adds to what a session shows
pub accepted_push : (R : ScriptLine → LineAnswer → Type 0) (f : Accepted → ℕ) (session : ℕ)
    (script : List ScriptLine) (transcript : List LineAnswer) (l : ScriptLine) (a : LineAnswer)
    → AllZip R script transcript
    → sum_by f (accepted_in session (script ++ l ∷ []) (transcript ++ a ∷ [])) ≡ sum_by f
    (accepted_in session script transcript) + sum_by f
    (accepted_by session l.line l.command a.at a.answer)
accepted_push R f session [] [] l a all =
    let both = sum_by-append f (accepted_by session l.line l.command a.at a.answer) [] in
    let none : sum_by f [] ≡ 0 = refl in
    omega arith
accepted_push R f session [] (b ∷ transcript) l a all = absurd all
accepted_push R f session (k ∷ script) [] l a all = absurd all
accepted_push R f session (k ∷ script) (b ∷ transcript) l a all =
    let rest = accepted_push R f session script transcript l a all.1 in
    let one =
    sum_by-append f (accepted_by session k.line k.command b.at b.answer)
    (accepted_in session (script ++ l ∷ []) (transcript ++ a ∷ [])) in
    let two =
    sum_by-append f (accepted_by session k.line k.command b.at b.answer)
    (accepted_in session script transcript) in
    omega arith

pub forgotten_push : (R : ScriptLine → LineAnswer → Type 0) (f : Mark → ℕ) (session : ℕ)
    (script : List ScriptLine) (transcript : List LineAnswer) (l : ScriptLine) (a : LineAnswer)
    → AllZip R script transcript
    → sum_by f (forgotten_in session (script ++ l ∷ []) (transcript ++ a ∷ [])) ≡ sum_by f
    (forgotten_in session script transcript) + sum_by f
    (forgotten_by session l.line a.at a.answer)
forgotten_push R f session [] [] l a all =
    let both = sum_by-append f (forgotten_by session l.line a.at a.answer) [] in
    let none : sum_by f [] ≡ 0 = refl in
    omega arith
forgotten_push R f session [] (b ∷ transcript) l a all = absurd all
forgotten_push R f session (k ∷ script) [] l a all = absurd all
forgotten_push R f session (k ∷ script) (b ∷ transcript) l a all =
    let rest = forgotten_push R f session script transcript l a all.1 in
    let one =
    sum_by-append f (forgotten_by session k.line b.at b.answer)
    (forgotten_in session (script ++ l ∷ []) (transcript ++ a ∷ [])) in
    let two =
    sum_by-append f (forgotten_by session k.line b.at b.answer)
    (forgotten_in session script transcript) in
    omega arith

-- the forgettings themselves, in order
forgotten_more : (R : ScriptLine → LineAnswer → Type 0) (session : ℕ)
    (script : List ScriptLine) (transcript : List LineAnswer) (l : ScriptLine) (a : LineAnswer)
    → AllZip R script transcript
    → forgotten_in session (script ++ l ∷ []) (transcript ++ a ∷ [])
    ≡ forgotten_in session script transcript ++ forgotten_by session l.line a.at a.answer
forgotten_more R session [] [] l a all = append-nil (forgotten_by session l.line a.at a.answer)
forgotten_more R session [] (b ∷ transcript) l a all = absurd all
forgotten_more R session (k ∷ script) [] l a all = absurd all
forgotten_more R session (k ∷ script) (b ∷ transcript) l a all =
    ap (λ (ms : List Mark). forgotten_by session k.line b.at b.answer ++ ms)
    (forgotten_more R session script transcript l a all.1)
    ∙ sym (append_assoc (forgotten_by session k.line b.at b.answer)
    (forgotten_in session script transcript) (forgotten_by session l.line a.at a.answer))

-- and one more session to what all show
accepted_next : (p : Layout) (models : List Content) (log : Log) (f : Accepted → ℕ) (session : ℕ)
    (scripts : List (List ScriptLine)) (transcripts : List (List LineAnswer))
    (script : List ScriptLine) (transcript : List LineAnswer)
    → SessionsAgree p models log session scripts transcripts → (k : ℕ)
    → k ≡ session + length scripts
    → sum_by f
    (accepted_of session (scripts ++ script ∷ []) (transcripts ++ transcript ∷ [])) ≡ sum_by f
    (accepted_of session scripts transcripts) + sum_by f (accepted_in k script transcript)
accepted_next p models log f session [] [] script transcript all k number =
    let both = sum_by-append f (accepted_in session script transcript) [] in
    let none : sum_by f [] ≡ 0 = refl in
    let at : session ≡ k = omega arith in
    let same : sum_by f (accepted_in session script transcript) ≡ sum_by f (accepted_in k script transcript) = ap (λ (j : ℕ). sum_by f (accepted_in j script transcript)) at in
    omega arith
accepted_next p models log f session [] (t ∷ transcripts) script transcript all k number =
    absurd all
accepted_next p models log f session (s ∷ scripts) [] script transcript all k number = absurd all
accepted_next p models log f session (s ∷ scripts)
    (t ∷ transcripts) script transcript all k number =
    let rest =
    accepted_next p models log f (session + 1) scripts transcripts script transcript all.1 k
    (omega arith) in
    let one =
    sum_by-append f (accepted_in session s t)
    (accepted_of (session + 1) (scripts ++ script ∷ []) (transcripts ++ transcript ∷ [])) in
    let two =
    sum_by-append f (accepted_in session s t) (accepted_of (session + 1) scripts transcripts) in
    omega arith

forgotten_next : (p : Layout) (models : List Content) (log : Log) (session : ℕ)
    (scripts : List (List ScriptLine)) (transcripts : List (List LineAnswer))
    (script : List ScriptLine) (transcript : List LineAnswer)
    → SessionsAgree p models log session scripts transcripts → (k : ℕ)
    → k ≡ session + length scripts
    → forgotten_of session (scripts ++ script ∷ []) (transcripts ++ transcript ∷ [])
    ≡ forgotten_of session scripts transcripts ++ forgotten_in k script transcript
forgotten_next p models log session [] [] script transcript all k number =
    let at : session ≡ k = omega arith in
    append-nil (forgotten_in session script transcript)
    ∙ ap (λ (j : ℕ). forgotten_in j script transcript) at
forgotten_next p models log session [] (t ∷ transcripts) script transcript all k number =
    absurd all
forgotten_next p models log session (s ∷ scripts) [] script transcript all k number = absurd all
forgotten_next p models log session (s ∷ scripts)
    (t ∷ transcripts) script transcript all k number =
    ap (λ (ms : List Mark). forgotten_in session s t ++ ms)
    (forgotten_next p models log (session + 1) scripts transcripts script transcript all.1 k
    (omega arith))
    ∙ sym (append_assoc (forgotten_in session s t)
    (forgotten_of (session + 1) scripts transcripts) (forgotten_in k script transcript))

module _ (keep : ℕ) (p : Layout) (models : List Content) (session : ℕ) (l : ScriptLine) (old new : Log)
    (a : LineAnswer) (step : LineStep keep p models session l old new a) where
  -- a version that stands for another session's line, or an earlier one of this session, goes on to
  -- stand
  standing_stays : (other line n v : ℕ) → n ≤ length old.records
      → (other ≢ session) ⊎ (line ≤ l.line) → IsUnforgotten old.marks other line n v
      → IsUnforgotten new.marks other line n v
  standing_stays other line n v within apart s = record {
    later = λ i d lt same. elim (step.new_marks i d lt) [
      | inl was ↦ All-contains (λ (m : Mark). m.version ≡ v → n ≤ m.at) old.marks
          (get_or new.marks i d) s.later was same
      | inr made ↦ (let at = made.0 in omega arith)
    ];
    own = λ i d lt same mine. elim (step.new_marks i d lt) [
      | inl was ↦ All-contains
          (λ (m : Mark). m.version ≡ v → m.session ≡ other → line ≤ m.line) old.marks
          (get_or new.marks i d) s.own was same mine
      | inr made ↦ elim apart [
        | inl not_this ↦ absurd (not_this (sym mine ∙ made.1))
        | inr low ↦ (let at = made.2 in omega arith)
      ]
    ];
  }

  line_stays : (other : ℕ) (k : ScriptLine) (b : LineAnswer) → (other ≢ session) ⊎ (k.line ≤ l.line)
      → LineFits p models old other k b → LineFits p models new other k b
  line_stays other k b apart fits =
      let within = fits.within in
      let g : ExtendsLog old new = step.goes_on in
      let more : length new.records ≡ length (old.records ++ g.more) = ap length g.records in
      let both = length_both old g.more in
      record {
        same_line = fits.same_line;
        within = omega arith;
        answers =
            answers_stay old new g b.at fits.within (IsUnforgotten old.marks other k.line b.at)
            (IsUnforgotten new.marks other k.line b.at)
            (λ v le s. standing_stays other k.line b.at v fits.within apart s) p models other k.line k.command b.answer fits.answers;
      }
    where
      length_both : (log : Log) (more : List _)
          → length (log.records ++ more) ≡ length log.records + length more
      length_both log more = length-append log.records more

  session_stays : (other : ℕ) (script : List ScriptLine) (transcript : List LineAnswer)
      → other ≢ session → SessionAgrees p models old other script transcript
      → SessionAgrees p models new other script transcript
  session_stays other script transcript apart s = record {
    lines = zip_map (LineFits p models old other) (LineFits p models new other)
        (λ _. Unit {0}) script transcript (λ i d lt. tt)
        (λ k b _ fits. line_stays other k b (inl apart) fits) s.lines;
    moments = s.moments;
  }

  sessions_stay : (first : ℕ) (scripts : List (List ScriptLine))
      (transcripts : List (List LineAnswer)) → first + length scripts ≤ session
      → SessionsAgree p models old first scripts transcripts
      → SessionsAgree p models new first scripts transcripts
  sessions_stay first [] [] le all = all
  sessions_stay first [] (t ∷ transcripts) le all = absurd all
  sessions_stay first (s ∷ scripts) [] le all = absurd all
  sessions_stay first (s ∷ scripts) (t ∷ transcripts) le all = (
    session_stays first s t (λ e. omega arith) all.0,
    sessions_stay
        (first + 1) scripts transcripts (omega arith) all.1,
  )

-- the loop goes on: one more line
pub next_line : (since keep : ℕ) (p : Layout) (models : List Content)
    (scripts : List (List ScriptLine)) (transcripts : List (List LineAnswer))
    (script : List ScriptLine) (transcript : List LineAnswer)
    (l : ScriptLine) (old new : Log) (a : LineAnswer)
    → IsSoFar since keep p models scripts transcripts script transcript old
    → since ≤ length old.records → All (λ k. k.line < l.line) script
    → LineStep keep p models (length scripts) l old new a
    → IsSoFar since keep p models scripts transcripts (script ++ l ∷ []) (transcript ++ a ∷ []) new
next_line since keep p models scripts transcripts script transcript l old new a s behind rising step =
    let session : ℕ = length scripts in
    let within = moments_within p models old session script transcript s.lines in
    record {
      legal = step.legal;
      suits = step.suits s.suits;
      before = sessions_stay keep p models session l old new a step 0 scripts transcripts
          (omega arith) s.before;
      lines =
          zip_push (LineFits p models new session) script transcript l a
          (zip_map (LineFits p models old session) (LineFits p models new session)
          (λ k. k.line < l.line) script transcript rising
          (λ k b lt fits. line_stays keep p models session l old new a step session k b
          (inr (omega arith)) fits) s.lines)
          step.fits;
      moments =
          pairs_push InOrder transcript a s.moments
          (All-weaker (λ b. b.at ≤ length old.records) (λ b. InOrder b a) (λ b le. (
          let low = step.no_earlier in
          record {
            no_earlier = omega arith;
            later = λ e.
                (let so = step.later e in omega arith);
            unseen = λ base e.
                (let so = step.unseen base e in omega arith);
          })) transcript within);
      records = same_more (numbered 1 old.records) (numbered 1 new.records)
          (accepted_of 0 scripts transcripts)
          (accepted_in session script transcript) _ _ step.records s.records
          (λ f. accepted_push
          (LineFits p models old session) f session script transcript l a s.lines);
      marks =
          subst (λ (hand : List Mark). SameItems new.marks
          (with_pushed since keep (numbered 1 new.records) hand)) (sym hand_more)
          (marks_step since keep (length old.records) old.marks new.marks
          (forgotten_of 0 scripts transcripts ++ forgotten_in session script transcript)
          (forgotten_by session l.line a.at a.answer)
          (numbered 1 old.records) (numbered 1 new.records)
          (accepted_by session l.line l.command a.at a.answer)
          s.marks step.marks step.records step.unmarked (all_low old.records)
          (accepted_later (length old.records) session l.line l.command a.at a.answer step.later)
          behind (by_hand_or_not session l.line l.command a.at a.answer));
      by = λ i d lt. elim (step.new_marks i d lt) [
        | inl was ↦ wider (get_or new.marks i d)
            (All-contains (IsBy session script) old.marks (get_or new.marks i d) s.by was)
        | inr made ↦ inr (
          made.1,
          subst (λ (n : ℕ). Contains (line_numbers (script ++ l ∷ [])) n) (sym made.2)
              (subst (λ (ns : List ℕ). Contains ns l.line) (sym (lines_push script l))
              (Contains-push (line_numbers script) l.line)),
        )
      ];
    }
  where
    hand_more : forgotten_of 0 scripts transcripts
        ++ forgotten_in (length scripts) (script ++ l ∷ []) (transcript ++ a ∷ [])
        ≡ (forgotten_of 0 scripts transcripts ++ forgotten_in (length scripts) script transcript)
        ++ forgotten_by (length scripts) l.line a.at a.answer
    hand_more =
        ap (λ (ms : List Mark). forgotten_of 0 scripts transcripts ++ ms)
        (forgotten_more (LineFits p models old (length scripts)) (length scripts) script transcript
        l a s.lines)
        ∙ sym (append_assoc (forgotten_of 0 scripts transcripts)
        (forgotten_in (length scripts) script transcript)
        (forgotten_by (length scripts) l.line a.at a.answer))

    wider : (m : Mark) → IsBy (length scripts) script m → IsBy (length scripts) (script ++ l ∷ []) m
    wider m (inl e) = inl e
    wider m (inr e) = inr (
      e.0,
      subst (λ (ns : List ℕ). Contains ns m.line) (sym (lines_push script l))
          (Contains-append_left (line_numbers script) (l.line ∷ []) m.line e.1),
    )

sessions_push : (p : Layout) (models : List Content) (log : Log) (session : ℕ)
    (scripts : List (List ScriptLine)) (transcripts : List (List LineAnswer))
    (script : List ScriptLine) (transcript : List LineAnswer)
    → SessionsAgree p models log session scripts transcripts → (k : ℕ)
    → k ≡ session + length scripts → SessionAgrees p models log k script transcript
    → SessionsAgree p models log session (scripts ++ script ∷ []) (transcripts ++ transcript ∷ [])
sessions_push p models log session [] [] script transcript all k number one =
    (let at : k ≡ session = omega arith in
    (subst (λ (j : ℕ). SessionAgrees p models log j script transcript) at one, tt))
sessions_push p models log session [] (t ∷ transcripts) script transcript all k number one =
    absurd all
sessions_push p models log session (s ∷ scripts) [] script transcript all k number one = absurd all
sessions_push p models log session (s ∷ scripts)
    (t ∷ transcripts) script transcript all k number one = (
      all.0,
      sessions_push p models log (session + 1) scripts transcripts script transcript all.1 k
          (omega arith) one,
    )

-- the next script begins
pub next_script : (since keep : ℕ) (p : Layout) (models : List Content)
    (scripts : List (List ScriptLine)) (transcripts : List (List LineAnswer))
    (script : List ScriptLine) (transcript : List LineAnswer) (log : Log)
    → IsSoFar since keep p models scripts transcripts script transcript log
    → IsSoFar since keep p models (scripts ++ script ∷ []) (transcripts ++ transcript ∷ []) [] []
    log
next_script since keep p models scripts transcripts script transcript log s =
    let longer : length (scripts ++ script ∷ []) ≡ length scripts + 1 =
    length_push scripts script in
    record {
      legal = s.legal;
      suits = s.suits;
      before = sessions_push p models log 0 scripts transcripts script transcript s.before
          (length scripts) (omega arith) (record { lines = s.lines; moments = s.moments });
      lines = tt;
      moments = pairs_nil InOrder;
      records = same_joined (numbered 1 log.records) (accepted_of 0 scripts transcripts)
          (accepted_in (length scripts) script transcript) _ s.records
          (λ f. accepted_next p models log f 0 scripts transcripts script transcript s.before
          (length scripts) (omega arith));
      marks =
          subst (λ (hand : List Mark). SameItems log.marks
          (with_pushed since keep (numbered 1 log.records) hand)) (sym hand_joined) s.marks;
      by = λ i d lt. elim
          (s.by i d lt) [
            | inl low ↦ inl (omega arith)
            | inr here ↦
                (let e = here.0 in inl (omega arith))
          ];
    }
  where
    hand_joined : forgotten_of 0 (scripts ++ script ∷ []) (transcripts ++ transcript ∷ []) ++ []
        ≡ forgotten_of 0 scripts transcripts ++ forgotten_in (length scripts) script transcript
    hand_joined =
        append-nil (forgotten_of 0 (scripts ++ script ∷ []) (transcripts ++ transcript ∷ []))
        ∙ forgotten_next p models log 0 scripts transcripts script transcript s.before
        (length scripts) (omega arith)

-- before the first line, and after the last
legal_none : (p : Layout) (models : List Content) (coloured : Bool)
    → IsLegal (2 ^ p.side) models
    (record { side = p.side; coloured = coloured; records = []; marks = [] })
legal_none p models coloured =
    (let l = legal_empty (2 ^ p.side) models p.side refl in
    record { same_side = refl; few = l.few; fit = l.fit; follow = l.follow; rising = l.rising; marked = l.marked })

pub no_lines : (since keep : ℕ) (p : Layout) (models : List Content) (coloured : Bool)
    → IsSoFar since keep p models [] [] [] []
    (record { side = p.side; coloured = coloured; records = []; marks = [] })
no_lines since keep p models coloured = record {
  legal = legal_none p models coloured;
  suits = All-nil _;
  before = tt;
  lines = tt;
  moments = pairs_nil InOrder;
  records = same_itself [];
  marks = same_itself [];
  by = All-nil (IsBy 0 []);
}

pub all_lines : (keep : ℕ) (p : Layout) (models : List Content)
    (scripts : List (List ScriptLine)) (transcripts : List (List LineAnswer)) (log : Log)
    → IsSoFar 0 keep p models scripts transcripts [] [] log
    → IsLegal (2 ^ p.side) models log × SuitsTints log
    × AgreesKeeping keep p models log scripts transcripts
all_lines keep p models scripts transcripts log s = (
  s.legal,
  s.suits,
  record {
    sessions = s.before;
    shown = record {
      records = record { weighs = λ f. s.records.weighs f ∙ end f };
      marks =
          subst (λ (ms : List Mark). SameItems log.marks ms)
          (with_all keep log.records (forgotten_of 0 scripts transcripts))
          (subst (λ (hand : List Mark). SameItems log.marks
          (with_pushed 0 keep (numbered 1 log.records) hand))
          (append-nil (forgotten_of 0 scripts transcripts)) s.marks);
      rising = s.legal.rising;
    };
  },
)
  where
    end : (f : Accepted → ℕ)
        → sum_by f (accepted_of 0 scripts transcripts ++ []) ≡ sum_by f
        (accepted_of 0 scripts transcripts)
    end f = (let both = sum_by-append f
        (accepted_of 0 scripts transcripts) [] in let none : sum_by f [] ≡ 0 = refl in omega arith)

-- a run that held all versions holds the last ones alone from here on
pub holds_last : (since keep : ℕ) (p : Layout) (models : List Content)
    (scripts : List (List ScriptLine)) (transcripts : List (List LineAnswer))
    (script : List ScriptLine) (transcript : List LineAnswer) (log : Log)
    → IsSoFar since 0 p models scripts transcripts script transcript log
    → IsSoFar (length log.records) keep p models scripts transcripts script transcript log
holds_last since keep p models scripts transcripts script transcript log s =
    let hand : List Mark =
    forgotten_of 0 scripts transcripts ++ forgotten_in (length scripts) script transcript in
    record {
      legal = s.legal;
      suits = s.suits;
      before = s.before;
      lines = s.lines;
      moments = s.moments;
      records = s.records;
      marks =
          subst (λ (ms : List Mark). SameItems log.marks ms)
          (none_pushed since (numbered 1 log.records) hand
          ∙ sym (pushes_from_here keep log.records hand)) s.marks;
      by = s.by;
    }
