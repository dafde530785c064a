-- What each session shows is what all show together.
use Rattle.std.proofs.Common.{◌≡◌, ℕ, ◌+◌, ◌<◌, ◌≤◌, ◌==◌, Bool, true, false, List, [], ◌∷◌, length, refl, sym, ◌∙◌, ap, subst, arith, inl, inr, leb, eq-eqb}
use Rattle.std.specs.Prelude.{All, sum_by, if◌then◌else◌}
use Rattle.std.specs.List.{filter, slice_index_or}
use Rattle.std.proofs.lemmas.List.Elements.{All-nil, All-cons, All-append, All-head, All-tail}
use Rattle.std.proofs.lemmas.List.Sums.{sum_by-append, sum_by-cons}
use Rattle.std.proofs.lemmas.Bool.{cases_lt, cases_eq, le-leb, lt-leb, eqb-true}
use Rattle.script.specs.declared.commands.ScriptLine.{ScriptLine}
use Rattle.transcript.specs.declared.answers.LineAnswer.{LineAnswer}
use Rattle.history_model.specs.declared.histories.Mark.{Mark}
use Rattle.script.specs.declared.commands.Command.{Command}
use Rattle.script.specs.declared.commands.Command.TheVariants.{Edit, Forget, Ask, Save, Same, Head}
use Rattle.transcript.specs.declared.answers.Answer.{Answer}
use Rattle.transcript.specs.declared.answers.Answer.TheVariants as answers
use Rattle.conformance.specs.Shown.{Accepted, SameItems, of_sessions, is_done, accepted_by, forgotten_by, accepted_in, forgotten_in}
use Rattle.conformance.specs.Passes.{ArePartly}

where_true : Bool → ℕ → ℕ
where_true true n = n
where_true false n = 0

sum_add : {X : Type 0} (f g h : X → ℕ) (xs : List X) → ((x : X) → f x ≡ g x + h x)
    → sum_by f xs ≡ sum_by g xs + sum_by h xs
sum_add f g h [] each = refl
sum_add f g h (x ∷ xs) each =
    let a = sum_by-cons f x xs in
    let b = sum_by-cons g x xs in
    let c = sum_by-cons h x xs in
    let d = each x in
    let e = sum_add f g h xs each in
    omega arith

sum_same : {X : Type 0} (f g : X → ℕ) (xs : List X) → All (λ x. f x ≡ g x) xs
    → sum_by f xs ≡ sum_by g xs
sum_same f g [] each = refl
sum_same f g (x ∷ xs) each =
    let a = sum_by-cons f x xs in
    let b = sum_by-cons g x xs in
    let d : f x ≡ g x = All-head (λ y. f y ≡ g y) x xs each in
    let e = sum_same f g xs (All-tail (λ y. f y ≡ g y) x xs each) in
    omega arith

-- the weight of what passes a test
sum_filter : {X : Type 0} (f : X → ℕ) (test : X → Bool) (xs : List X)
    → sum_by f (filter test xs) ≡ sum_by (λ x. where_true (test x) (f x)) xs
unfolding where_true
sum_filter f test [] = refl
sum_filter {X} f test (x ∷ xs) = go (test x) refl (sum_filter f test xs)
  where
    go : (b : Bool) → test x ≡ b
        → sum_by f (filter test xs) ≡ sum_by (λ y. where_true (test y) (f y)) xs
        → sum_by f (filter test (x ∷ xs)) ≡ sum_by (λ y. where_true (test y) (f y)) (x ∷ xs)
    go true e r =
        let h : filter test (x ∷ xs) ≡ x ∷ filter test xs = rw e refl in
        let a : sum_by f (filter test (x ∷ xs)) ≡ sum_by f (x ∷ filter test xs) = ap (sum_by f) h in
        let b = sum_by-cons f x (filter test xs) in
        let c = sum_by-cons (λ y. where_true (test y) (f y)) x xs in
        let d : where_true (test x) (f x) ≡ f x = ap (λ (t : Bool). where_true t (f x)) e in
        omega arith
    go false e r =
        let h : filter test (x ∷ xs) ≡ filter test xs = rw e refl in
        let a : sum_by f (filter test (x ∷ xs)) ≡ sum_by f (filter test xs) = ap (sum_by f) h in
        let c = sum_by-cons (λ y. where_true (test y) (f y)) x xs in
        let d : where_true (test x) (f x) ≡ 0 = ap (λ (t : Bool). where_true t (f x)) e in
        omega arith

bool_false : (b : Bool) → (b ≡ true → ⊥) → b ≡ false
bool_false true h = absurd (h refl)
bool_false false h = refl

at_true : (b : Bool) (n : ℕ) → b ≡ true → where_true b n ≡ n
unfolding where_true
at_true b n e = ap (λ (t : Bool). where_true t n) e

at_false : (b : Bool) (n : ℕ) → b ≡ false → where_true b n ≡ 0
unfolding where_true
at_false b n e = ap (λ (t : Bool). where_true t n) e

-- from a session on: it, or from the next one on
split_at : (first n v : ℕ)
    → where_true (leb first n) v ≡ where_true (n == first) v + where_true (leb (first + 1) n) v
split_at first n v = elim (cases_lt n first) [
  | inl low ↦
      (let a = at_false (leb first n) v (lt-leb first n low) in
      let b =
      at_false (n == first) v
      (bool_false (n == first)
      (λ e. (let same : n ≡ first = eqb-true n first e in omega arith))) in
      let c = at_false (leb (first + 1) n) v (lt-leb (first + 1) n (omega arith)) in
      omega arith)
  | inr high ↦ elim (cases_eq n first) [
    | inl same ↦
        (let a = at_true (leb first n) v (le-leb first n high) in
        let b = at_true (n == first) v (eq-eqb n first same) in
        let c = at_false (leb (first + 1) n) v (lt-leb (first + 1) n (omega arith)) in
        omega arith)
    | inr other ↦
        (let a = at_true (leb first n) v (le-leb first n high) in
        let b =
        at_false (n == first) v (bool_false (n == first) (λ e. other (eqb-true n first e))) in
        let c = at_true (leb (first + 1) n) v (le-leb (first + 1) n (omega arith)) in
        omega arith)
  ]
]

sum_zeros : {X : Type 0} (xs : List X) → sum_by (λ (x : X). 0) xs ≡ 0
sum_zeros [] = refl
sum_zeros {X} (x ∷ xs) =
    (let a = sum_by-cons (λ (y : X). 0) x xs in let b = sum_zeros xs in omega arith)

module _ {X : Type 0} (session_of : X → ℕ) (of : ℕ → List ScriptLine → List LineAnswer → List X)
    (items : List X) where
  parts_from : (f : X → ℕ) (first : ℕ) (scripts : List (List ScriptLine))
      (transcripts : List (List LineAnswer))
      → ArePartly session_of of items first scripts transcripts
      → sum_by (λ x. where_true (leb first (session_of x)) (f x)) items ≡ sum_by f
      (of_sessions of first scripts transcripts) + sum_by
      (λ x. where_true (leb (first + length scripts) (session_of x)) (f x)) items
  parts_from f first [] [] parts = (
      let none : sum_by f [] ≡ 0 = refl in
      let same : sum_by (λ x. where_true (leb first (session_of x)) (f x)) items ≡ sum_by (λ x. where_true (leb (first + 0) (session_of x)) (f x)) items =
      ap (λ (k : ℕ). sum_by (λ x. where_true (leb k (session_of x)) (f x)) items)
      (let at : first ≡ first + 0 = omega arith in at) in
      omega arith)
  parts_from f first [] (t ∷ transcripts) parts = absurd parts
  parts_from f first (s ∷ scripts) [] parts = absurd parts
  parts_from f first (s ∷ scripts) (t ∷ transcripts) parts =
      let two =
      sum_add (λ x. where_true (leb first (session_of x)) (f x))
      (λ x. where_true (session_of x == first) (f x))
      (λ x. where_true (leb (first + 1) (session_of x)) (f x)) items
      (λ x. split_at first (session_of x) (f x)) in
      let own = sum_filter f (λ x. session_of x == first) items in
      let here = parts.0.weighs f in
      let rest = parts_from f (first + 1) scripts transcripts parts.1 in
      let both = sum_by-append f (of first s t) (of_sessions of (first + 1) scripts transcripts) in
      let same : sum_by (λ x. where_true (leb (first + 1 + length scripts) (session_of x)) (f x)) items ≡ sum_by (λ x. where_true (leb (first + length (s ∷ scripts)) (session_of x)) (f x)) items =
      ap (λ (k : ℕ). sum_by (λ x. where_true (leb k (session_of x)) (f x)) items)
      (let at : first + 1 + length scripts
      ≡ first + length (s ∷ scripts) = omega arith in at) in
      omega arith

  -- where each session has its own items, and there are no others, these are all
  pub parts_are_all : (scripts : List (List ScriptLine)) (transcripts : List (List LineAnswer))
      → All (λ x. session_of x < length scripts) items
      → ArePartly session_of of items 0 scripts transcripts
      → SameItems items (of_sessions of 0 scripts transcripts)
  parts_are_all scripts transcripts below parts = record {
    weighs = λ f. (
        let all = parts_from f 0 scripts transcripts parts in
        let first : sum_by f items ≡ sum_by (λ x. where_true (leb 0 (session_of x)) (f x)) items =
        sum_same f _ items
        (λ k d lt. sym
        (at_true (leb 0 (session_of (slice_index_or items k d)))
        (f (slice_index_or items k d)) (le-leb 0 _ (omega arith)))) in
        let last : sum_by (λ x. where_true (leb (0 + length scripts) (session_of x)) (f x)) items ≡ sum_by (λ (x : X). 0) items =
        sum_same _ (λ (x : X). 0) items
        (λ k d lt. at_false (leb (0 + length scripts) (session_of (slice_index_or items k d)))
        (f (slice_index_or items k d))
        (lt-leb _ _ (let low = below k d lt in omega arith))) in
        let zeros = sum_zeros items in
        omega arith);
  }

-- the other way: what all show is, session by session, what each one shows
module _ {X : Type 0} (session_of : X → ℕ) (of : ℕ → List ScriptLine → List LineAnswer → List X)
    (each : (session : ℕ) (script : List ScriptLine) (transcript : List LineAnswer)
    → All (λ x. session_of x ≡ session) (of session script transcript)) where
  -- the items of one session, as a weight
  only : (X → ℕ) → ℕ → X → ℕ
  only f session x = where_true (session_of x == session) (f x)

  own_weighs : (f : X → ℕ) (session : ℕ) (script : List ScriptLine) (transcript : List LineAnswer)
      → sum_by (only f session) (of session script transcript) ≡ sum_by f
      (of session script transcript)
  unfolding only
  own_weighs f session script transcript = sum_same
      (λ x. where_true (session_of x == session) (f x)) f (of session script transcript)
      (λ k d lt. at_true _ _ (eq-eqb _ session (each session script transcript k d lt)))

  others_weigh_nothing : (f : X → ℕ) (session first : ℕ) (scripts : List (List ScriptLine))
      (transcripts : List (List LineAnswer)) → session < first
      → sum_by (only f session) (of_sessions of first scripts transcripts) ≡ 0
  unfolding only
  others_weigh_nothing f session first [] transcripts low = refl
  others_weigh_nothing f session first (s ∷ scripts) [] low = refl
  others_weigh_nothing f session first (s ∷ scripts) (t ∷ transcripts) low =
      let both =
      sum_by-append (λ x. where_true (session_of x == session) (f x)) (of first s t)
      (of_sessions of (first + 1) scripts transcripts) in
      let here : sum_by (λ x. where_true (session_of x == session) (f x)) (of first s t) ≡ sum_by (λ (x : X). 0) (of first s t) =
      sum_same _ (λ (x : X). 0) (of first s t)
      (λ k d lt. at_false _ _
      (bool_false _
      (λ e. (let mine = each first s t k d lt in let not_mine = eqb-true _ session e in omega arith)))) in
      let none = sum_zeros (of first s t) in
      let rest = others_weigh_nothing f session (first + 1) scripts transcripts (omega arith) in
      omega arith

  parts_of : (items : List X) (first : ℕ) (scripts : List (List ScriptLine))
      (transcripts : List (List LineAnswer)) → length scripts ≡ length transcripts
      → ((f : X → ℕ) (session : ℕ) → first ≤ session → sum_by (only f session) items
      ≡ sum_by (only f session) (of_sessions of first scripts transcripts))
      → ArePartly session_of of items first scripts transcripts
  unfolding only
  parts_of items first [] [] same weighs = tt
  parts_of items first [] (t ∷ transcripts) same weighs = absurd (omega arith)
  parts_of items first (s ∷ scripts) [] same weighs = absurd (omega arith)
  parts_of items first (s ∷ scripts) (t ∷ transcripts) same weighs = (
    record {
      weighs = λ f. (
          let a = sum_filter f (λ x. session_of x == first) items in
          let b = weighs f first (omega arith) in
          let c =
          sum_by-append (only f first) (of first s t)
          (of_sessions of (first + 1) scripts transcripts) in
          let d = own_weighs f first s t in
          let e = others_weigh_nothing f first (first + 1) scripts transcripts (omega arith) in
          let g = only_is f first items in
          omega arith);
    },
    parts_of items (first + 1) scripts transcripts (omega arith) (λ f session le. (
        let b = weighs f session (omega arith) in
        let c =
        sum_by-append (only f session) (of first s t)
        (of_sessions of (first + 1) scripts transcripts) in
        let d = foreign f session first s t (omega arith) in
        omega arith)),
  )
    where
      only_is : (f : X → ℕ) (session : ℕ) (xs : List X)
          → sum_by (only f session) xs ≡ sum_by (λ x. where_true (session_of x == session) (f x)) xs
      only_is f session xs = refl

      foreign : (f : X → ℕ) (session first : ℕ) (s : List ScriptLine) (t : List LineAnswer)
          → first < session → sum_by (only f session) (of first s t) ≡ 0
      foreign f session first s t low =
          sum_same _ (λ (x : X). 0) (of first s t)
          (λ k d lt. at_false _ _
          (bool_false _
          (λ e. (let mine = each first s t k d lt in let not_mine = eqb-true _ session e in omega arith)))) ∙ sum_zeros (of first s t)

  pub all_are_parts : (items : List X) (scripts : List (List ScriptLine))
      (transcripts : List (List LineAnswer)) → length scripts ≡ length transcripts
      → SameItems items (of_sessions of 0 scripts transcripts)
      → ArePartly session_of of items 0 scripts transcripts
  all_are_parts items scripts transcripts same all = parts_of items 0 scripts transcripts same
      (λ f session _. all.weighs (only f session))

-- whatever a session shows is its own
accepted_by_own : (session line : ℕ) (command : Command) (n : ℕ) (answer : Answer) (b : Bool)
    → is_done answer ≡ b
    → All (λ (c : Accepted). c.entry.session ≡ session) (accepted_by session line command n answer)
accepted_by_own session line (Edit act once) n answer true e =
    subst
    (λ (t : Bool). All (λ (c : Accepted). c.entry.session ≡ session)
    (if t then record {
      at = n;
      entry =
          record { session = session; line = line; act = act };
    } ∷ [] else [])) (sym e)
    (All-cons (λ (c : Accepted). c.entry.session ≡ session) _ [] refl
    (All-nil (λ (c : Accepted). c.entry.session ≡ session)))
accepted_by_own session line (Edit act once) n answer false e =
    subst
    (λ (t : Bool). All (λ (c : Accepted). c.entry.session ≡ session)
    (if t then record {
      at = n;
      entry =
          record { session = session; line = line; act = act };
    } ∷ [] else [])) (sym e)
    (All-nil (λ (c : Accepted). c.entry.session ≡ session))
accepted_by_own session line (Forget v) n answer b e =
    All-nil (λ (c : Accepted). c.entry.session ≡ session)
accepted_by_own session line (Ask version question) n answer b e =
    All-nil (λ (c : Accepted). c.entry.session ≡ session)
accepted_by_own session line (Save version name part) n answer b e =
    All-nil (λ (c : Accepted). c.entry.session ≡ session)
accepted_by_own session line (Same v w) n answer b e =
    All-nil (λ (c : Accepted). c.entry.session ≡ session)
accepted_by_own session line Head n answer b e =
    All-nil (λ (c : Accepted). c.entry.session ≡ session)

pub accepted_own : (session : ℕ) (script : List ScriptLine) (transcript : List LineAnswer)
    → All (λ (c : Accepted). c.entry.session ≡ session) (accepted_in session script transcript)
accepted_own session [] transcript = All-nil (λ (c : Accepted). c.entry.session ≡ session)
accepted_own session (l ∷ script) [] = All-nil (λ (c : Accepted). c.entry.session ≡ session)
accepted_own session (l ∷ script) (a ∷ transcript) =
    All-append (λ (c : Accepted). c.entry.session ≡ session)
    (accepted_by session l.line l.command a.at a.answer)
    (accepted_in session script transcript)
    (accepted_by_own session l.line l.command a.at a.answer (is_done a.answer) refl)
    (accepted_own session script transcript)

forgotten_by_own : (session line n : ℕ) (answer : Answer)
    → All (λ (m : Mark). m.session ≡ session) (forgotten_by session line n answer)
forgotten_by_own session line n (answers.Forgot v) =
    All-cons (λ (m : Mark). m.session ≡ session) _ [] refl
    (All-nil (λ (m : Mark). m.session ≡ session))
forgotten_by_own session line n _ = All-nil (λ (m : Mark). m.session ≡ session)

pub forgotten_own : (session : ℕ) (script : List ScriptLine) (transcript : List LineAnswer)
    → All (λ (m : Mark). m.session ≡ session) (forgotten_in session script transcript)
forgotten_own session [] transcript = All-nil (λ (m : Mark). m.session ≡ session)
forgotten_own session (l ∷ script) [] = All-nil (λ (m : Mark). m.session ≡ session)
forgotten_own session (l ∷ script) (a ∷ transcript) =
    All-append (λ (m : Mark). m.session ≡ session) (forgotten_by session l.line a.at a.answer)
    (forgotten_in session script transcript) (forgotten_by_own session l.line a.at a.answer)
    (forgotten_own session script transcript)
