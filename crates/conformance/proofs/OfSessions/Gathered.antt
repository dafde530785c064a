-- What a view of some sessions lists of a log, told by weights, is what its sessions did; and what
-- a view of one session lists is that session's own.
use Rattle.std.proofs.Common.{◌≡◌, ℕ, ◌==◌, Bool, true, false, List, [], ◌∷◌, refl, ap, sym, ◌∙◌, arith, eq-eqb, inl, inr}
use Rattle.std.specs.Prelude.{All, sum_by, if◌then◌else◌}
use Rattle.std.specs.List.{Contains, filter}
use Rattle.std.proofs.lemmas.Bool.{cases_eq, eqb-true}
use Rattle.std.proofs.lemmas.List.Elements.{All-cons, All-contains, All-contains_itself, All-filter, All-head, All-nil, All-tail, All-weaker, Contains-append_cases}
use Rattle.std.proofs.lemmas.List.Sums.{sum_by-cons}
use Rattle.history_model.specs.declared.histories.Mark.{Mark}
use Rattle.conformance.specs.Passes.{own_of}
use Rattle.conformance.specs.Shown.{SameItems}
use Rattle.conformance.proofs.OfSessions.Items.{own_listed, same_contains, same_flipped}

-- n where the session's number is one of these, and else 0
abbrev pub if_among : List ℕ → ℕ → ℕ → ℕ
if_among [] session n = 0
if_among (number ∷ numbers) session n = if number == session then n else if_among numbers session n

-- a list weighs what the items of these sessions weigh
pub record ListsOwn {X : Type 0} (session_of : X → ℕ) (numbers : List ℕ)
    (items own : List X) : Type 0 where
  pub weighs : (f : X → ℕ)
      → sum_by f own ≡ sum_by (λ x. if_among numbers (session_of x) (f x)) items

bool_false : (b : Bool) → (b ≡ true → ⊥) → b ≡ false
bool_false true h = absurd (h refl)
bool_false false h = refl

here_among : (number : ℕ) (numbers : List ℕ) (session n : ℕ) → number ≡ session
    → if_among (number ∷ numbers) session n ≡ n
here_among number numbers session n e =
    ap (λ (b : Bool). if b then n else if_among numbers session n) (eq-eqb number session e)

later_among : (number : ℕ) (numbers : List ℕ) (session n : ℕ) → (number ≡ session → ⊥)
    → if_among (number ∷ numbers) session n ≡ if_among numbers session n
later_among number numbers session n other =
    ap (λ (b : Bool). if b then n else if_among numbers session n)
    (bool_false (number == session) (λ e. other (eqb-true number session e)))

only_one : (x y : ℕ) → Contains (x ∷ []) y → x ≡ y
only_one x y there =
    All-contains (λ (n : ℕ). x ≡ n) (x ∷ []) y
    (All-cons (λ (n : ℕ). x ≡ n) x [] refl (All-nil (λ (n : ℕ). x ≡ n))) there

among_is : (numbers : List ℕ) (session n : ℕ) → Contains numbers session
    → if_among numbers session n ≡ n
among_is [] session n (k, lt, e) = absurd (omega arith)
among_is (number ∷ numbers) session n there = elim (cases_eq number session) [
  | inl here ↦ here_among number numbers session n here
  | inr other ↦ elim (Contains-append_cases (number ∷ []) numbers session there) [
    | inl first ↦ absurd (other (only_one number session first))
    | inr later ↦ later_among number numbers session n other ∙ among_is numbers session n later
  ]
]

sums_same : {X : Type 0} (f g : X → ℕ) (xs : List X) → All (λ x. f x ≡ g x) xs
    → sum_by f xs ≡ sum_by g xs
sums_same f g [] each = refl
sums_same f g (x ∷ xs) each =
    let a = sum_by-cons f x xs in
    let b = sum_by-cons g x xs in
    let d : f x ≡ g x = All-head (λ y. f y ≡ g y) x xs each in
    let e = sums_same f g xs (All-tail (λ y. f y ≡ g y) x xs each) in
    omega arith

-- where there are no other sessions, the list has just the items
pub all_own : {X : Type 0} (session_of : X → ℕ) (numbers : List ℕ) (items own : List X)
    → ListsOwn session_of numbers items own → All (λ x. Contains numbers (session_of x)) items
    → SameItems items own
all_own {X} session_of numbers items own lists among = record {
  weighs = λ f. sym
      (lists.weighs f
      ∙ sums_same (λ x. if_among numbers (session_of x) (f x)) f items
      (All-weaker (λ (x : X). Contains numbers (session_of x))
      (λ (x : X). if_among numbers (session_of x) (f x) ≡ f x)
      (λ x there. among_is numbers (session_of x) (f x) there) items among));
}

-- what passes a test, weighed where it passes
kept_weighs : {X : Type 0} (f : X → ℕ) (session_of : X → ℕ) (session : ℕ) (xs : List X)
    → sum_by f (own_of session_of session xs) ≡ sum_by
    (λ x. if_among (session ∷ []) (session_of x) (f x)) xs
kept_weighs f session_of session [] = refl
kept_weighs {X} f session_of session (x ∷ xs) =
    let rest = kept_weighs f session_of session xs in
    let both = sum_by-cons (λ y. if_among (session ∷ []) (session_of y) (f y)) x xs in
    elim (cases_eq (session_of x) session) [
      | inl same ↦
          (let kept : own_of session_of session (x ∷ xs)
          ≡ x ∷ own_of session_of session xs =
          (let e = eq-eqb (session_of x) session same in rw e refl) in
          let weighs : sum_by f (own_of session_of session (x ∷ xs)) ≡ sum_by f (x ∷ own_of session_of session xs) = ap (sum_by f) kept in
          let first = sum_by-cons f x (own_of session_of session xs) in
          let one = here_among session [] (session_of x) (f x) (sym same) in
          omega arith)
      | inr other ↦
          (let left : own_of session_of session (x ∷ xs)
          ≡ own_of session_of session xs =
          (let e = bool_false (session_of x == session)
          (λ t. other (eqb-true (session_of x) session t)) in rw e refl) in
          let weighs : sum_by f (own_of session_of session (x ∷ xs)) ≡ sum_by f (own_of session_of session xs) = ap (sum_by f) left in
          let none = later_among session [] (session_of x) (f x) (λ e. other (sym e)) in
          omega arith)
    ]

-- one session's list is its own items
pub one_own : {X : Type 0} (session_of : X → ℕ) (session : ℕ) (items own : List X)
    → ListsOwn session_of (session ∷ []) items own → SameItems (own_of session_of session items) own
one_own session_of session items own lists =
    record { weighs = λ f. kept_weighs f session_of session items ∙ sym (lists.weighs f) }

-- so what it lists of marks is among those that are seen, and the other way
pub record OwnMarks (session : ℕ) (seen own : List Mark) : Type 0 where
  pub own_there : All (λ m. m.session ≡ session → Contains own m) seen
  pub listed : All (Contains seen) own

kept_there : {X : Type 0} (test : X → Bool) (xs : List X) → All (Contains xs) (filter test xs)
kept_there test xs = All-filter test (Contains xs) xs (All-contains_itself xs)

pub marks_own : (session : ℕ) (seen own : List Mark)
    → ListsOwn (λ m. m.session) (session ∷ []) seen own → OwnMarks session seen own
marks_own session seen own lists =
    let same = one_own (λ (m : Mark). m.session) session seen own lists in
    record {
      own_there = own_listed session seen own same;
      listed =
          All-weaker (Contains (own_of (λ (m : Mark). m.session) session seen)) (Contains seen)
          (λ m there. All-contains (Contains seen)
          (own_of (λ (n : Mark). n.session) session seen) m
          (kept_there (λ (n : Mark). n.session == session) seen) there) own
          (λ k d lt. same_contains own (own_of (λ (n : Mark). n.session) session seen) _
          (same_flipped (own_of (λ (n : Mark). n.session) session seen) own same)
          (All-contains_itself own k d lt));
    }
