-- What seats list of their own records and marks, by what it weighs.
use Rattle.std.proofs.Common.{◌≡◌, ◌≢◌, ℕ, zero, suc, ◌+◌, ◌<◌, ◌≤◌, eq-eqb, ne_eqb, List, [], ◌∷◌, ◌++◌, length, get_or, refl, sym, ap, ◌∙◌, subst, inl, inr, arith, length-append}
use Rattle.std.specs.Prelude.{All, sum_by, if◌then◌else◌}
use Rattle.std.specs.List.{Contains}
use Rattle.std.proofs.lemmas.Bool.{cases_eq}
use Rattle.std.proofs.lemmas.List.Elements.{All-contains}
use Rattle.std.proofs.lemmas.List.Sums.{sum_by-cons, sum_by-append}
use Rattle.retain.specs.Mark.{Mark}
use Rattle.retain.specs.Record.{Record}
use Rattle.retain.specs.Logs.{Log}
use Rattle.table_rule.specs.LogKnowing.{IsPrefix, if_among, numbered_from, ListsOwn, AreOfSessions}
use Rattle.table_rule.specs.LogViews.{no_log}
use Rattle.retain.specs.Listing.{Accepted}
use Rattle.table_rule.proofs.Containing.{contains_more}

module _ {A : Type 0} where
  pub all_tail : (P : A → Type 0) (x : A) (xs : List A) → All P (x ∷ xs) → All P xs
  all_tail P x xs all k d lt = all (suc k) d (omega arith)

  pub sum_same : (f g : A → ℕ) (xs : List A) → All (λ x. f x ≡ g x) xs → sum_by f xs ≡ sum_by g xs
  sum_same f g [] all = refl
  sum_same f g (x ∷ xs) all =
      let here = all 0 x (omega arith) in
      let more = sum_same f g xs (all_tail (λ y. f y ≡ g y) x xs all) in
      let a = sum_by-cons f x xs in let b = sum_by-cons g x xs in omega arith

  pub sum_plus : (f g : A → ℕ) (xs : List A)
      → sum_by (λ x. f x + g x) xs ≡ sum_by f xs + sum_by g xs
  sum_plus f g [] = refl
  sum_plus f g (x ∷ xs) =
      let more = sum_plus f g xs in let a = sum_by-cons f x xs in let b = sum_by-cons g x xs in
      let c = sum_by-cons (λ y. f y + g y) x xs in omega arith

  pub sum_none : (xs : List A) → sum_by (λ x. 0) xs ≡ 0
  sum_none [] = refl
  sum_none (x ∷ xs) = let more = sum_none xs in let c = sum_by-cons (λ y. 0) x xs in omega arith

  pub all_front : (P : A → Type 0) (xs ys : List A) → All P (xs ++ ys) → All P xs
  all_front P [] ys all k d lt = absurd (omega arith)
  all_front P (x ∷ xs) ys all zero d lt =
      all 0 d (let l = length-append (x ∷ xs) ys in omega arith)
  all_front P (x ∷ xs) ys all (suc k) d lt =
      all_front P xs ys (all_tail P x (xs ++ ys) all) k d (omega arith)

  pub all_end : (P : A → Type 0) (xs : List A) (y : A) → All P xs → P y → All P (xs ++ y ∷ [])
  all_end P [] y all last zero d lt = last
  all_end P [] y all last (suc k) d lt = absurd (omega arith)
  all_end P (x ∷ xs) y all last zero d lt = all 0 d (omega arith)
  all_end P (x ∷ xs) y all last (suc k) d lt =
      all_end P xs y (all_tail P x xs all) last k d (omega arith)

  again : (xs : List A) (k : ℕ) (d : A) → k < length xs
      → get_or xs k (get_or xs k d) ≡ get_or xs k d
  again [] k d lt = absurd (omega arith)
  again (x ∷ xs) zero d lt = refl
  again (x ∷ xs) (suc k) d lt = again xs k d (omega arith)

  -- what holds of whatever a list has holds of each
  pub all_from : (P : A → Type 0) (xs : List A) → ((x : A) → Contains xs x → P x) → All P xs
  all_from P xs each k d lt = each (get_or xs k d) (k, lt, again xs k d lt)

pub all_numbered : (P : Record → Type 0) (n : ℕ) (rs : List Record) → All P rs
    → All (λ (x : Accepted). P x.entry) (numbered_from n rs)
unfolding numbered_from
all_numbered P n [] all k d lt = absurd (omega arith)
all_numbered P n (r ∷ rs) all zero d lt = all 0 r (omega arith)
all_numbered P n (r ∷ rs) all (suc k) d lt =
    all_numbered P (suc n) rs (all_tail P r rs all) k d (omega arith)

pub numbered_end : (n : ℕ) (rs : List Record) (r : Record)
    → numbered_from n (rs ++ r ∷ []) ≡ numbered_from n rs ++ record
    { at = n + length rs; entry = r } ∷ []
unfolding numbered_from
numbered_end n [] r = let e : n ≡ n + 0 = omega arith in
    λ i. record { at = e i; entry = r } ∷ []
numbered_end n (x ∷ rs) r =
    let more = numbered_end (suc n) rs r in
    let e : suc n + length rs ≡ n + length (x ∷ rs) = omega arith in
    ap (λ (l : List Accepted). record { at = n; entry = x } ∷ l) more
    ∙ (λ i. record { at = n; entry = x } ∷ (numbered_from (suc n) rs
    ++ record { at = e i; entry = r } ∷ []))

pub among_other : (number s n : ℕ) (numbers : List ℕ) → number ≢ s
    → if_among (number ∷ numbers) s n ≡ if_among numbers s n
unfolding if_among
among_other number s n numbers ne =
    ap (λ b. if b then n else if_among numbers s n) (ne_eqb number s ne)

among_first : (number s n : ℕ) (numbers : List ℕ) → number ≡ s
    → if_among (number ∷ numbers) s n ≡ n
unfolding if_among
among_first number s n numbers e =
    ap (λ b. if b then n else if_among numbers s n) (eq-eqb number s e)

among_none : (s n : ℕ) → if_among [] s n ≡ 0
unfolding if_among
among_none s n = refl

pub among_out : (numbers : List ℕ) (s n : ℕ) → (Contains numbers s → ⊥) → if_among numbers s n ≡ 0
among_out [] s n out = among_none s n
among_out (x ∷ xs) s n out = elim (cases_eq x s) [
  | inl same ↦ absurd (out (0, omega arith, same))
  | inr other ↦
      among_other x s n xs other ∙ among_out xs s n (λ c. out (contains_more x xs s c))
]

pub among_in : (numbers : List ℕ) (s n : ℕ) → Contains numbers s → if_among numbers s n ≡ n
among_in [] s n c = absurd (let k = c.1 in omega arith)
among_in (x ∷ xs) s n c = elim (cases_eq x s) [
  | inl same ↦ among_first x s n xs same
  | inr other ↦ among_other x s n xs other ∙ among_in xs s n (rest c.0 c.1 c.2 other)
]
  where
    rest : (k : ℕ) → k < length (x ∷ xs) → get_or (x ∷ xs) k s ≡ s → x ≢ s → Contains xs s
    rest zero lt e ne = absurd (ne e)
    rest (suc k) lt e ne = (k, omega arith, e)

pub among_both : (xs ys : List ℕ) (s n : ℕ) → (Contains xs s → Contains ys s → ⊥)
    → if_among (xs ++ ys) s n ≡ if_among xs s n + if_among ys s n
among_both [] ys s n apart = let e = among_none s n in omega arith
among_both (x ∷ xs) ys s n apart = elim (cases_eq x s) [
  | inl same ↦
      (let a = among_first x s n (xs ++ ys) same in let b = among_first x s n xs same in
      let none = among_out ys s n (λ c. apart (0, omega arith, same) c) in omega arith)
  | inr other ↦
      (let a = among_other x s n (xs ++ ys) other in let b = among_other x s n xs other in
      let more = among_both xs ys s n (λ c d. apart (contains_more x xs s c) d) in omega arith)
]

-- whoever carries no number lists nothing
pub own_nothing : (log : Log) → ListsOwn log [] [] []
own_nothing log = record {
  records_are = λ f.
      sym (sum_same (λ r. if_among [] r.entry.session (f r)) (λ r. 0) (numbered_from 1 log.records)
      (λ k d lt. among_none _ _) ∙ sum_none (numbered_from 1 log.records));
  marks_are = λ f.
      sym (sum_same (λ m. if_among [] m.session (f m)) (λ m. 0) log.marks
      (λ k d lt. among_none _ _) ∙ sum_none log.marks);
}

-- a number that no record or mark has
pub own_more : (made n : ℕ) (log : Log) (numbers : List ℕ) (rs : List Accepted) (ms : List Mark)
    → AreOfSessions made log → made ≤ n → ListsOwn log numbers rs ms
    → ListsOwn log (n ∷ numbers) rs ms
own_more made n log numbers rs ms of le own = record {
  records_are = λ f. own.records_are f
      ∙ sum_same (λ r. if_among numbers r.entry.session (f r))
      (λ r. if_among (n ∷ numbers) r.entry.session (f r)) (numbered_from 1 log.records)
      (λ k d lt. (let x = all_numbered (λ r. r.session < made) 1 log.records of.records k d lt in
      sym (among_other n _ _ numbers (λ e. omega arith))));
  marks_are = λ f. own.marks_are f
      ∙ sum_same (λ m. if_among numbers m.session (f m))
      (λ m. if_among (n ∷ numbers) m.session (f m)) log.marks
      (λ k d lt. (let x = of.marks k d lt in
      sym (among_other n _ _ numbers (λ e. omega arith))));
}

-- the lists of seats with other numbers go together
pub own_both : (log : Log) (xs ys : List ℕ) (rs ss : List Accepted) (ms ns : List Mark)
    → ((s : ℕ) → Contains xs s → Contains ys s → ⊥) → ListsOwn log xs rs ms
    → ListsOwn log ys ss ns → ListsOwn log (xs ++ ys) (rs ++ ss) (ms ++ ns)
own_both log xs ys rs ss ms ns apart a b = record {
  records_are = λ f.
      (let one = a.records_are f in let two = b.records_are f in
      let all = sum_by-append f rs ss in
      let plus = sum_plus (λ r. if_among xs r.entry.session (f r))
      (λ r. if_among ys r.entry.session (f r)) (numbered_from 1 log.records) in
      let same = sum_same (λ r. if_among (xs ++ ys) r.entry.session (f r))
      (λ r. if_among xs r.entry.session (f r) + if_among ys r.entry.session (f r))
      (numbered_from 1 log.records) (λ k d lt. among_both xs ys _ _ (apart _)) in omega arith);
  marks_are = λ f.
      (let one = a.marks_are f in let two = b.marks_are f in
      let all = sum_by-append f ms ns in
      let plus = sum_plus (λ m. if_among xs m.session (f m)) (λ m. if_among ys m.session (f m))
      log.marks in
      let same = sum_same (λ m. if_among (xs ++ ys) m.session (f m))
      (λ m. if_among xs m.session (f m) + if_among ys m.session (f m))
      log.marks (λ k d lt. among_both xs ys _ _ (apart _)) in omega arith);
}

-- a prefix has records and marks of the same sessions
pub of_sessions : (made : ℕ) (a b : Log) → IsPrefix a b → AreOfSessions made b
    → AreOfSessions made a
of_sessions made a b is of = record {
  records =
      all_front (λ r. r.session < made) a.records is.more
      (subst (λ (rs : List Record). All (λ r. r.session < made) rs) is.records of.records);
  marks = all_from (λ m. m.session < made) a.marks
      (λ m c. All-contains (λ x. x.session < made) b.marks m of.marks (is.marks m c));
}

-- nothing begins each log
pub nothing_begins : (side : ℕ) (log : Log) → IsPrefix (no_log side) log
nothing_begins side log =
    record {
      more = log.records;
      records = refl;
      marks = λ m c. absurd
          (let k = c.1 in omega arith);
    }

pub nothing_numbered : (f : Accepted → ℕ) → 0 ≡ sum_by f (numbered_from 1 [])
unfolding numbered_from
nothing_numbered f = refl

-- what a list has that begins with x is x or stands behind it
pub first_or_more : {A : Type 0} {B : Type 0} (x : A) (xs : List A) (y : A) → Contains (x ∷ xs) y
    → (x ≡ y → B) → (Contains xs y → B) → B
first_or_more {A} {B} x xs y c first more = go c.0 c.1 c.2
  where
    go : (k : ℕ) → k < length (x ∷ xs) → get_or (x ∷ xs) k y ≡ y → B
    go zero lt e = first e
    go (suc k) lt e = more (k, omega arith, e)
