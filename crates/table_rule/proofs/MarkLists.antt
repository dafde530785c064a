-- Marks that come to what is seen of a log.
use Rattle.std.proofs.Common.{◌≡◌, ◌≢◌, ◌⊎◌, ℕ, zero, suc, ◌+◌, ◌<◌, ◌≤◌, eqb, eq-eqb, ne_eqb, Bool, true, false, List, [], ◌∷◌, get_or, refl, sym, ap, ◌∙◌, subst, ⊎_elim, inl, inr, arith, sum_by}
use Rattle.std.specs.Prelude.{All, if◌then◌else◌, nat_lt}
use Rattle.std.specs.List.{Contains}
use Rattle.std.proofs.lemmas.Bool.{cases_eq, cases_lt, lt-ltb, le-ltb}
use Rattle.std.proofs.lemmas.List.Sums.{sum_by-cons}
use Rattle.history_model.specs.Logs.{Log}
use Rattle.history_model.specs.declared.histories.Mark.{Mark}
use Rattle.table_rule.specs.LogKnowing.{IsPrefix, ListsOwn, if_among}
use Rattle.retain.specs.Listing.{Accepted}
use Rattle.table_rule.proofs.Containing.{contains_more}
use Rattle.table_rule.proofs.LogPartC.{sum_has, among_zero}
use Rattle.table_rule.proofs.OwnLaws.{among_in, among_out, sum_same, sum_none, first_or_more}
use Rattle.table_rule.specs.LogChanges.{has_mark, place_mark, marks_with}

-- a branch by its test
if_true : {A : Type 0} (b : Bool) (x y : A) → b ≡ true → (if b then x else y) ≡ x
if_true b x y e = ap (λ c. if c then x else y) e

if_false : {A : Type 0} (b : Bool) (x y : A) → b ≡ false → (if b then x else y) ≡ y
if_false b x y e = ap (λ c. if c then x else y) e

placed_before : (m x : Mark) (xs : List Mark) → m.version < x.version
    → place_mark m (x ∷ xs) ≡ m ∷ x ∷ xs
unfolding place_mark
placed_before m x xs lt = if_true (nat_lt m.version x.version) _ _ (lt-ltb m.version x.version lt)

placed_behind : (m x : Mark) (xs : List Mark) → x.version ≤ m.version
    → place_mark m (x ∷ xs) ≡ x ∷ place_mark m xs
unfolding place_mark
placed_behind m x xs le = if_false (nat_lt m.version x.version) _ _ (le-ltb m.version x.version le)

placed_alone : (m : Mark) → place_mark m [] ≡ m ∷ []
unfolding place_mark
placed_alone m = refl

pub place_sum : (f : Mark → ℕ) (m : Mark) (xs : List Mark)
    → sum_by f (place_mark m xs) ≡ f m + sum_by f xs
place_sum f m [] =
    ap (λ (l : List Mark). sum_by f l) (placed_alone m) ∙ sum_by-cons f m []
place_sum f m (x ∷ xs) = elim (cases_lt m.version x.version) [
  | inl lt ↦
      ap (λ (l : List Mark). sum_by f l) (placed_before m x xs lt) ∙ sum_by-cons f m (x ∷ xs)
  | inr le ↦
      (let e = ap (λ (l : List Mark). sum_by f l) (placed_behind m x xs le) in
      let a = sum_by-cons f x (place_mark m xs) in let b = sum_by-cons f x xs in
      let more = place_sum f m xs in omega arith)
]

placed_has : (m : Mark) (xs : List Mark) (y : Mark) → Contains (place_mark m xs) y
    → (m ≡ y) ⊎ Contains xs y
placed_has m [] y c =
    first_or_more m [] y (subst (λ (l : List Mark). Contains l y) (placed_alone m) c)
    (λ e. inl e) (λ more. inr more)
placed_has m (x ∷ xs) y c = elim (cases_lt m.version x.version) [
  | inl lt ↦
      first_or_more m (x ∷ xs) y
      (subst (λ (l : List Mark). Contains l y) (placed_before m x xs lt) c)
      (λ e. inl e) (λ more. inr more)
  | inr le ↦
      first_or_more x (place_mark m xs) y
      (subst (λ (l : List Mark). Contains l y) (placed_behind m x xs le) c)
      (λ e. inr (0, omega arith, e))
      (λ more. ⊎_elim (λ e. inl e) (λ h. inr (contains_more x xs y h)) (placed_has m xs y more))
]

-- whatever is there behind a mark that came is that mark or was there
pub with_has : (m : Mark) (xs : List Mark) (y : Mark) → Contains (marks_with m xs) y
    → (m ≡ y) ⊎ Contains xs y
with_has m xs y c = go (has_mark m.version xs) refl
  where
    go : (b : Bool) → has_mark m.version xs ≡ b → (m ≡ y) ⊎ Contains xs y
    go true e = inr (subst (λ (l : List Mark). Contains l y)
        (if_true (has_mark m.version xs) xs (place_mark m xs) e) c)
    go false e = placed_has m xs y (subst (λ (l : List Mark). Contains l y)
        (if_false (has_mark m.version xs) xs (place_mark m xs) e) c)

placed_new : (m : Mark) (xs : List Mark) → Contains (place_mark m xs) m
placed_new m [] =
    subst (λ (l : List Mark). Contains l m) (sym (placed_alone m)) (0, omega arith, refl)
placed_new m (x ∷ xs) = elim (cases_lt m.version x.version) [
  | inl lt ↦
      subst (λ (l : List Mark). Contains l m) (sym (placed_before m x xs lt)) (0, omega arith, refl)
  | inr le ↦
      subst (λ (l : List Mark). Contains l m) (sym (placed_behind m x xs le))
      (contains_more x (place_mark m xs) m (placed_new m xs))
]

placed_old : (m : Mark) (xs : List Mark) (y : Mark) → Contains xs y → Contains (place_mark m xs) y
placed_old m [] y c = absurd (let k = c.1 in omega arith)
placed_old m (x ∷ xs) y c = elim (cases_lt m.version x.version) [
  | inl lt ↦
      subst (λ (l : List Mark). Contains l y) (sym (placed_before m x xs lt))
      (contains_more m (x ∷ xs) y c)
  | inr le ↦
      subst (λ (l : List Mark). Contains l y) (sym (placed_behind m x xs le))
      (first_or_more x xs y c (λ e. (0, omega arith, e))
      (λ more. contains_more x (place_mark m xs) y (placed_old m xs y more)))
]

-- the marks that were there are there still
pub with_keeps : (m : Mark) (xs : List Mark) (y : Mark) → Contains xs y
    → Contains (marks_with m xs) y
with_keeps m xs y c = go (has_mark m.version xs) refl
  where
    go : (b : Bool) → has_mark m.version xs ≡ b → Contains (marks_with m xs) y
    go true e = subst (λ (l : List Mark). Contains l y)
        (sym (if_true (has_mark m.version xs) xs (place_mark m xs) e)) c
    go false e = subst (λ (l : List Mark). Contains l y)
        (sym (if_false (has_mark m.version xs) xs (place_mark m xs) e)) (placed_old m xs y c)

-- the mark of a version that has one
found_mark : (u : ℕ) (xs : List Mark) → has_mark u xs ≡ true
    → (y : Mark) × Contains xs y × (y.version ≡ u)
unfolding has_mark
found_mark u [] e = absurd (let no : ⊥ = cc in no)
found_mark u (x ∷ xs) e = elim (cases_eq x.version u) [
  | inl same ↦ (x, (0, omega arith, refl), same)
  | inr other ↦
      (let more = found_mark u xs
      (sym (if_false (eqb x.version u) true (has_mark u xs) (ne_eqb x.version u other)) ∙ e) in
      (more.0, contains_more x xs more.0 more.1, more.2))
]

-- the mark is there, where each one of its version is this one
pub with_new : (m : Mark) (xs : List Mark)
    → ((y : Mark) → Contains xs y → y.version ≡ m.version → y ≡ m) → Contains (marks_with m xs) m
with_new m xs one = go (has_mark m.version xs) refl
  where
    go : (b : Bool) → has_mark m.version xs ≡ b → Contains (marks_with m xs) m
    go true e =
        let f = found_mark m.version xs e in
        subst (λ (l : List Mark). Contains l m)
        (sym (if_true (has_mark m.version xs) xs (place_mark m xs) e))
        (subst (λ (y : Mark). Contains xs y) (one f.0 f.1 f.2) f.1)
    go false e = subst (λ (l : List Mark). Contains l m)
        (sym (if_false (has_mark m.version xs) xs (place_mark m xs) e)) (placed_new m xs)

has_first : (u : ℕ) (m : Mark) (xs : List Mark) → has_mark u (m ∷ xs) ≡ false
    → (m.version ≢ u) × (has_mark u xs ≡ false)
unfolding has_mark
has_first u m xs none = elim (cases_eq m.version u) [
  | inl same ↦
      absurd (let e = sym (if_true (eqb m.version u) true (has_mark u xs) (eq-eqb m.version u same))
      ∙ none in let no : ⊥ = cc in no)
  | inr other ↦ (
    other,
    sym (if_false (eqb m.version u) true (has_mark u xs) (ne_eqb m.version u other)) ∙ none,
  )
]

pub none_has : (u : ℕ) (xs : List Mark) → has_mark u xs ≡ false → All (λ m. m.version ≢ u) xs
none_has u [] none k d lt = absurd (omega arith)
none_has u (x ∷ xs) none zero d lt = (has_first u x xs none).0
none_has u (x ∷ xs) none (suc k) d lt =
    none_has u xs (has_first u x xs none).1 k d (omega arith)

-- no mark of the version is among them
pub has_none : (u : ℕ) (xs : List Mark) → All (λ m. m.version ≢ u) xs → has_mark u xs ≡ false
unfolding has_mark
has_none u [] none = refl
has_none u (x ∷ xs) none =
    if_false (eqb x.version u) true (has_mark u xs)
    (ne_eqb x.version u (none 0 x (omega arith)))
    ∙ has_none u xs (λ k d lt. none (suc k) d (omega arith))

-- 1 for a mark of this version
abbrev is_version : ℕ → Mark → ℕ
is_version u m = if eqb m.version u then 1 else 0

-- a mark that the log has, and of whose version none was seen, is of no number whose marks all were
-- seen
unseen_mark : (seen log : Log) (numbers : List ℕ) (rs : List Accepted) (ms : List Mark) (m : Mark)
    → Contains log.marks m → has_mark m.version seen.marks ≡ false → ListsOwn log numbers rs ms
    → ListsOwn seen numbers rs ms → Contains numbers m.session → ⊥
unseen_mark seen log numbers rs ms m there none all some c =
    let u : ℕ = m.version in
    let g : Mark → ℕ = λ x. if_among numbers x.session (is_version u x) in
    let zero_seen : sum_by g seen.marks ≡ 0 =
    sum_same g (λ x. 0) seen.marks
    (λ k d lt. (let x : Mark = get_or seen.marks k d in
    among_zero numbers x.session (is_version u x)
    (if_false (eqb x.version u) 1 0 (ne_eqb x.version u (none_has u seen.marks none k d lt)))))
    ∙ sum_none seen.marks in
    let own = some.marks_are (is_version u) in
    let mine = all.marks_are (is_version u) in
    let one : g m ≡ 1 =
    among_in numbers m.session (is_version u m) c
    ∙ if_true (eqb m.version u) 1 0 (eq-eqb m.version u refl) in
    let least = sum_has g log.marks m there in omega arith

-- so the lists stay those of what is seen where such a mark is seen
pub own_mark_more : (seen log : Log) (numbers : List ℕ) (rs : List Accepted) (ms : List Mark)
    (m : Mark) → Contains log.marks m → ListsOwn log numbers rs ms → ListsOwn seen numbers rs ms
    → ListsOwn (record seen { marks = marks_with m seen.marks }) numbers rs ms
own_mark_more seen log numbers rs ms m there all some = record {
  records_are = some.records_are;
  marks_are = λ f. some.marks_are f ∙ sym (go f (has_mark m.version seen.marks) refl);
}
  where
    go : (f : Mark → ℕ) (b : Bool) → has_mark m.version seen.marks ≡ b
        → sum_by (λ x. if_among numbers x.session (f x)) (marks_with m seen.marks)
        ≡ sum_by (λ x. if_among numbers x.session (f x)) seen.marks
    go f true e =
        ap (λ (l : List Mark). sum_by (λ x. if_among numbers x.session (f x)) l)
        (if_true (has_mark m.version seen.marks) seen.marks (place_mark m seen.marks) e)
    go f false e =
        let g : Mark → ℕ = λ x. if_among numbers x.session (f x) in
        let a = ap (λ (l : List Mark). sum_by g l)
        (if_false (has_mark m.version seen.marks) seen.marks (place_mark m seen.marks) e) in
        let b = place_sum g m seen.marks in
        let none = among_out numbers m.session (f m)
        (λ c. unseen_mark seen log numbers rs ms m there e all some c) in omega arith

-- a log that has the mark is one that what is seen begins still
pub begins_mark : (a b : Log) (m : Mark) → IsPrefix a b → Contains b.marks m
    → IsPrefix (record a { marks = marks_with m a.marks }) b
begins_mark a b m s there = record {
  more = s.more;
  records = s.records;
  marks = λ y c. ⊎_elim (λ e. subst (λ (x : Mark). Contains b.marks x) e there)
      (λ old. s.marks y old) (with_has m a.marks y c);
}

-- a mark of a version without one weighs what it weighs
pub placed_sum : (f : Mark → ℕ) (m : Mark) (xs : List Mark) → All (λ y. y.version ≢ m.version) xs
    → sum_by f (marks_with m xs) ≡ f m + sum_by f xs
placed_sum f m xs none =
    ap (λ (l : List Mark). sum_by f l)
    (if_false (has_mark m.version xs) xs (place_mark m xs) (has_none m.version xs none))
    ∙ place_sum f m xs
