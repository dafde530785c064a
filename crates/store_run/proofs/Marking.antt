-- The marks by version, as the list that they give.
use Rattle.std.proofs.Common.{◌≡◌, ◌≢◌, ℕ, zero, suc, ◌+◌, ◌<◌, refl, sym, ◌∙◌, ap, arith, inl, inr, Some, None, Option, List, [], ◌∷◌, length, replicate, set, get_or, get_or-set_same, get_or-set_other}
use Rattle.std.specs.List.{Contains}
use Rattle.std.proofs.lemmas.Bool.{cases_eq}
use Rattle.std.proofs.lemmas.List.{get_or_default}
use Rattle.std.proofs.lemmas.Option.{none-some, same_Some}
use Rattle.std.proofs.lemmas.List.Elements.{All-nil, All-push, All-contains, Contains-append_left, Contains-append_right}
use Rattle.history_model.specs.declared.histories.Mark.{Mark}
use Rattle.core_laws.specs.contents.Versions.{IsUnmarked}
use Rattle.core_laws.specs.contents.MarkLists.{with_mark, marks_below, AreOfVersions, GetsMark}
use Rattle.store_run.specs.Kept.{mark_in}

-- no marks, no list
pub none_listed : (f : ℕ → Option Mark) (n : ℕ) → ((v : ℕ) → f v ≡ None) → marks_below f n ≡ []
unfolding marks_below
none_listed f zero none = refl
none_listed f (suc n) none = λ i. with_mark (none_listed f n none i) (none n i)

get_or-replicate : (n v : ℕ) → mark_in (replicate n None) v ≡ None
get_or-replicate zero v = refl
get_or-replicate (suc n) zero = refl
get_or-replicate (suc n) (suc v) = get_or-replicate n v

pub no_mark : (n v : ℕ) → mark_in (replicate n None) v ≡ None
no_mark n v = get_or-replicate n v

other_mark : (marks : List Mark) (o : Option Mark) (n v : ℕ) → IsUnmarked marks v
    → ((m : Mark) → o ≡ Some m → m.version ≢ v) → IsUnmarked (with_mark marks o) v
other_mark marks None n v all of = all
other_mark marks (Some m) n v all of = All-push (λ k. k.version ≢ v) marks m all (of m refl)

-- a version has no mark in the list where it has none
pub unmarked_at : (f : ℕ → Option Mark) (n v : ℕ) → AreOfVersions f → f v ≡ None
    → IsUnmarked (marks_below f n) v
unfolding marks_below
unmarked_at f zero v of none = All-nil (λ m. m.version ≢ v)
unmarked_at f (suc n) v of none =
    other_mark (marks_below f n) (f n) n v (unmarked_at f n v of none)
    (λ m e same. none-some m (sym none ∙ ap f (sym same ∙ of.each n m e) ∙ e))

-- and its mark is listed where it has one
here_listed : (marks : List Mark) (o : Option Mark) (m : Mark) → o ≡ Some m
    → Contains (with_mark marks o) m
here_listed marks None m e = absurd (none-some m e)
here_listed marks (Some k) m e =
    Contains-append_right marks (k ∷ []) m (0, omega arith, same_Some k m e)

there_listed : (marks : List Mark) (o : Option Mark) (m : Mark) → Contains marks m
    → Contains (with_mark marks o) m
there_listed marks None m c = c
there_listed marks (Some k) m c = Contains-append_left marks (k ∷ []) m c

pub listed_at : (f : ℕ → Option Mark) (n v : ℕ) (m : Mark) → v < n → f v ≡ Some m
    → Contains (marks_below f n) m
unfolding marks_below
listed_at f zero v m lt e = absurd (omega arith)
listed_at f (suc n) v m lt e = elim (cases_eq v n) [
  | inl last ↦ here_listed (marks_below f n) (f n) m (ap f (sym last) ∙ e)
  | inr other ↦ there_listed (marks_below f n) (f n) m (listed_at f n v m (omega (arith, other)) e)
]

pub none_where_unmarked : (f : ℕ → Option Mark) (n v : ℕ) → v < n → AreOfVersions f
    → IsUnmarked (marks_below f n) v → f v ≡ None
none_where_unmarked f n v lt of unmarked = go (f v) refl
  where
    go : (o : Option Mark) → f v ≡ o → f v ≡ None
    go None e = e
    go (Some m) e = absurd
        (All-contains (λ k. k.version ≢ v) (marks_below f n) m unmarked (listed_at f n v m lt e)
        (of.each v m e))

-- a mark that is put at its version
pub gets_mark : (marks : List (Option Mark)) (mark : Mark) → mark.version < length marks
    → mark_in marks mark.version ≡ None
    → GetsMark (mark_in marks) mark (mark_in (set marks mark.version (Some mark)))
gets_mark marks mark lt free = record {
  free = free;
  here = get_or-set_same marks mark.version (Some mark) None lt;
  others = λ v other. get_or-set_other marks mark.version v (Some mark) None other;
}

pub of_versions_still : (marks : List (Option Mark)) (mark : Mark) → mark.version < length marks
    → AreOfVersions (mark_in marks)
    → AreOfVersions (mark_in (set marks mark.version (Some mark)))
of_versions_still marks mark lt of = record {
  each = λ v m e. elim (cases_eq v mark.version) [
    | inl same ↦ (
        let here =
        ap (mark_in (set marks mark.version (Some mark))) same
        ∙ get_or-set_same marks mark.version (Some mark) None lt in
        ap (λ (k : Mark). k.version) (sym (same_Some mark m (sym here ∙ e))) ∙ sym same)
    | inr other ↦ of.each v m
        (sym (get_or-set_other marks mark.version v (Some mark) None other) ∙ e)
  ];
}

-- the list goes by versions
pub listed_none : (f : ℕ → Option Mark) → [] ≡ marks_below f 0
unfolding marks_below
listed_none f = refl

listed_suc : (f : ℕ → Option Mark) (n : ℕ)
    → marks_below f (suc n) ≡ with_mark (marks_below f n) (f n)
unfolding marks_below
listed_suc f n = refl

pub listed_next : (marks : List (Option Mark)) (n : ℕ) (old new : List Mark) (o d : Option Mark)
    → old ≡ marks_below (mark_in marks) n
    → n < length marks → o ≡ get_or marks n d → new ≡ with_mark old o
    → new ≡ marks_below (mark_in marks) (n + 1)
listed_next marks n old new o d before lt here is =
    let up : suc n ≡ n + 1 = omega arith in
    is ∙ (λ i. with_mark (before i) ((here ∙ get_or_default marks n d None lt) i))
    ∙ sym (listed_suc (mark_in marks) n)
    ∙ ap (marks_below (mark_in marks)) up
