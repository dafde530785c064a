-- A version that gets a mark in a look-up gets it in its place in the list.
use Rattle.std.proofs.Common.{◌≡◌, ℕ, zero, suc, ◌<◌, refl, sym, ◌∙◌, ap, subst, arith, inl, inr, Some, None, Option, List, [], ◌∷◌, ◌++◌, append_assoc}
use Rattle.std.specs.Prelude.{All}
use Rattle.std.proofs.lemmas.Bool.{cases_eq}
use Rattle.std.proofs.lemmas.List.{append-nil}
use Rattle.std.proofs.lemmas.List.Elements.{All-nil, All-push, All-weaker}
use Rattle.history_model.specs.declared.histories.Mark.{Mark}
use Rattle.core_laws.specs.contents.MarkLists.{with_mark, marks_below, AreOfVersions, GetsMark}
use Rattle.core_laws.specs.contents.Versions.{InsertsMark}

push_lower : (n : ℕ) (marks : List Mark) (o : Option Mark) → All (λ m. m.version < n) marks
    → ((m : Mark) → o ≡ Some m → m.version ≡ n) → All (λ m. m.version < suc n) (with_mark marks o)
push_lower n marks None all of =
    All-weaker (λ m. m.version < n) (λ m. m.version < suc n) (λ m lt. omega arith) marks all
push_lower n marks (Some m) all of =
    All-push (λ k. k.version < suc n) marks m
    (All-weaker (λ k. k.version < n) (λ k. k.version < suc n) (λ k lt. omega arith) marks all)
    (let same = of m refl in omega arith)

all_lower : (f : ℕ → Option Mark) (n : ℕ) → AreOfVersions f
    → All (λ m. m.version < n) (marks_below f n)
unfolding marks_below
all_lower f zero of = All-nil (λ m. m.version < 0)
all_lower f (suc n) of = push_lower n (marks_below f n) (f n) (all_lower f n of) (of.each n)

below_same : (f g : ℕ → Option Mark) (n : ℕ) → ((v : ℕ) → v < n → g v ≡ f v)
    → marks_below g n ≡ marks_below f n
unfolding marks_below
below_same f g zero same = refl
below_same f g (suc n) same =
    λ i. with_mark (below_same f g n (λ v lt. same v (omega arith)) i) (same n (omega arith) i)

push_comes : (old new : List Mark) (mark : Mark) (o : Option Mark) → InsertsMark old mark new
    → ((m : Mark) → o ≡ Some m → mark.version < m.version)
    → InsertsMark (with_mark old o) mark (with_mark new o)
push_comes old new mark None r higher = r
push_comes old new mark (Some m) r higher = record {
  before = r.before;
  after = r.after ++ m ∷ [];
  was = ap (λ (ms : List Mark). ms ++ m ∷ []) r.was ∙ append_assoc r.before r.after (m ∷ []);
  is = ap (λ (ms : List Mark). ms ++ m ∷ []) r.is ∙ append_assoc r.before (mark ∷ r.after) (m ∷ []);
  lower = r.lower;
  higher = All-push (λ k. mark.version < k.version) r.after m r.higher (higher m refl);
}

pub mark_comes : (f g : ℕ → Option Mark) (mark : Mark) (n : ℕ) → mark.version < n
    → GetsMark f mark g
    → AreOfVersions f → InsertsMark (marks_below f n) mark (marks_below g n)
unfolding marks_below
mark_comes f g mark zero lt gets of = absurd (omega arith)
mark_comes f g mark (suc n) lt gets of = elim (cases_eq mark.version n) [
  | inl last ↦ record {
    before = marks_below f n;
    after = [];
    was = ap (with_mark (marks_below f n)) (ap f (sym last) ∙ gets.free)
        ∙ sym (append-nil (marks_below f n));
    is =
        (let low : marks_below g n ≡ marks_below f n =
        below_same f g n (λ w less. gets.others w (λ e. omega arith)) in
        let here : g n ≡ Some mark = ap g (sym last) ∙ gets.here in
        λ i. with_mark (low i) (here i));
    lower =
        All-weaker (λ m. m.version < n) (λ m. m.version < mark.version) (λ m less. omega arith)
        (marks_below f n)
        (all_lower f n of);
    higher = All-nil (λ m. mark.version < m.version);
  }
  | inr other ↦
      (let r : InsertsMark (marks_below f n) mark (marks_below g n) =
      mark_comes f g mark n (omega arith) gets of in
      let here : g n ≡ f n = gets.others n (λ e. other (sym e)) in
      subst (λ (o : Option Mark). InsertsMark (with_mark (marks_below f n) (f n)) mark
      (with_mark (marks_below g n) o))
      (sym here)
      (push_comes (marks_below f n) (marks_below g n) mark (f n) r
      (λ m e. (let of_m = of.each n m e in omega arith))))
]
