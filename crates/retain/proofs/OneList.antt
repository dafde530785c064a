-- Marks by rising version that are the same ones are one list.
use Rattle.std.proofs.Common.{◌≡◌, zero, suc, ◌<◌, ◌⊎◌, inl, inr, List, [], ◌∷◌, get_or, refl, sym, ap, subst, ◌∙◌, arith}
use Rattle.std.specs.List.{Contains}
use Rattle.std.specs.List.Sorted.{IsPermutation}
use Rattle.std.proofs.lemmas.List.Sorted.{IsPermutation-refl, IsPermutation-sym, IsPermutation-trans, Contains-permutation}
use Rattle.history_model.specs.declared.histories.Mark.{Mark}
use Rattle.retain.specs.Retained.{AreRising, with_fallen}
use Rattle.retain.specs.Statements.{AllHeldLeavesMarks, AllMarksAreOne}

first_or_later : (x z : Mark) (xs : List Mark) → Contains (x ∷ xs) z → (x ≡ z) ⊎ Contains xs z
first_or_later x z xs (zero, lt, e) = inl e
first_or_later x z xs (suc k, lt, e) = inr (k, omega arith, e)

above : (x z : Mark) (xs : List Mark) → AreRising (x ∷ xs) → Contains xs z → x.version < z.version
above x z xs rising (k, lt, e) =
    let less : x.version < (get_or xs k z).version =
    rising 0 (suc k) z (omega arith) (omega arith) in
    subst (λ (y : Mark). x.version < y.version) e less

rest_rises : (x : Mark) (xs : List Mark) → AreRising (x ∷ xs) → AreRising xs
rest_rises x xs rising i j d low high = rising (suc i) (suc j) d (omega arith) (omega arith)

later : (x z : Mark) (xs : List Mark) → Contains xs z → Contains (x ∷ xs) z
later x z xs (k, lt, e) = (suc k, omega arith, e)

rest_has : (x y : Mark) (xs ys : List Mark) → x ≡ y → AreRising (x ∷ xs)
    → ((z : Mark) → Contains (x ∷ xs) z → Contains (y ∷ ys) z) → (z : Mark) → Contains xs z
    → Contains ys z
rest_has x y xs ys same rising into z there =
    elim (first_or_later y z ys (into z (later x z xs there))) [
      | inl first ↦ absurd (
          let high = above x z xs rising there in
          let one : x.version ≡ z.version =
          ap (λ (m : Mark). m.version) (same ∙ first) in omega (arith, high, one))
      | inr rest ↦ rest
    ]

same_first : (x y : Mark) (xs ys : List Mark) → AreRising (x ∷ xs) → AreRising (y ∷ ys)
    → Contains (y ∷ ys) x
    → Contains (x ∷ xs) y → x ≡ y
same_first x y xs ys rx ry a b = elim (first_or_later y x ys a) [
  | inl e ↦ sym e
  | inr low ↦ elim (first_or_later x y xs b) [
    | inl e ↦ e
    | inr high ↦ absurd
        (let p = above y x ys ry low in let q = above x y xs rx high in omega (arith, p, q))
  ]
]

-- what both have, each has at the same place
pub same_marks : (xs ys : List Mark) → AreRising xs → AreRising ys
    → ((z : Mark) → Contains xs z → Contains ys z)
    → ((z : Mark) → Contains ys z → Contains xs z) → xs ≡ ys
same_marks [] [] rx ry into back = refl
same_marks [] (y ∷ ys) rx ry into back =
    absurd (let c = back y (0, omega arith, refl) in let lt = c.1 in omega arith)
same_marks (x ∷ xs) [] rx ry into back =
    absurd (let c = into x (0, omega arith, refl) in let lt = c.1 in omega arith)
same_marks (x ∷ xs) (y ∷ ys) rx ry into back =
    let first : x ≡ y =
    same_first x y xs ys rx ry (into x (0, omega arith, refl))
    (back y (0, omega arith, refl)) in
    let rest : xs ≡ ys =
    same_marks xs ys (rest_rises x xs rx) (rest_rises y ys ry)
    (rest_has x y xs ys first rx into) (rest_has y x ys xs (sym first) ry back) in
    λ t. first t ∷ rest t

one_rising : (all a b : List Mark) → AreRising a → AreRising b → IsPermutation all a
    → IsPermutation all b → a ≡ b
one_rising all a b ra rb pa pb =
    let ab : IsPermutation a b = IsPermutation-trans a all b (IsPermutation-sym all a pa) pb in
    same_marks a b ra rb (λ z. Contains-permutation a b z ab)
    (λ z. Contains-permutation b a z (IsPermutation-sym a b ab))

pub one_list : AllMarksAreOne
one_list keep records forgot a b of_a of_b =
    one_rising (with_fallen keep records forgot) a b of_a.rising of_b.rising of_a.items of_b.items

pub marks_by_hand : AllHeldLeavesMarks
marks_by_hand records forgot marks rising all =
    one_rising forgot marks forgot all.rising rising all.items (IsPermutation-refl forgot)
