-- Marks that are sorted by their moments are still of different versions.
use Rattle.std.proofs.Common.{◌≡◌, ◌≢◌, ℕ, zero, suc, ◌+◌, ◌-◌, ◌<◌, ◌≤◌, List, [], ◌∷◌, length, get_or, refl, sym, ap, subst, inl, inr, ◌⊎◌, arith}
use Rattle.std.specs.List.{AllPairs, Contains, sum_by}
use Rattle.std.specs.List.Sorted.{IsNonDecreasingBy}
use Rattle.std.specs.Prelude.{IsPermutation}
use Rattle.std.proofs.lemmas.Bool.{cases_order}
use Rattle.std.proofs.lemmas.List.Sums.{sum_by-cons}
use Rattle.std.proofs.lemmas.List.Sorted.{Contains-permutation, IsPermutation-sym, sum_by-IsPermutation}
use Rattle.history_model.specs.declared.histories.Mark.{Mark}
use Rattle.dag_answers.specs.Replays.{AreDue}

abbrev Rise : List Mark → Type 0
Rise marks = AllPairs (λ (a b : Mark). a.version < b.version) marks

rise_below : (m : Mark) (ms : List Mark) → Rise (m ∷ ms) → Rise ms
rise_below m ms rise = λ i j d lt within.
    rise (suc i) (suc j) d (omega (arith, lt)) (omega (arith, within))

-- ---- how many marks are of a version

module _ (v : ℕ) where
  abbrev is_of : Mark → ℕ
  is_of m = 1 - ((m.version - v) + (v - m.version))

  one_in : (ms : List Mark) (i : ℕ) (d : Mark) → i < length ms → (get_or ms i d).version ≡ v
      → 1 ≤ sum_by is_of ms
  one_in [] i d lt is = absurd (omega (arith, lt))
  one_in (m ∷ ms) zero d lt is = let all = sum_by-cons is_of m ms in omega (arith, all, is)
  one_in (m ∷ ms) (suc i) d lt is =
      let rest = one_in ms i d (omega (arith, lt)) is in
      let all = sum_by-cons is_of m ms in
      omega (arith, all, rest)

  two_in : (ms : List Mark) (i k : ℕ) (d : Mark) → i < k → k < length ms
      → (get_or ms i d).version ≡ v → (get_or ms k d).version ≡ v → 2 ≤ sum_by is_of ms
  two_in [] i k d less lt one two = absurd (omega (arith, lt))
  two_in (m ∷ ms) i zero d less lt one two = absurd (omega (arith, less))
  two_in (m ∷ ms) zero (suc k) d less lt one two =
      let rest = one_in ms k d (omega (arith, lt)) two in
      let all = sum_by-cons is_of m ms in
      omega (arith, all, rest, one)
  two_in (m ∷ ms) (suc i) (suc k) d less lt one two =
      let rest = two_in ms i k d (omega (arith, less)) (omega (arith, lt)) one two in
      let all = sum_by-cons is_of m ms in
      omega (arith, all, rest)

  none_in : (ms : List Mark) → ((i : ℕ) (d : Mark) → i < length ms → v < (get_or ms i d).version)
      → sum_by is_of ms ≡ 0
  none_in [] over = refl
  none_in (m ∷ ms) over =
      let rest = none_in ms (λ i d lt. over (suc i) d (omega (arith, lt))) in
      let first = over 0 m (omega arith) in
      let all = sum_by-cons is_of m ms in
      omega (arith, all, rest, first)

  few_more : (m : Mark) (ms : List Mark) → Rise (m ∷ ms) → sum_by is_of ms ≤ 1
      → sum_by is_of (m ∷ ms) ≤ 1
  few_more m ms rise rest = go (cases_order m.version v)
    where
      all : sum_by is_of (m ∷ ms) ≡ is_of m + sum_by is_of ms
      all = sum_by-cons is_of m ms

      -- those behind it are of later versions
      alone : v ≤ m.version → sum_by is_of (m ∷ ms) ≤ 1
      alone past =
          let over = none_in ms (λ i d lt.
          let up = rise 0 (suc i) d (omega arith) (omega (arith, lt)) in omega (arith, up, past)) in
          omega (arith, all, over)

      go : (m.version ≡ v) ⊎ ((m.version < v) ⊎ (v < m.version)) → sum_by is_of (m ∷ ms) ≤ 1
      go (inl same) = alone (omega (arith, same))
      go (inr (inl less)) = omega (arith, all, rest, less)
      go (inr (inr past)) = alone (omega (arith, past))

  few_in : (ms : List Mark) → Rise ms → sum_by is_of ms ≤ 1
  few_in [] rise = omega arith
  few_in (m ∷ ms) rise = few_more m ms rise (few_in ms (rise_below m ms rise))

-- no two of the sorted ones are of one version
once : (marks due : List Mark) → Rise marks → IsPermutation marks due
    → AllPairs (λ (a b : Mark). a.version ≢ b.version) due
once marks due rise moved = λ i k d less lt same.
    let v = (get_or due k d).version in
    let two = two_in v due i k d less lt same refl in
    let few = few_in v marks rise in
    let as_many = sum_by-IsPermutation (is_of v) marks due moved in
    omega (arith, two, few, as_many)

pub sorted_due : (marks due : List Mark) → Rise marks → IsPermutation marks due
    → IsNonDecreasingBy (λ (m : Mark). m.at) due → AreDue marks due
sorted_due marks due rise moved sorted = record {
  rising = λ i k d less lt. sorted i k d (omega (arith, less)) lt;
  same = λ m has. Contains-permutation due marks m (IsPermutation-sym marks due moved) has;
  all = λ m has. Contains-permutation marks due m moved has;
  once = once marks due rise moved;
}

-- ---- two lists of rising versions with the same marks are one

first_below : (m : Mark) (ms : List Mark) → Rise (m ∷ ms) → (x : Mark) → Contains ms x
    → m.version < x.version
first_below m ms rise x (i, lt, is) =
    subst (λ (y : Mark). m.version < y.version) is
    (rise 0 (suc i) x (omega arith) (omega (arith, lt)))

in_front : (x y : Mark) (ys : List Mark) → Contains (y ∷ ys) x → (y ≡ x) ⊎ Contains ys x
in_front x y ys (zero, lt, is) = inl is
in_front x y ys (suc i, lt, is) = inr (i, omega (arith, lt), is)

behind : (x y : Mark) (ys : List Mark) → Contains ys x → Contains (y ∷ ys) x
behind x y ys (i, lt, is) = (suc i, omega (arith, lt), is)

at_first : (x : Mark) (xs : List Mark) → Contains (x ∷ xs) x
at_first x xs = (0, omega arith, refl)

same_first : (x y : Mark) (xs ys : List Mark) → Rise (x ∷ xs) → Rise (y ∷ ys)
    → Contains (y ∷ ys) x → Contains (x ∷ xs) y → x ≡ y
same_first x y xs ys of_x of_y in_y in_x = go (in_front x y ys in_y) (in_front y x xs in_x)
  where
    go : (y ≡ x) ⊎ Contains ys x → (x ≡ y) ⊎ Contains xs y → x ≡ y
    go (inl same) either = sym same
    go (inr there) (inl same) = same
    go (inr there) (inr here) =
        let up = first_below y ys of_y x there in
        let down = first_below x xs of_x y here in
        absurd (omega (arith, up, down))

same_rest : (x : Mark) (xs ys : List Mark) → Rise (x ∷ xs)
    → ((m : Mark) → Contains (x ∷ xs) m → Contains (x ∷ ys) m)
    → (m : Mark) → Contains xs m → Contains ys m
same_rest x xs ys of_x to m there = go (in_front m x ys (to m (behind m x xs there)))
  where
    go : (x ≡ m) ⊎ Contains ys m → Contains ys m
    go (inr here) = here
    go (inl same) =
        let up = first_below x xs of_x m there in
        let at = ap (λ (k : Mark). k.version) same in
        absurd (omega (arith, up, at))

pub same_rising : (xs ys : List Mark) → Rise xs → Rise ys
    → ((m : Mark) → Contains xs m → Contains ys m)
    → ((m : Mark) → Contains ys m → Contains xs m) → xs ≡ ys
same_rising [] [] of_x of_y to back = refl
same_rising [] (y ∷ ys) of_x of_y to back =
    absurd (let listed = back y (at_first y ys) in let lt = listed.1 in omega (arith, lt))
same_rising (x ∷ xs) [] of_x of_y to back =
    absurd (let listed = to x (at_first x xs) in let lt = listed.1 in omega (arith, lt))
same_rising (x ∷ xs) (y ∷ ys) of_x of_y to back =
    let first : x ≡ y =
    same_first x y xs ys of_x of_y (to x (at_first x xs)) (back y (at_first y ys)) in
    let of_first : Rise (x ∷ ys) = subst (λ (z : Mark). Rise (z ∷ ys)) (sym first) of_y in
    subst (λ (z : Mark). x ∷ xs ≡ z ∷ ys) first
    (ap (λ (zs : List Mark). x ∷ zs)
    (same_rising xs ys (rise_below x xs of_x) (rise_below y ys of_y)
    (same_rest x xs ys of_x
    (λ m listed. subst (λ (z : Mark). Contains (z ∷ ys) m) (sym first) (to m listed)))
    (same_rest x ys xs of_first
    (λ m listed. back m (subst (λ (z : Mark). Contains (z ∷ ys) m) first listed)))))
