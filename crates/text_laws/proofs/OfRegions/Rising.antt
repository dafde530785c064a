-- Changes by rising moments: equal items are one list, as far as a cell goes.
use Rattle.std.proofs.Common.{◌≡◌, ℕ, ◌+◌, ◌<◌, ◌≤◌, ◌==◌, Bool, true, false, List, [], ◌∷◌, filter, refl, sym, ap, ◌∙◌, arith, inl, inr, ◌⊎◌}
use Rattle.std.specs.Prelude.{⊤, if◌then◌else◌, cond, sum_by}
use Rattle.std.proofs.lemmas.Bool.{cases_order, eqb-true}
use Rattle.std.proofs.lemmas.Bool.Decides.{nat_tests}
use Rattle.std.proofs.lemmas.List.Sums.{sum_by-cons}
use Rattle.vw_cell.specs.declared.cells.Cell.{Cell}
use Rattle.history_model.specs.Contents.{Content}
use Rattle.history_model.specs.declared.histories.Record.{Record}
use Rattle.conformance.specs.Shown.{Accepted, SameItems, numbered}
use Rattle.text_laws.specs.regions.Runs.{set_behind, set_by}

-- each at a later moment than the one before, and none below this one
abbrev pub IsRising : ℕ → List Accepted → Type 0
IsRising low [] = ⊤
IsRising low (c ∷ more) = (low ≤ c.at) × IsRising (c.at + 1) more

pub rising_from : (low lower : ℕ) (items : List Accepted) → lower ≤ low → IsRising low items
    → IsRising lower items
rising_from low lower [] le rising = tt
rising_from low lower (c ∷ more) le rising = (let l = rising.0 in omega (arith, le, l), rising.1)

pub numbered_rises : (n : ℕ) (records : List Record) → IsRising n (numbered n records)
numbered_rises n [] = tt
numbered_rises n (r ∷ more) = (omega arith, numbered_rises (n + 1) more)

pub filter_rises : (test : Accepted → Bool) (low : ℕ) (items : List Accepted) → IsRising low items
    → IsRising low (filter test items)
filter_rises test low [] rising = tt
filter_rises test low (c ∷ more) rising = go (test c) (filter_rises test (c.at + 1) more rising.1)
  where
    go : (b : Bool) → IsRising (c.at + 1) (filter test more)
        → IsRising low (cond b (c ∷ filter test more) (filter test more))
    go true rest = (rising.0, rest)
    go false rest = rising_from (c.at + 1) low (filter test more)
        (let l = rising.0 in omega (arith, l)) rest

-- a weight at one moment alone
abbrev only : (Accepted → ℕ) → ℕ → Accepted → ℕ
only f n c = if c.at == n then f c else 0

only_other : (f : Accepted → ℕ) (n : ℕ) (c : Accepted) → n < c.at → only f n c ≡ 0
only_other f n c over = go (c.at == n) refl
  where
    go : (b : Bool) → (c.at == n) ≡ b → (if b then f c else 0) ≡ 0
    go false is = refl
    go true is = absurd (let same = eqb-true c.at n is in omega (arith, same, over))

only_same : (f : Accepted → ℕ) (n : ℕ) (c : Accepted) → c.at ≡ n → only f n c ≡ f c
only_same f n c same = let is : (c.at == n) ≡ true = grind (arith, nat_tests) in rw is refl

none_there : (f : Accepted → ℕ) (n low : ℕ) (items : List Accepted) → n < low → IsRising low items
    → sum_by (only f n) items ≡ 0
none_there f n low [] below rising = refl
none_there f n low (c ∷ more) below rising =
    let here = only_other f n c (let l = rising.0 in omega (arith, l, below)) in
    let behind =
    none_there f n (c.at + 1) more (let l = rising.0 in omega (arith, l, below)) rising.1 in
    sum_by-cons (only f n) c more ∙ (omega (arith, here, behind))

first_there : (f : Accepted → ℕ) (low : ℕ) (c : Accepted) (more : List Accepted)
    → IsRising low (c ∷ more) → sum_by (only f c.at) (c ∷ more) ≡ f c
first_there f low c more rising =
    let here = only_same f c.at c refl in
    let behind = none_there f c.at (c.at + 1) more (omega arith) rising.1 in
    sum_by-cons (only f c.at) c more ∙ (omega (arith, here, behind))

-- two equal lists of items have the same first moment
first_moment : (low lower : ℕ) (x y : Accepted) (xs ys : List Accepted) → IsRising low (x ∷ xs)
    → IsRising lower (y ∷ ys) → SameItems (x ∷ xs) (y ∷ ys) → x.at < y.at → ⊥
first_moment low lower x y xs ys of_x of_y same less =
    let one : sum_by (only (λ c. 1) x.at) (x ∷ xs) ≡ 1 = first_there (λ c. 1) low x xs of_x in
    let none : sum_by (only (λ c. 1) x.at) (y ∷ ys) ≡ 0 =
    none_there (λ c. 1) x.at y.at (y ∷ ys) less (omega arith, of_y.1) in
    let both = same.weighs (only (λ c. 1) x.at) in
    omega (arith, one, none, both)

turned : {X : Type 0} (xs ys : List X) → SameItems xs ys → SameItems ys xs
turned xs ys same = record { weighs = λ f. sym (same.weighs f) }

same_weight : (low lower : ℕ) (x y : Accepted) (xs ys : List Accepted) → IsRising low (x ∷ xs)
    → IsRising lower (y ∷ ys) → SameItems (x ∷ xs) (y ∷ ys) → x.at ≡ y.at → (f : Accepted → ℕ)
    → f x ≡ f y
same_weight low lower x y xs ys of_x of_y same at f =
    sym (first_there f low x xs of_x) ∙ same.weighs (only f x.at)
    ∙ ap (λ n. sum_by (only f n) (y ∷ ys)) at ∙ first_there f lower y ys of_y

abbrev as_number : Bool → ℕ
as_number true = 1
as_number false = 0

same_bool : (a b : Bool) → as_number a ≡ as_number b → a ≡ b
same_bool true true same = refl
same_bool true false same = absurd (let no : 1 ≡ 0 = same in omega (arith, no))
same_bool false true same = absurd (let no : 0 ≡ 1 = same in omega (arith, no))
same_bool false false same = refl

none_and_some : (y : Accepted) (ys : List Accepted) → SameItems [] (y ∷ ys) → ⊥
none_and_some y ys same =
    let both = same.weighs (λ c. 1) in let more = sum_by-cons
    (λ (c : Accepted). 1) y ys in let none : sum_by (λ (c : Accepted). 1) [] ≡ 0 = refl in omega
    (arith, both, more, none)

pub same_set : (models : List Content) (p : Cell) (low lower : ℕ) (xs ys : List Accepted)
    → IsRising low xs → IsRising lower ys → SameItems xs ys → (before : Bool)
    → set_by models p before xs ≡ set_by models p before ys
same_set models p low lower [] [] of_x of_y same before = refl
same_set models p low lower [] (y ∷ ys) of_x of_y same before = absurd (none_and_some y ys same)
same_set models p low lower (x ∷ xs) [] of_x of_y same before =
    absurd (none_and_some x xs (turned (x ∷ xs) [] same))
same_set models p low lower (x ∷ xs) (y ∷ ys) of_x of_y same before =
    go (cases_order x.at y.at) (same_set models p (x.at + 1) (y.at + 1) xs ys of_x.1 of_y.1)
  where
    go : (x.at ≡ y.at) ⊎ ((x.at < y.at) ⊎ (y.at < x.at))
        → (SameItems xs ys → (b : Bool) → set_by models p b xs ≡ set_by models p b ys)
        → set_by models p before (x ∷ xs) ≡ set_by models p before (y ∷ ys)
    go (inr (inl less)) more = absurd (first_moment low lower x y xs ys of_x of_y same less)
    go (inr (inr over)) more = absurd
        (first_moment lower low y x ys xs of_y of_x (turned (x ∷ xs) (y ∷ ys) same) over)
    go (inl at) more =
        let heads = same_weight low lower x y xs ys of_x of_y same at in
        let rest : SameItems xs ys =
        record {
          weighs = λ f.
              (let h = heads f in let all = same.weighs f in let a = sum_by-cons f x xs in let b = sum_by-cons f y ys in omega (arith, h, all, a, b));
        } in
        let here : set_behind models p before x.entry.act ≡ set_behind models p before y.entry.act =
        same_bool _ _ (heads (λ c. as_number (set_behind models p before c.entry.act))) in
        ap (λ b. set_by models p b xs) here ∙ more rest (set_behind models p before y.entry.act)
