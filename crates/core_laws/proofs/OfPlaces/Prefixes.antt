-- Sums of the first terms, kept in a list.
use Rattle.std.proofs.Common.{◌≡◌, ℕ, ◌+◌, ◌*◌, ◌<◌, ◌≤◌, List, length, get_or, set, ap, ◌∙◌, ◌⊎◌, inl, inr, arith, add-one}
use Rattle.std.proofs.lemmas.List.{get_or-set_same, get_or-set_other, length-set}
use Rattle.std.proofs.lemmas.Nat.{mul-le}
use Rattle.std.proofs.lemmas.Bool.{cases_order}
use Rattle.node_words.specs.Sums.{sum_below, sum_below-zero, sum_below-suc, sum_below-le}

-- up to the first n terms
pub record EndsTo (n first : ℕ) (f : ℕ → ℕ) (ends : List ℕ) : Type 0 where
  pub long : length ends ≡ 12
  pub at : (k : ℕ) → k ≤ n → get_or ends k 0 ≡ first + sum_below k f

next_at : (n first v : ℕ) (f : ℕ → ℕ) (ends : List ℕ) → n < 11 → EndsTo n first f ends
    → v ≡ get_or ends n 0 + f n → (k : ℕ) → k ≤ n + 1 → (k ≡ n + 1) ⊎ ((k < n + 1) ⊎ (n + 1 < k))
    → get_or (set ends (n + 1) v) k 0 ≡ first + sum_below k f
next_at n first v f ends small to is k le (inl last) =
    let long = to.long in
    let here : get_or (set ends (n + 1) v) (n + 1) 0 ≡ v =
    get_or-set_same ends (n + 1) v 0 (omega (arith, long, small)) in
    let before = to.at n (omega arith) in
    let step : sum_below (n + 1) f ≡ sum_below n f + f n =
    ap (λ m. sum_below m f) (add-one n) ∙ sum_below-suc n f in
    rw last (omega (arith, here, before, step, is))
next_at n first v f ends small to is k le (inr (inl less)) =
    get_or-set_other ends (n + 1) k v 0 (λ same. omega (arith, same, less))
    ∙ to.at k (omega (arith, less))
next_at n first v f ends small to is k le (inr (inr more)) = absurd (omega (arith, le, more))

pub ends_more : (n first v : ℕ) (f : ℕ → ℕ) (ends : List ℕ) → n < 11 → EndsTo n first f ends
    → v ≡ get_or ends n 0 + f n → EndsTo (n + 1) first f (set ends (n + 1) v)
ends_more n first v f ends small to is =
    record {
      long = length-set ends (n + 1) v
          ∙ to.long;
      at = λ k le. next_at n first v f ends small to is k le (cases_order k (n + 1));
    }

pub ends_small : (n first m : ℕ) (f : ℕ → ℕ) (ends : List ℕ) (k : ℕ) → EndsTo n first f ends → k ≤ n
    → n ≤ 11 → ((i : ℕ) → f i ≤ m) → get_or ends k 0 ≤ first + 11 * m
ends_small n first m f ends k to le few each =
    let at = to.at k le in
    let sum : sum_below k f ≤ k * m = sum_below-le k m f (λ i lt. each i) in
    let whole : k * m ≤ 11 * m = mul-le k m 11 m (omega (arith, le, few)) (omega arith) in
    omega (arith, at, sum, whole)

pub ends_none : (first : ℕ) (f : ℕ → ℕ) (ends : List ℕ) → length ends ≡ 12 → get_or ends 0 0 ≡ first
    → EndsTo 0 first f ends
ends_none first f ends long here =
    let none = sum_below-zero f in
    record {
      long = long;
      at = λ k le.
          (let zero_is : k ≡ 0 = omega (arith, le) in rw zero_is (omega (arith, here, none)));
    }
