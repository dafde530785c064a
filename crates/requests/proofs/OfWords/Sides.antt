-- The sides that a run's words can name.
use Rattle.std.proofs.Common.{◌≡◌, ℕ, zero, suc, ◌^◌, ◌<◌, ◌≤◌, Bool, true, false, if◌then◌else◌, List, [], ◌∷◌, Option, Some, None, refl, sym, subst, arith}
use Rattle.std.specs.Prelude.{IsSome, IfSome, IsTrue, ◌↔◌, ◌*◌, ◌==◌, ◌||◌, nat_le}
use Rattle.std.specs.List.{list_any}
use Rattle.std.proofs.lemmas.Bool.{eqb-true, leb-true}
use lib.Pow.{pow_mono}
use Rattle.vw_cell.specs.Sides.{sides, is_side}
use Rattle.requests.specs.Words.{exponent_of, store_of}

-- the numbers of these that are n are at most 4,096
abbrev AreLow : List ℕ → Type 0
AreLow [] = Unit {0}
AreLow (a ∷ others) = (a ≤ 4096) × AreLow others

first_low : (a n : ℕ) (test rest : Bool) → (a == n) ≡ test → a ≤ 4096 → test || rest ≡ true
    → (rest ≡ true → n ≤ 4096) → n ≤ 4096
first_low a n true rest is low any later = let same = eqb-true a n is in omega (arith, same, low)
first_low a n false rest is low any later = later any

low_of : (n : ℕ) (numbers : List ℕ) → AreLow numbers → list_any (λ side. side == n) numbers ≡ true
    → n ≤ 4096
low_of n [] low any = absurd (let no : ⊥ = cc in no)
low_of n (a ∷ others) low any =
    first_low a n (a == n) (list_any (λ side. side == n) others) refl low.0 any
    (λ rest. low_of n others low.1 rest)

side_low : (n : ℕ) → IsTrue (is_side n) → n ≤ 4096
side_low n is =
    low_of n sides (
      omega arith,
      (
        omega arith,
        (
          omega arith,
          (
            omega arith,
            (
              omega arith,
              (
                omega arith,
                (
                  omega arith,
                  (
                    omega arith,
                    (omega arith, (omega arith, (omega arith, tt))),
                  ),
                ),
              ),
            ),
          ),
        ),
      ),
    ) is

-- a power of two that is a side
power_made : (s : ℕ) → IsTrue (is_side (2 ^ s)) → Some s ≡ exponent_of (2 ^ s)
power_made zero is = absurd (let no : ⊥ = cc in no)
power_made (suc zero) is = absurd (let no : ⊥ = cc in no)
power_made (suc (suc zero)) is = refl
power_made (suc (suc (suc zero))) is = refl
power_made (suc (suc (suc (suc zero)))) is = refl
power_made (suc (suc (suc (suc (suc zero))))) is = refl
power_made (suc (suc (suc (suc (suc (suc zero)))))) is = refl
power_made (suc (suc (suc (suc (suc (suc (suc zero))))))) is = refl
power_made (suc (suc (suc (suc (suc (suc (suc (suc zero)))))))) is = refl
power_made (suc (suc (suc (suc (suc (suc (suc (suc (suc zero))))))))) is = refl
power_made (suc (suc (suc (suc (suc (suc (suc (suc (suc (suc zero)))))))))) is = refl
power_made (suc (suc (suc (suc (suc (suc (suc (suc (suc (suc (suc zero))))))))))) is = refl
power_made (suc (suc (suc (suc (suc (suc (suc (suc (suc (suc (suc (suc zero)))))))))))) is = refl
power_made (suc (suc (suc (suc (suc (suc (suc (suc (suc (suc (suc (suc (suc s))))))))))))) is =
    let thirteen : 13 ≤ suc (suc (suc (suc (suc (suc (suc (suc (suc (suc (suc (suc (suc s)))))))))))) = omega arith in
    let large : 2 ^ 13 ≤ 2 ^ (suc (suc (suc (suc (suc (suc (suc (suc (suc (suc (suc (suc (suc s))))))))))))) = pow_mono thirteen in
    let small =
    side_low (2 ^
    (suc (suc (suc (suc (suc (suc (suc (suc (suc (suc (suc (suc (suc s)))))))))))))) is in
    absurd (omega (arith, large, small))

-- a number that is no side
abbrev pub chosen : Bool → ℕ → Option ℕ → Option ℕ
chosen b s others = if b then Some s else others

none_made : (a b c d e f g h i j k more : Bool)
    → (IsTrue (a || (b || (c || (d || (e || (f || (g || (h || (i || (j || (k || more))))))))))) → ⊥)
    → chosen a 2
    (chosen b 3 (chosen c 4
    (chosen d 5 (chosen e 6
    (chosen f 7 (chosen g 8
    (chosen h 9 (chosen i 10 (chosen j 11 (chosen k 12 None)))))))))) ≡ None
none_made true b c d e f g h i j k more other = absurd (other refl)
none_made false true c d e f g h i j k more other = absurd (other refl)
none_made false false true d e f g h i j k more other = absurd (other refl)
none_made false false false true e f g h i j k more other = absurd (other refl)
none_made false false false false true f g h i j k more other = absurd (other refl)
none_made false false false false false true g h i j k more other = absurd (other refl)
none_made false false false false false false true h i j k more other = absurd (other refl)
none_made false false false false false false false true i j k more other = absurd (other refl)
none_made false false false false false false false false true j k more other = absurd (other refl)
none_made false false false false false false false false false true k more other =
    absurd (other refl)
none_made false false false false false false false false false false true more other =
    absurd (other refl)
none_made false false false false false false false false false false false more other = refl

pub side_made : (r : Option ℕ) (n : ℕ) → (IsSome r ↔ IsTrue (is_side n)) → IfSome r (λ s. 2 ^ s ≡ n)
    → r ≡ exponent_of n
side_made None n exactly value =
    sym
    (none_made (4 == n) (8 == n) (16 == n) (32 == n) (64 == n) (128 == n) (256 == n) (512 == n)
    (1024 == n) (2048 == n) (4096 == n) _
    (λ is. (let some = exactly.1 is in let no : ⊥ = cc in no)))
side_made (Some s) n exactly value =
    subst (λ (m : ℕ). Some s ≡ exponent_of m) value
    (power_made s (subst (λ (m : ℕ). IsTrue (is_side m)) (sym value) (exactly.0 refl)))

-- ---- four times a side

pub fourfold_made : (s : ℕ) → 2 ≤ s → s ≤ 10 → exponent_of (2 ^ s * 4) ≡ store_of true s
fourfold_made zero low high = absurd (omega (arith, low))
fourfold_made (suc zero) low high = absurd (omega (arith, low))
fourfold_made (suc (suc zero)) low high = refl
fourfold_made (suc (suc (suc zero))) low high = refl
fourfold_made (suc (suc (suc (suc zero)))) low high = refl
fourfold_made (suc (suc (suc (suc (suc zero))))) low high = refl
fourfold_made (suc (suc (suc (suc (suc (suc zero)))))) low high = refl
fourfold_made (suc (suc (suc (suc (suc (suc (suc zero))))))) low high = refl
fourfold_made (suc (suc (suc (suc (suc (suc (suc (suc zero)))))))) low high = refl
fourfold_made (suc (suc (suc (suc (suc (suc (suc (suc (suc zero))))))))) low high = refl
fourfold_made (suc (suc (suc (suc (suc (suc (suc (suc (suc (suc zero)))))))))) low high = refl
fourfold_made (suc (suc (suc (suc (suc (suc (suc (suc (suc (suc (suc s))))))))))) low high =
    absurd (omega (arith, high))

pub fourfold_none : (s : ℕ) → 10 < s → None ≡ store_of true s
fourfold_none s over = let no : nat_le s 10 ≡ false = go (nat_le s 10) refl in rw no refl
  where
    go : (b : Bool) → nat_le s 10 ≡ b → nat_le s 10 ≡ false
    go true is = absurd (let few : s ≤ 10 = leb-true s 10 is in omega (arith, few, over))
    go false is = is
