-- A mask of the bytes of a block that are the one, shifted down to the place from which it is
-- sought.
use Rattle.std.proofs.Common.{◌≡◌, ℕ, ◌+◌, ◌-◌, ◌/◌, ◌%◌, ◌^◌, ◌<◌, ◌≤◌, List, length, map, get_or, eqb, cond, Bool, true, false, inl, inr, refl, ap, sym, ◌∙◌, arith, w64}
use lib.Count.{count_trailing_zeros}
use lib.Lanes.{mask_l}
use Rattle.std.proofs.lemmas.Bool.{eqb-true, eq-eqb, cases_lt}
use Rattle.std.proofs.lemmas.List.{get_or-map, get_or_past, length-map}
use Rattle.std.proofs.lemmas.Nat.{shr-shr}
use Rattle.std.proofs.lemmas.Nat.Bits.{bit_at-zero, bit_at-trailing_zeros}
use Rattle.std.proofs.lemmas.Simd.{bit_mask_l}
use Rattle.one_store.specs.entries.Tags.{LacksByte, IsFirstPlace}

-- the bytes that are the one
abbrev pub hits_in : List ℕ → ℕ → ℕ
hits_in row byte = mask_l (map (λ x. eqb x byte) row)

-- bit i of the shifted mask is the answer of the byte that stands i places further
hit : (row : List ℕ) (from byte i : ℕ) → from + i < length row
    → hits_in row byte / 2 ^ from / 2 ^ i % 2 ≡ cond (eqb (get_or row (from + i) 0) byte) 1 0
hit row from byte i lt =
    ap (λ n. n % 2) (shr-shr (hits_in row byte) from i)
    ∙ bit_mask_l (map (λ x. eqb x byte) row) (from + i)
    ∙ ap (λ b. cond b 1 0) (get_or-map (λ x. eqb x byte) row (from + i) 0 false lt)

one_true : (b : Bool) → ◌≡◌ {A = ℕ} (cond b 1 0) 1 → b ≡ true
one_true true h = refl
one_true false h = absurd (omega (arith, h))

-- the bit of a byte that is the one
set_bit : (row : List ℕ) (from byte i hits : ℕ) → length row ≡ 16
    → hits ≡ hits_in row byte / 2 ^ from → from ≤ i → i < 16 → get_or row i 0 ≡ byte
    → hits / 2 ^ (i - from) % 2 ≡ 1
set_bit row from byte i hits long e low high q =
    let at : from + (i - from) ≡ i = omega (arith, low) in
    ap (λ n. n / 2 ^ (i - from) % 2) e
    ∙ hit row from byte (i - from) (omega (arith, at, high, long))
    ∙ ap (λ b. cond b 1 0)
    (eq-eqb (get_or row (from + (i - from)) 0) byte (ap (λ j. get_or row j 0) at ∙ q))

-- a bit that is set is a place of the block
set_inside : (row : List ℕ) (from byte i hits : ℕ) → length row ≡ 16
    → hits ≡ hits_in row byte / 2 ^ from → hits / 2 ^ i % 2 ≡ 1 → from + i < 16
set_inside row from byte i hits long e set = elim (cases_lt (from + i) 16) [
  | inl less ↦ less
  | inr past ↦
      (let none = ap (λ n. n / 2 ^ i % 2) e ∙ ap (λ n. n % 2) (shr-shr (hits_in row byte) from i)
      ∙ bit_mask_l (map (λ x. eqb x byte) row) (from + i)
      ∙ ap (λ b. cond b 1 0)
      (get_or_past (map (λ x. eqb x byte) row) (from + i) false
      (omega (arith, length-map row (λ x. eqb x byte), long, past))) in
      absurd (omega (arith, set, none)))
]

pub no_hits : (row : List ℕ) (from byte hits : ℕ) → length row ≡ 16
    → hits ≡ hits_in row byte / 2 ^ from → hits ≡ 0 → LacksByte row from 16 byte
no_hits row from byte hits long e z i low high q =
    absurd (omega (
      arith,
      set_bit row from byte i hits long e low high q,
      ap
          (λ n. n / 2 ^ (i - from) % 2) z,
      bit_at-zero (i - from),
    ))

pub first_hit : (row : List ℕ) (from byte hits : ℕ) → length row ≡ 16
    → hits ≡ hits_in row byte / 2 ^ from → 0 < hits → hits < 2 ^ 64
    → IsFirstPlace row from 16 byte (from + count_trailing_zeros 64 hits)
first_hit row from byte hits long e some fits =
    let place : ℕ = count_trailing_zeros 64 hits in
    let found = bit_at-trailing_zeros w64 hits some fits in
    let inside = set_inside row from byte place hits long e found.1 in
    record {
      at_least = omega arith;
      below = inside;
      there = eqb-true (get_or row (from + place) 0) byte
          (one_true (eqb (get_or row (from + place) 0) byte)
          (sym (hit row from byte place (omega (arith, inside, long)))
          ∙ ap (λ n. n / 2 ^ place % 2) (sym e) ∙ found.1));
      earlier = λ i low high q. absurd
          (omega (
            arith,
            set_bit row from byte i hits long e low
                (omega (arith, high, inside)) q,
            found.2 (i - from) (omega (arith, low, high)),
          ));
    }
