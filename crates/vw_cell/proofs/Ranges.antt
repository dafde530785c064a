-- Ranges of bits over several words.
use Rattle.std.proofs.Common.{◌≡◌, ◌≢◌, ℕ, ◌+◌, ◌-◌, ◌/◌, ◌%◌, ◌<◌, ◌≤◌, ◌⊎◌, inl, inr, List, Bool, ◌==◌, length, get_or, set, refl, ap, sym, ◌∙◌, arith, length-set, get_or-set_other, get_or-set_same, lit<}
use Rattle.std.specs.Int.{bit_at}
use Rattle.std.proofs.lemmas.Nat.{div-add-mod', mod_below}
use Rattle.std.proofs.lemmas.Bool.{cases_eq, cases_lt}
use Rattle.std.proofs.lemmas.List.{get_or_default}
use Rattle.vw_cell.specs.Sums.{sum_below, one_if, sum_below-add, sum_below-same, sum_below-zero}
use Rattle.vw_cell.specs.Bits.{is_set, number_set, PutsRange, PutsBits}

pub range_none : (from : ℕ) (value : Bool) (words : List ℕ) → PutsRange from from value words words
range_none from value words =
    record {
      inside = λ j low high. absurd (omega arith);
      outside =
          λ j _. refl;
      same_length = refl;
    }

-- a bit of a word that was written, and one of another word
at_word : (words : List ℕ) (at w j : ℕ) → at / 64 < length words → j / 64 ≡ at / 64
    → is_set (set words (at / 64) w) j ≡ (bit_at w (j % 64) == 1)
at_word words at w j inside same =
    let word : get_or (set words (at / 64) w) (j / 64) 0 ≡ w = rw (same, get_or-set_same) refl in
    rw word refl

other_word : (words : List ℕ) (at w j : ℕ) → at / 64 < length words → j / 64 ≢ at / 64
    → is_set (set words (at / 64) w) j ≡ is_set words j
other_word words at w j inside differs = rw get_or-set_other refl

was_word : (words : List ℕ) (at j : ℕ) → j / 64 ≡ at / 64
    → is_set words j ≡ (bit_at (get_or words (at / 64) 0) (j % 64) == 1)
was_word words at j same = ap (λ (k : ℕ). bit_at (get_or words k 0) (j % 64) == 1) same

-- a bit outside the piece keeps its value
stays : (words : List ℕ) (at piece w j : ℕ) (value : Bool) → at / 64 < length words
    → at % 64 + piece ≤ 64 → PutsBits (at % 64) piece value (get_or words (at / 64) 0) w
    → (j < at) ⊎ (at + piece ≤ j) → is_set (set words (at / 64) w) j ≡ is_set words j
stays words at piece w j value inside in_word puts off =
    elim (cases_eq (j / 64) (at / 64)) [
      | inl same ↦
          let kept : bit_at w (j % 64) ≡ bit_at (get_or words (at / 64) 0) (j % 64) =
          puts.outside (j % 64) (mod_below j 64 (lit< tt)) (place off same)
          in
          (at_word words at w j inside same ∙ ap (λ (b : ℕ). b == 1) kept
          ∙ sym (was_word words at j same))
      | inr differs ↦ other_word words at w j inside differs
    ]
  where
    place : (j < at) ⊎ (at + piece ≤ j) → j / 64 ≡ at / 64
        → (j % 64 < at % 64) ⊎ (at % 64 + piece ≤ j % 64)
    place (inl below) same = inl (omega (arith, below, same, div-add-mod' j 64, div-add-mod' at 64))
    place (inr above) same = inr (omega (arith, above, same, div-add-mod' j 64, div-add-mod' at 64))

-- a bit of the piece has the value
becomes : (words : List ℕ) (at piece w j : ℕ) (value : Bool) → at / 64 < length words
    → at % 64 + piece ≤ 64 → PutsBits (at % 64) piece value (get_or words (at / 64) 0) w
    → at ≤ j → j < at + piece → is_set (set words (at / 64) w) j ≡ value
becomes words at piece w j value inside in_word puts low high =
    let same : j / 64 ≡ at / 64 =
    omega (
      arith,
      low,
      high,
      in_word,
      div-add-mod' j 64,
      div-add-mod' at 64,
      mod_below j 64
          (lit< tt),
      mod_below at 64 (lit< tt),
    ) in
    let from_k : at % 64 ≤ j % 64 =
    omega (arith, low, same, div-add-mod' j 64, div-add-mod' at 64) in
    let to_k : j % 64 < at % 64 + piece =
    omega (arith, high, same, div-add-mod' j 64, div-add-mod' at 64) in
    at_word words at w j inside same ∙ puts.inside (j % 64) from_k to_k

-- one more piece of the range
pub range_more : (from at piece w : ℕ) (value : Bool) (old words : List ℕ) → from ≤ at
    → PutsRange from at value old words → at / 64 < length words → at % 64 + piece ≤ 64
    → PutsBits (at % 64) piece value (get_or words (at / 64) 0) w
    → PutsRange from (at + piece) value old (set words (at / 64) w)
range_more from at piece w value old words ordered done inside in_word puts =
    record {
      inside = λ j low high.
          elim (cases_lt j at) [
            | inl before ↦ stays words at piece w j value inside in_word puts (inl before)
                ∙ done.inside j low before
            | inr past ↦ becomes words at piece w j value inside in_word puts past high
          ];
      outside = λ j off. stays words at piece w j value inside in_word puts (beyond j off)
          ∙ done.outside j (still j off);
      same_length = length-set words (at / 64) w ∙ done.same_length;
    }
  where
    beyond : (j : ℕ) → (j < from) ⊎ (at + piece ≤ j) → (j < at) ⊎ (at + piece ≤ j)
    beyond j (inl below) = inl (omega (arith, below, ordered))
    beyond j (inr above) = inr above

    still : (j : ℕ) → (j < from) ⊎ (at + piece ≤ j) → (j < from) ⊎ (at ≤ j)
    still j (inl below) = inl below
    still j (inr above) = inr (omega (arith, above))

pub number_none : (words : List ℕ) (from : ℕ) → number_set words from from ≡ 0
number_none words from =
    let none : from - from ≡ 0 = omega arith in ap
    (λ (n : ℕ). sum_below n (λ i. one_if (is_set words (from + i)))) none ∙ sum_below-zero _

-- one more piece of a count
pub number_more : (words : List ℕ) (from at piece : ℕ) → from ≤ at → at % 64 + piece ≤ 64
    → number_set words from (at + piece) ≡ number_set words from at + sum_below piece
    (λ m. one_if (bit_at (get_or words (at / 64) 0) (at % 64 + m) == 1))
number_more words from at piece ordered in_word =
    let size : at + piece - from ≡ (at - from) + piece = omega (arith, ordered) in
    let parts : sum_below ((at - from) + piece) (λ i. one_if (is_set words (from + i))) ≡ number_set words from at + sum_below piece (λ m. one_if (is_set words (from + ((at - from) + m)))) =
    sum_below-add (at - from) piece (λ i. one_if (is_set words (from + i)))
    in
    let same : sum_below piece (λ m. one_if (is_set words (from + ((at - from) + m)))) ≡ sum_below piece (λ m. one_if (bit_at (get_or words (at / 64) 0) (at % 64 + m) == 1)) =
    sum_below-same piece _ _ (λ m lt. ap one_if (of_bit m lt))
    in
    ap (λ (n : ℕ). sum_below n (λ i. one_if (is_set words (from + i)))) size ∙ parts
    ∙ ap (λ (n : ℕ). number_set words from at + n) same
  where
    of_bit : (m : ℕ) → m < piece
        → is_set words (from + ((at - from) + m)) ≡
        (bit_at (get_or words (at / 64) 0) (at % 64 + m) == 1)
    of_bit m lt =
        let place : from + ((at - from) + m) ≡ at + m = omega (arith, ordered) in
        let word : (at + m) / 64 ≡ at / 64 =
        omega (
          arith,
          lt,
          in_word,
          div-add-mod' (at + m) 64,
          div-add-mod' at 64,
          mod_below
              (at + m) 64 (lit< tt),
        ) in
        let bit : (at + m) % 64 ≡ at % 64 + m =
        omega (arith, word, div-add-mod' (at + m) 64, div-add-mod' at 64) in
        ap (is_set words) place ∙ was_word words at (at + m) word
        ∙ ap (λ (k : ℕ). bit_at (get_or words (at / 64) 0) k == 1) bit

-- one turn of the loop that counts
pub number_step : (words inside : List ℕ) (from to at piece word set more : ℕ) → inside ≡ words
    → at / 64 < length inside → word ≡ get_or inside (at / 64) word
    → (from ≤ at) × (at ≤ to) × (set ≡ number_set words from at) × (set ≤ at - from)
    → at % 64 + piece ≤ 64 → at + piece ≤ to
    → more ≡ sum_below piece (λ m. one_if (bit_at word (at % 64 + m) == 1)) → more ≤ piece
    → (from ≤ at + piece) × (at + piece ≤ to) × (set + more ≡ number_set words from (at + piece))
    × (set + more ≤ at + piece - from)
number_step words inside from to at piece word set more same within of_word so_far in_word in_range of_more small =
    let ordered : from ≤ at = so_far.0 in
    let of_set : set ≡ number_set words from at = so_far.2 in
    let word_is : word ≡ get_or words (at / 64) 0 =
    of_word ∙ get_or_default inside (at / 64) word 0 within
    ∙ ap (λ (xs : List ℕ). get_or xs (at / 64) 0) same in
    let of_words : more ≡ sum_below piece (λ m. one_if (bit_at (get_or words (at / 64) 0) (at % 64 + m) == 1)) =
    of_more ∙ ap (λ (w : ℕ). sum_below piece (λ m. one_if (bit_at w (at % 64 + m) == 1))) word_is
    in
    let step = number_more words from at piece ordered in_word in
    let bound : set ≤ at - from = so_far.3 in (
      omega (arith, ordered),
      in_range,
      omega (arith, of_set, of_words, step),
      omega
          (arith, bound, small, ordered),
    )
