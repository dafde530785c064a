-- A row of bits, as 64-bit words.
use Rattle.std.specs.Prelude.{◌≡◌, ◌≢◌, ◌<◌, ◌≤◌, ◌⊎◌, ◌+◌, ◌-◌, ℕ, ◌/◌, ◌%◌, List, Bool, ◌==◌, slice_index, length}
use Rattle.std.specs.Int.{bit_at}
use Rattle.vw_cell.specs.Sums.{sum_below, one_if}

-- whether bit i is set: bit i mod 64 of word i / 64
abbrev pub is_set : List ℕ → ℕ → Bool
is_set words i = bit_at (slice_index words (i / 64)) (i % 64) == 1

-- how many of the bits from `from` up to `to` are set
abbrev pub number_set : List ℕ → ℕ → ℕ → ℕ
number_set words from to = sum_below (to - from) (λ i. one_if (is_set words (from + i)))

-- the bits from `from` up to `to` are all `value`, and the others are as before
pub record PutsRange (from to : ℕ) (value : Bool) (old new : List ℕ) : Type 0 where
  pub inside : (j : ℕ) → from ≤ j → j < to → is_set new j ≡ value
  pub outside : (j : ℕ) → (j < from) ⊎ (to ≤ j) → is_set new j ≡ is_set old j
  pub same_length : length new ≡ length old

-- the new word differs from the old one at most in bit k
pub record Keeps (k old new : ℕ) : Type 0 where
  pub each : (m : ℕ) → m < 64 → m ≢ k → bit_at new m ≡ bit_at old m

-- the new word has `value` in the `piece` bits from bit k on, and the old word's bits elsewhere
pub record PutsBits (k piece : ℕ) (value : Bool) (old new : ℕ) : Type 0 where
  pub inside : (m : ℕ) → k ≤ m → m < k + piece → (bit_at new m == 1) ≡ value
  pub outside : (m : ℕ) → m < 64 → (m < k) ⊎ (k + piece ≤ m) → bit_at new m ≡ bit_at old m
