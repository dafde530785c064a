-- Runs of open bits of a word.
use Rattle.std.proofs.Common.{◌≡◌, ℕ, ◌+◌, ◌-◌, ◌*◌, ◌/◌, ◌%◌, ◌^◌, ◌<◌, ◌≤◌, ◌⊎◌, Bool, true, false, ap, sym, ◌∙◌, inl, inr, arith, min}
use Rattle.std.specs.Prelude.{bit_and, bit_or}
use Rattle.std.specs.Int.{bit_at}
use Rattle.std.proofs.lemmas.Bool.{cases_eq, cases_lt}
use Rattle.std.proofs.lemmas.Nat.{and_mask, shr-shr, le_or_l}
use Rattle.std.proofs.lemmas.Nat.Bits.{bit_at_or, bit_at_and, bit_at-lt, bit_at_ones, bit_at_cat_high, bit_at_cat_low, bit_at_above}
use Rattle.flood.specs.Words.{IsOnRun, IsRunTo, GrowsAlong, AreRuns, Spreads}

-- the low bits of a number are its own
pub bit_at_low : (n m : ℕ) → m < 64 → bit_at (n % 2 ^ 64) m ≡ bit_at n m
bit_at_low n m h =
    let masked : bit_at (n % 2 ^ 64) m ≡ bit_at (bit_and n (2 ^ 64 - 1)) m =
    ap (λ (a : ℕ). bit_at a m) (sym (and_mask n 64)) in
    let both : bit_at (bit_and n (2 ^ 64 - 1)) m ≡ min (bit_at n m) (bit_at (2 ^ 64 - 1) m) =
    bit_at_and n (2 ^ 64 - 1) m in
    let one : bit_at (2 ^ 64 - 1) m ≡ 1 = bit_at_ones 64 m h in
    let small = bit_at-lt n m in
    omega (arith, masked, both, one, small)

-- a bit of a word that was shifted up
pub bit_at_up : (n by m : ℕ) → m < 64 → bit_at (n * 2 ^ by % 2 ^ 64) m ≡ 1
    → (by ≤ m) × (bit_at n (m - by) ≡ 1)
bit_at_up n by m h one =
    let low : bit_at (n * 2 ^ by) m ≡ 1 = sym (bit_at_low (n * 2 ^ by) m h) ∙ one in
    let plus : n * 2 ^ by + 0 ≡ n * 2 ^ by = omega arith in
    let same : bit_at (n * 2 ^ by + 0) m ≡ 1 = ap (λ (a : ℕ). bit_at a m) plus ∙ low in
    elim (cases_lt m by) [
      | inl below ↦ absurd
          (let none = bit_at_cat_low n by 0 m below in let zeros = Rattle.std.proofs.lemmas.Nat.Bits.bit_at-zero m in omega (arith, none, zeros, same))
      | inr above ↦ (
        above,
        sym (bit_at_cat_high n by 0 m (Rattle.std.proofs.lemmas.Nat.pow_pos by) above)
            ∙ same,
      )
    ]

pub up_bit_at : (n by m : ℕ) → m < 64 → by ≤ m → bit_at n (m - by) ≡ 1
    → bit_at (n * 2 ^ by % 2 ^ 64) m ≡ 1
up_bit_at n by m h above one =
    let plus : n * 2 ^ by ≡ n * 2 ^ by + 0 = omega arith in
    bit_at_low (n * 2 ^ by) m h ∙ ap (λ (a : ℕ). bit_at a m) plus
    ∙ bit_at_cat_high n by 0 m (Rattle.std.proofs.lemmas.Nat.pow_pos by) above ∙ one

pub bit_at_down : (n by m : ℕ) → bit_at (n / 2 ^ by) m ≡ bit_at n (by + m)
bit_at_down n by m = ap (λ (a : ℕ). a % 2) (shr-shr n by m)

pub either_bit : (a b m : ℕ) → bit_at (bit_or a b) m ≡ 1 → (bit_at a m ≡ 1) ⊎ (bit_at b m ≡ 1)
either_bit a b m one =
    let both = bit_at_or a b m in
    let sa = bit_at-lt a m in
    let sb = bit_at-lt b m in
    elim (cases_eq (bit_at a m) 1) [
      | inl one_a ↦ inl one_a
      | inr other ↦ inr (omega (arith, both, sa, sb))
    ]

pub left_bit : (a b m : ℕ) → bit_at a m ≡ 1 → bit_at (bit_or a b) m ≡ 1
left_bit a b m one =
    let both = bit_at_or a b m in
    let sb = bit_at-lt b m in
    omega (arith, both, sb)

pub right_bit : (a b m : ℕ) → bit_at b m ≡ 1 → bit_at (bit_or a b) m ≡ 1
right_bit a b m one =
    let both = bit_at_or a b m in
    let sa = bit_at-lt a m in
    omega (arith, both, sa)

pub both_bits : (a b m : ℕ) → bit_at (bit_and a b) m ≡ 1 → (bit_at a m ≡ 1) × (bit_at b m ≡ 1)
both_bits a b m one =
    let both = bit_at_and a b m in
    let sa = bit_at-lt a m in
    let sb = bit_at-lt b m in
    (omega (arith, both, sa, sb), omega (arith, both, sa, sb))

pub and_bits : (a b m : ℕ) → bit_at a m ≡ 1 → bit_at b m ≡ 1 → bit_at (bit_and a b) m ≡ 1
and_bits a b m one two = let both = bit_at_and a b m in omega (arith, both)

-- runs one after another
after_both : (a b m k : ℕ) → IsOnRun a m k → IsOnRun a b k ⊎ IsOnRun b m k
after_both a b m k (inl (above, to)) =
    elim (cases_lt b k) [
      | inl past ↦ inr (inl (past, to))
      | inr near ↦ inl (inl (above, near))
    ]
after_both a b m k (inr (from, below)) =
    elim (cases_lt k b) [
      | inl past ↦ inr (inr (from, past))
      | inr near ↦ inl (inr (near, below))
    ]

pub runs_on : (clear_word old mid m : ℕ)
    → (g : (j : ℕ) → j < 64 → bit_at mid j ≡ 1 → IsRunTo clear_word old j)
    → IsRunTo clear_word mid m → IsRunTo clear_word old m
runs_on clear_word old mid m g r =
    let first = g r.j r.below r.seed in
    record {
      j = first.j;
      below = first.below;
      seed = first.seed;
      run = λ k after. elim
          (after_both first.j r.j m k after) [ inl a ↦ first.run k a | inr b ↦ r.run k b ];
    }

pub grows_itself : (clear_word word : ℕ) → GrowsAlong clear_word word word
grows_itself clear_word word = record {
  more = omega arith;
  keeps = λ m h one. one;
  runs = λ m h one. record {
    j = m;
    below = h;
    seed = one;
    run = λ k after. elim after [ inl a ↦ absurd (omega arith) | inr a ↦ absurd (omega arith) ];
  };
}

pub grows_on : (clear_word old mid new : ℕ) → GrowsAlong clear_word old mid
    → GrowsAlong clear_word mid new → GrowsAlong clear_word old new
grows_on clear_word old mid new p q = record {
  more = omega (arith, p.more, q.more);
  keeps = λ m h one. q.keeps m h (p.keeps m h one);
  runs = λ m h one. runs_on clear_word old mid m p.runs (q.runs m h one);
}

-- one step up, one step down
pub step_up : (clear_word word runs by : ℕ) → AreRuns true clear_word by runs
    → GrowsAlong clear_word word (bit_or word (bit_and (word * 2 ^ by % 2 ^ 64) runs))
step_up clear_word word runs by are = record {
  more = le_or_l word _;
  keeps = λ m h one. left_bit word _ m one;
  runs = λ m h one. elim (either_bit word (bit_and (word * 2 ^ by % 2 ^ 64) runs) m one) [
    | inl old ↦ (grows_itself clear_word word).runs m h old
    | inr new ↦ (
        let parts = both_bits (word * 2 ^ by % 2 ^ 64) runs m new in
        let moved = bit_at_up word by m h parts.0 in
        record {
          j = m - by;
          below = omega arith;
          seed = moved.1;
          run = λ k after. elim after [
            | inl a ↦ are.each m k h (omega arith) parts.1 (omega arith, a.1)
            | inr a ↦ absurd (omega arith)
          ];
        })
  ];
}

pub longer_up : (clear_word runs by : ℕ) → AreRuns true clear_word by runs
    → AreRuns true clear_word (by * 2) (bit_and runs (runs * 2 ^ by % 2 ^ 64))
longer_up clear_word runs by are = record {
  each = λ m k h lt one last.
      let parts = both_bits runs (runs * 2 ^ by % 2 ^ 64) m one in
      let moved = bit_at_up runs by m h parts.1 in
      elim (cases_lt m (k + by)) [
        | inl near ↦ are.each m k h lt parts.0 (near, last.1)
        | inr far ↦ are.each (m - by) k (omega arith) lt moved.1 (omega arith, omega arith)
      ];
}

pub step_down : (clear_word word runs by : ℕ) → word < 2 ^ 64 → AreRuns false clear_word by runs
    → GrowsAlong clear_word word (bit_or word (bit_and (word / 2 ^ by) runs))
step_down clear_word word runs by fits are = record {
  more = le_or_l word _;
  keeps = λ m h one. left_bit word _ m one;
  runs = λ m h one. elim (either_bit word (bit_and (word / 2 ^ by) runs) m one) [
    | inl old ↦ (grows_itself clear_word word).runs m h old
    | inr new ↦ (
        let parts = both_bits (word / 2 ^ by) runs m new in
        let moved : bit_at word (by + m) ≡ 1 = sym (bit_at_down word by m) ∙ parts.0 in
        let within : by + m < 64 = elim (cases_lt (by + m) 64) [
          | inl less ↦ less
          | inr more ↦ absurd
              (let none = bit_at_above word 64 (by + m) fits more in omega (arith, none, moved))
        ] in
        record {
          j = by + m;
          below = within;
          seed = moved;
          run = λ k after. elim after [
            | inl a ↦ absurd (omega arith)
            | inr a ↦ are.each m k h (omega arith) parts.1 (a.0, omega arith)
          ];
        })
  ];
}

pub longer_down : (clear_word runs by : ℕ) → runs < 2 ^ 64 → AreRuns false clear_word by runs
    → AreRuns false clear_word (by * 2) (bit_and runs (runs / 2 ^ by))
longer_down clear_word runs by fits are = record {
  each = λ m k h lt one last.
      let parts = both_bits runs (runs / 2 ^ by) m one in
      let moved : bit_at runs (by + m) ≡ 1 = sym (bit_at_down runs by m) ∙ parts.1 in
      let within : by + m < 64 = elim (cases_lt (by + m) 64) [
        | inl less ↦ less
        | inr more ↦ absurd
            (let none = bit_at_above runs 64 (by + m) fits more in omega (arith, none, moved))
      ] in
      elim (cases_lt k (m + by)) [
        | inl near ↦ are.each m k h lt parts.0 (last.0, near)
        | inr far ↦ are.each (by + m) k within lt moved (omega arith, omega arith)
      ];
}

pub clear_is_run : (up : Bool) (clear_word : ℕ) → AreRuns up clear_word 1 clear_word
clear_is_run true clear_word =
    record {
      each = λ m k h lt one last.
          (let same : k ≡ m = omega arith in ap (λ (a : ℕ). bit_at clear_word a) same ∙ one);
    }
clear_is_run false clear_word =
    record {
      each = λ m k h lt one last.
          (let same : k ≡ m = omega arith in ap (λ (a : ℕ). bit_at clear_word a) same ∙ one);
    }

-- one step both ways
pub step_both : (clear_word word : ℕ) → word < 2 ^ 64
    → GrowsAlong clear_word word
    (bit_or word (bit_and (bit_or (word * 2 ^ 1 % 2 ^ 64) (word / 2 ^ 1)) clear_word))
step_both clear_word word fits = record {
  more = le_or_l word _;
  keeps = λ m h one. left_bit word _ m one;
  runs = λ m h one. elim
      (either_bit word (bit_and (bit_or (word * 2 ^ 1 % 2 ^ 64) (word / 2 ^ 1)) clear_word) m one) [
        | inl old ↦ (grows_itself clear_word word).runs m h old
        | inr new ↦ (
            let parts = both_bits (bit_or (word * 2 ^ 1 % 2 ^ 64) (word / 2 ^ 1)) clear_word m new in
            elim (either_bit (word * 2 ^ 1 % 2 ^ 64) (word / 2 ^ 1) m parts.0) [
              | inl up ↦ (step_up clear_word word clear_word 1 (clear_is_run true clear_word)).runs m h
                  (right_bit word _ m (and_bits _ _ m up parts.1))
              | inr down ↦
                  (step_down clear_word word clear_word 1 fits
                  (clear_is_run false clear_word)).runs m h
                  (right_bit word _ m (and_bits _ _ m down parts.1))
            ])
      ];
}

-- a word that one step leaves as it is has all
pub is_spread : (clear_word seeds word : ℕ) → GrowsAlong clear_word seeds word
    → bit_or word (bit_and (bit_or (word * 2 ^ 1 % 2 ^ 64) (word / 2 ^ 1)) clear_word) ≡ word
    → Spreads clear_word seeds word
is_spread clear_word seeds word grows still = record {
  more = grows.more;
  keeps = grows.keeps;
  runs = grows.runs;
  up = λ m h one is_clear.
      let back : m + 1 - 1 ≡ m = omega arith in
      let moved =
      up_bit_at word 1 (m + 1) h (omega arith) (ap (λ (a : ℕ). bit_at word a) back ∙ one) in
      sym (ap (λ (a : ℕ). bit_at a (m + 1)) still)
      ∙ right_bit word _ (m + 1) (and_bits _ _ (m + 1) (left_bit _ _ (m + 1) moved) is_clear);
  down = λ m h one is_clear.
      let more : 1 + m ≡ m + 1 = omega arith in
      let moved : bit_at (word / 2 ^ 1) m ≡ 1 =
      bit_at_down word 1 m ∙ ap (λ (a : ℕ). bit_at word a) more ∙ one in
      sym (ap (λ (a : ℕ). bit_at a m) still)
      ∙ right_bit word _ m (and_bits _ _ m (right_bit _ _ m moved) is_clear);
}

-- a word that changes grows
pub grows_more : (word more : ℕ) → (bit_or word more ≡ word → ⊥) → word < bit_or word more
grows_more word more other = let le = le_or_l word more in omega (arith, le, other)

pub less_room : (word more : ℕ) → (bit_or word more ≡ word → ⊥) → word < 2 ^ 64
    → 2 ^ 64 - bit_or word more < 2 ^ 64 - word
less_room word more other fits = let up = grows_more word more other in omega (arith, up, fits)
