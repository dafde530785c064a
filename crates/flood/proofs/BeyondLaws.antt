-- The bits of one word that are beside bits of another.
use Rattle.std.proofs.Common.{◌≡◌, ℕ, ◌+◌, ◌-◌, ◌*◌, ◌/◌, ◌%◌, ◌^◌, ◌<◌, ◌≤◌, ap, sym, subst, ◌∙◌, inl, inr, arith}
use Rattle.std.specs.Int.{bit_at}
use Rattle.std.proofs.lemmas.Bool.{cases_lt}
use Rattle.std.proofs.lemmas.Nat.Bits.{bit_at_above}
use Rattle.flood.specs.Words.{IsBeyond}
use Rattle.flood.proofs.SpreadLaws.{bit_at_up, up_bit_at, bit_at_down}

-- bit m of a word, as a bit of the row
at_word : (w m : ℕ) → m < 64 → (64 * w + m) / 64 ≡ w
at_word w m h = omega arith

at_bit : (w m : ℕ) → m < 64 → (64 * w + m) % 64 ≡ m
at_bit w m h = omega arith

moved : (bits a b : ℕ) → a ≡ b → bit_at bits b ≡ 1 → bit_at bits a ≡ 1
moved bits a b e one = ap (λ (k : ℕ). bit_at bits k) e ∙ one

pub beyond_0 : (size w bits : ℕ) → bits < 2 ^ 64 → w % 4 < 3 → w + 1 < size
    → IsBeyond size 0 w bits (w + 1) (bits / 2 ^ 63)
beyond_0 size w bits fits row lt = record {
  inside = lt;
  only = λ m h one.
      let high : bit_at bits (63 + m) ≡ 1 = sym (bit_at_down bits 63 m) ∙ one in
      let first : m ≡ 0 = elim (cases_lt m 1) [
        | inl less ↦ omega arith
        | inr more ↦ absurd
            (let none = bit_at_above bits 64 (63 + m) fits (omega arith) in omega
            (arith, none, high))
      ] in (
        64 * w + 63,
        at_word w 63 (omega arith),
        moved bits _ (63 + m) (omega arith) high,
        (omega arith, omega arith),
      );
  all = λ i j of_w one t lt_j.
      elim (cases_lt (i % 64) 63) [
        | inl low ↦ inl (let e : j ≡ i + 1 = t.0 in omega arith)
        | inr high ↦ (
            let e : j ≡ i + 1 = t.0 in
            let last : 63 + j % 64 ≡ i % 64 = omega arith in
            inr (omega arith, bit_at_down bits 63 (j % 64) ∙ moved bits _ (i % 64) last one))
      ];
}

pub beyond_1 : (size w bits : ℕ) → w < size → 0 < w % 4
    → IsBeyond size 1 w bits (w - 1) (bits * 2 ^ 63 % 2 ^ 64)
beyond_1 size w bits lt row = record {
  inside = omega arith;
  only = λ m h one.
      let up = bit_at_up bits 63 m h one in
      let last : m ≡ 63 = omega arith in
      (64 * w, omega arith, moved bits _ (m - 63) (omega arith) up.1, (omega arith, omega arith));
  all = λ i j of_w one t lt_j.
      elim (cases_lt 0 (i % 64)) [
        | inl high ↦ inl (let e : i ≡ j + 1 = t.0 in omega arith)
        | inr low ↦ (
            let e : i ≡ j + 1 = t.0 in
            let first : j % 64 - 63 ≡ i % 64 = omega arith in
            inr (
              omega arith,
              up_bit_at bits 63 (j % 64) (omega arith) (omega arith)
                  (moved bits _ (i % 64) first one),
            ))
      ];
}

pub beyond_2 : (size w bits : ℕ) → w / 4 % 256 < 255 → w + 4 < size
    → IsBeyond size 2 w bits (w + 4) bits
beyond_2 size w bits row lt = record {
  inside = lt;
  only = λ m h one.
      (64 * w + m, at_word w m h, moved bits _ m (at_bit w m h) one, (omega arith, omega arith));
  all = λ i j of_w one t lt_j.
      let e : j ≡ i + 256 = t.0 in
      inr (omega arith, moved bits _ (i % 64) (omega arith) one);
}

pub beyond_3 : (size w bits : ℕ) → w < size → 0 < w / 4 % 256 → IsBeyond size 3 w bits (w - 4) bits
beyond_3 size w bits lt row = record {
  inside = omega arith;
  only = λ m h one.
      (64 * w + m, at_word w m h, moved bits _ m (at_bit w m h) one, (omega arith, omega arith));
  all = λ i j of_w one t lt_j.
      let e : i ≡ j + 256 = t.0 in
      inr (omega arith, moved bits _ (i % 64) (omega arith) one);
}

pub beyond_4 : (size w bits : ℕ) → w + 1024 < size → IsBeyond size 4 w bits (w + 1024) bits
beyond_4 size w bits lt = record {
  inside = lt;
  only = λ m h one. (64 * w + m, at_word w m h, moved bits _ m (at_bit w m h) one, omega arith);
  all = λ i j of_w one t lt_j.
      let e : j ≡ i + 65536 = t in
      inr (omega arith, moved bits _ (i % 64) (omega arith) one);
}

pub beyond_5 : (size w bits : ℕ) → w < size → 1024 ≤ w → IsBeyond size 5 w bits (w - 1024) bits
beyond_5 size w bits lt far = record {
  inside = omega arith;
  only = λ m h one. (64 * w + m, at_word w m h, moved bits _ m (at_bit w m h) one, omega arith);
  all = λ i j of_w one t lt_j.
      let e : i ≡ j + 65536 = t in
      inr (omega arith, moved bits _ (i % 64) (omega arith) one);
}

pub beyond_of : {size k of w bits word there : ℕ} → k ≡ of → IsBeyond size of w bits word there
    → IsBeyond size k w bits word there
beyond_of {size} {k} {of} {w} {bits} {word} {there} e b =
    subst (λ (d : ℕ). IsBeyond size d w bits word there) (sym e) b
