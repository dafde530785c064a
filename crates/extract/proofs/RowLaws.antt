-- The sides of the four cells of a row, a byte for each.
use Rattle.std.proofs.Common.{◌≡◌, ℕ, zero, suc, ◌+◌, ◌*◌, ◌/◌, ◌%◌, ◌^◌, ◌<◌, ◌≤◌, refl, sym, ap, ◌∙◌, arith}
use Rattle.std.specs.Prelude.{◌==◌, bit_and}
use Rattle.std.specs.Int.{bit_at}
use Rattle.std.proofs.lemmas.Nat.Bits.{bit_at-lt}
use Rattle.vw_cell.specs.Sums.{one_if}
use Rattle.vw_cell.specs.Counts.{cell_at}
use Rattle.node_words.specs.shapes.Shape.{bit_number}
use Rattle.extract.specs.Layers.{bits_show}
use Rattle.extract.specs.BareLayers.{TellsRow, four_bytes, leaf_sides, spread}
use Rattle.extract.specs.declared.bare_layers.BareLeaf.{BareLeaf}
use Rattle.extract.proofs.SurfaceLaws.{bit_moved}

-- four bits, spread
nibble_spread : (n : ℕ) → n < 16 → bit_and (n * 2113665) 16843009 ≡ spread n
nibble_spread zero lt = refl
nibble_spread (suc zero) lt = refl
nibble_spread (suc (suc zero)) lt = refl
nibble_spread (suc (suc (suc zero))) lt = refl
nibble_spread (suc (suc (suc (suc zero)))) lt = refl
nibble_spread (suc (suc (suc (suc (suc zero))))) lt = refl
nibble_spread (suc (suc (suc (suc (suc (suc zero)))))) lt = refl
nibble_spread (suc (suc (suc (suc (suc (suc (suc zero))))))) lt = refl
nibble_spread (suc (suc (suc (suc (suc (suc (suc (suc zero)))))))) lt = refl
nibble_spread (suc (suc (suc (suc (suc (suc (suc (suc (suc zero))))))))) lt = refl
nibble_spread (suc (suc (suc (suc (suc (suc (suc (suc (suc (suc zero)))))))))) lt = refl
nibble_spread (suc (suc (suc (suc (suc (suc (suc (suc (suc (suc (suc zero))))))))))) lt = refl
nibble_spread (suc (suc (suc (suc (suc (suc (suc (suc (suc (suc (suc (suc zero)))))))))))) lt = refl
nibble_spread (suc (suc (suc (suc (suc (suc (suc (suc (suc (suc (suc (suc (suc zero))))))))))))) lt = refl
nibble_spread (suc (suc (suc (suc (suc (suc (suc (suc (suc (suc (suc (suc (suc (suc zero)))))))))))))) lt = refl
nibble_spread (suc (suc (suc (suc (suc (suc (suc (suc (suc (suc (suc (suc (suc (suc (suc zero))))))))))))))) lt = refl
nibble_spread (suc (suc (suc (suc (suc (suc (suc (suc (suc (suc (suc (suc (suc (suc (suc (suc n)))))))))))))))) lt = absurd (omega arith)

low_bit : (w i : ℕ) → i < 4 → bit_at (w % 16) i ≡ bit_at w i
low_bit w zero lt = omega arith
low_bit w (suc zero) lt = omega arith
low_bit w (suc (suc zero)) lt = omega arith
low_bit w (suc (suc (suc zero))) lt = omega arith
low_bit w (suc (suc (suc (suc i)))) lt = absurd (omega arith)

bytes_same : (a b c d a' b' c' d' : ℕ) → a ≡ a' → b ≡ b' → c ≡ c' → d ≡ d'
    → four_bytes a b c d ≡ four_bytes a' b' c' d'
bytes_same a b c d a' b' c' d' p q r s = rw (p, q, r, s) refl

pub spread_told : (w : ℕ) → bit_and (w % 16 * 2113665) 16843009 ≡ spread w
spread_told w =
    nibble_spread (w % 16) (omega arith)
    ∙ bytes_same _ _ _ _ _ _ _ _ (low_bit w 0 (omega arith)) (low_bit w 1 (omega arith))
    (low_bit w 2 (omega arith)) (low_bit w 3 (omega arith))

pub spread_small : (w : ℕ) → spread w ≤ 16843009
spread_small w =
    let a = bit_at-lt w 0 in
    let b = bit_at-lt w 1 in
    let c = bit_at-lt w 2 in
    let d = bit_at-lt w 3 in
    omega (a, b, c, d, arith)

row_sum : (a0 a1 a2 a3 b0 b1 b2 b3 c0 c1 c2 c3 d0 d1 d2 d3 e0 e1 e2 e3 f0 f1 f2 f3 : ℕ)
    → four_bytes a0 a1 a2 a3 + 2 * four_bytes b0 b1 b2 b3 + (4 * four_bytes c0 c1 c2 c3 + 8 * four_bytes d0 d1 d2 d3) + (16 * four_bytes e0 e1 e2 e3 + 32 * four_bytes f0 f1 f2 f3)
    ≡ four_bytes (a0 + 2 * b0 + (4 * c0 + 8 * d0) + (16 * e0 + 32 * f0))
    (a1 + 2 * b1 + (4 * c1 + 8 * d1) + (16 * e1 + 32 * f1))
    (a2 + 2 * b2 + (4 * c2 + 8 * d2) + (16 * e2 + 32 * f2))
    (a3 + 2 * b3 + (4 * c3 + 8 * d3) + (16 * e3 + 32 * f3))
row_sum a0 a1 a2 a3 b0 b1 b2 b3 c0 c1 c2 c3 d0 d1 d2 d3 e0 e1 e2 e3 f0 f1 f2 f3 = omega arith

-- a byte of four
byte_of : (a b c d : ℕ) (s : ℕ → ℕ) (x : ℕ) → a < 64 → b < 64 → c < 64 → d < 64 → s 0 ≡ a → s 1 ≡ b
    → s 2 ≡ c → s 3 ≡ d → x < 4 → four_bytes a b c d / 2 ^ (8 * x) % 256 ≡ s x
byte_of a b c d s zero p q r t e f g h lt = omega (arith, e)
byte_of a b c d s (suc zero) p q r t e f g h lt = omega (arith, f)
byte_of a b c d s (suc (suc zero)) p q r t e f g h lt = omega (arith, g)
byte_of a b c d s (suc (suc (suc zero))) p q r t e f g h lt = omega (arith, h)
byte_of a b c d s (suc (suc (suc (suc x)))) p q r t e f g h lt = absurd (omega arith)

byte_at : (s : ℕ → ℕ) (x : ℕ) → ((i : ℕ) → s i < 64) → x < 4
    → four_bytes (s 0) (s 1) (s 2) (s 3) / 2 ^ (8 * x) % 256 ≡ s x
byte_at s x small lt =
    byte_of (s 0) (s 1) (s 2) (s 3) s x (small 0) (small 1) (small 2) (small 3) refl refl refl refl lt

-- the bits of a row's cells
one_bit : (b : ℕ) → b < 2 → one_if (b == 1) ≡ b
one_bit zero lt = refl
one_bit (suc zero) lt = refl
one_bit (suc (suc b)) lt = absurd (omega arith)

bit_is : (w row x y z : ℕ) → row ≡ 4 * y + 16 * z
    → one_if (bits_show w (cell_at x y z)) ≡ bit_at (w / 2 ^ row) x
bit_is w row x y z e =
    let n : ℕ = bit_number x y z in
    let at : n ≡ row + x = omega (arith, e) in
    one_bit (bit_at w n) (bit_at-lt w n) ∙ sym (bit_moved w row x n at)

six_small : (a b c d e f : ℕ) → a < 2 → b < 2 → c < 2 → d < 2 → e < 2 → f < 2
    → a + 2 * b + (4 * c + 8 * d) + (16 * e + 32 * f) < 64
six_small a b c d e f p q r s t u = omega arith

six_same : (a b c d e f a' b' c' d' e' f' : ℕ) → a' ≡ a → b' ≡ b → c' ≡ c → d' ≡ d → e' ≡ e
    → f' ≡ f
    → a + 2 * b + (4 * c + 8 * d) + (16 * e + 32 * f)
    ≡ a' + 2 * b' + 4 * c' + 8 * d' + 16 * e' + 32 * f'
six_same a b c d e f a' b' c' d' e' f' p q r s t u = omega (arith, p, q, r, s, t, u)

row_bits : BareLeaf → ℕ → ℕ → ℕ
row_bits leaf row x =
    bit_at (leaf.low_x / 2 ^ row) x + 2 * bit_at (leaf.high_x / 2 ^ row) x
    + (4 * bit_at (leaf.low_y / 2 ^ row) x + 8 * bit_at (leaf.high_y / 2 ^ row) x)
    + (16 * bit_at (leaf.low_z / 2 ^ row) x + 32 * bit_at (leaf.high_z / 2 ^ row) x)

row_bits-small : (leaf : BareLeaf) (row x : ℕ) → row_bits leaf row x < 64
unfolding row_bits
row_bits-small leaf row x =
    six_small _ _ _ _ _ _ (bit_at-lt (leaf.low_x / 2 ^ row) x)
    (bit_at-lt (leaf.high_x / 2 ^ row) x) (bit_at-lt (leaf.low_y / 2 ^ row) x)
    (bit_at-lt (leaf.high_y / 2 ^ row) x) (bit_at-lt (leaf.low_z / 2 ^ row) x)
    (bit_at-lt (leaf.high_z / 2 ^ row) x)

row_bits-are : (leaf : BareLeaf) (row x y z : ℕ) → row ≡ 4 * y + 16 * z
    → row_bits leaf row x ≡ leaf_sides leaf (cell_at x y z)
unfolding row_bits
row_bits-are leaf row x y z e =
    six_same _ _ _ _ _ _ _ _ _ _ _ _ (bit_is leaf.low_x row x y z e)
    (bit_is leaf.high_x row x y z e) (bit_is leaf.low_y row x y z e)
    (bit_is leaf.high_y row x y z e) (bit_is leaf.low_z row x y z e)
    (bit_is leaf.high_z row x y z e)

-- six rows of bits make one row of sides
row_added : (leaf : BareLeaf) (row : ℕ)
    → spread (leaf.low_x / 2 ^ row) + 2 * spread (leaf.high_x / 2 ^ row)
    + (4 * spread (leaf.low_y / 2 ^ row) + 8 * spread (leaf.high_y / 2 ^ row))
    + (16 * spread (leaf.low_z / 2 ^ row) + 32 * spread (leaf.high_z / 2 ^ row))
    ≡ four_bytes (row_bits leaf row 0) (row_bits leaf row 1) (row_bits leaf row 2)
    (row_bits leaf row 3)
unfolding row_bits
row_added leaf row =
    row_sum _ _ _ _ _ _ _ _ _ _ _ _ _ _ _ _ _ _ _ _ _ _ _ _

same_rows : (a b c d e f a' b' c' d' e' f' : ℕ) → a ≡ a' → b ≡ b' → c ≡ c' → d ≡ d' → e ≡ e'
    → f ≡ f'
    → a + 2 * b + (4 * c + 8 * d) + (16 * e + 32 * f)
    ≡ a' + 2 * b' + (4 * c' + 8 * d') + (16 * e' + 32 * f')
same_rows a b c d e f a' b' c' d' e' f' p q r s t u = rw (p, q, r, s, t, u) refl

pub row_told : (leaf : BareLeaf) (row y z a b c d e f : ℕ) → row ≡ 4 * y + 16 * z
    → a ≡ spread (leaf.low_x / 2 ^ row) → b ≡ spread (leaf.high_x / 2 ^ row)
    → c ≡ spread (leaf.low_y / 2 ^ row) → d ≡ spread (leaf.high_y / 2 ^ row)
    → e ≡ spread (leaf.low_z / 2 ^ row) → f ≡ spread (leaf.high_z / 2 ^ row)
    → TellsRow (a + 2 * b + (4 * c + 8 * d) + (16 * e + 32 * f)) leaf y z
row_told leaf row y z a b c d e f is p q r s t u = record {
  each = λ x lt.
      ap (λ (n : ℕ). n / 2 ^ (8 * x) % 256)
      (same_rows a b c d e f _ _ _ _ _ _ p q r s t u ∙ row_added leaf row)
      ∙ byte_at (row_bits leaf row) x (row_bits-small leaf row) lt
      ∙ row_bits-are leaf row x y z is;
}
