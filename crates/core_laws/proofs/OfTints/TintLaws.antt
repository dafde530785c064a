-- The number that a store of tints has in the places of a cell.
use Rattle.std.proofs.Common.{◌≡◌, ℕ, zero, suc, ◌^◌, ◌<◌, ◌==◌, Bool, refl, ◌∙◌, ap, arith}
use Rattle.std.specs.Int.{bit_at}
use Rattle.std.proofs.lemmas.Nat.Bits.{bit_at-lt, same_from_bits_below}
use Rattle.vw_cell.specs.Sums.{one_if}
use Rattle.vw_cell.specs.declared.cells.Cell.{Cell}
use Rattle.vw_cell.specs.Places.{IsInWorld}
use Rattle.node_words.proofs.OfContents.LeafBits.{bits_below-small, bits_below-bit}
use Rattle.history_model.specs.Worlds.{World, plus}
use Rattle.history_model.specs.Tints.{Tints}
use Rattle.history_model.specs.Planes.{StoresTints, plane_at}
use Rattle.core_laws.specs.tints.Planes.{tint_in}

-- a bit is 1 where the test says so, and else 0
bit_is : (bit : ℕ) → bit < 2 → one_if (bit == 1) ≡ bit
bit_is zero lt = refl
bit_is (suc zero) lt = refl
bit_is (suc (suc bit)) lt = absurd (omega arith)

pub stored_tint : (n : ℕ) (tints : Tints) (world : World) (p : Cell)
    → StoresTints n tints world → IsInWorld n p → tints p < 2 ^ 8 → tint_in n world p ≡ tints p
stored_tint n tints world p s i lt =
    let test : ℕ → Bool = λ b. world (plus (plane_at n (suc b)) p) in
    same_from_bits_below 8 (tint_in n world p) (tints p) (bits_below-small test 8) lt
    (λ b of_b. bits_below-bit test 8 b of_b
    ∙ ap one_if (s.each (suc b) p (omega arith) i)
    ∙ bit_is (bit_at (tints p) b) (bit_at-lt (tints p) b))
