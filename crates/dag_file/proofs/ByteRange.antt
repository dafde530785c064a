-- Each byte of a file that was put together is one.
use Rattle.std.proofs.Common.{ℕ, zero, suc, ◌+◌, ◌/◌, ◌%◌, ◌^◌, ◌<◌, ◌≤◌, List, [], ◌∷◌, ◌++◌, length, IsTrue, refl, arith, lit<}
use Rattle.std.specs.Prelude.{codes}
use Rattle.std.specs.List.{flat_map}
use Rattle.std.specs.Int.{byte_at, bytes_low_first}
use Rattle.vw_cell.specs.Sides.{is_side}
use Rattle.dag_file.specs.Kept.{AreBytes}
use Rattle.dag_file.specs.Writes.{word_bytes, leaf_bytes, numbers_bytes, header_bytes, file_bytes}

no_bytes : AreBytes []
no_bytes i = lit< tt

one_more : (x : ℕ) (xs : List ℕ) → x < 256 → AreBytes xs → AreBytes (x ∷ xs)
one_more x xs lt are zero = lt
one_more x xs lt are (suc i) = are i

both : (a b : List ℕ) → AreBytes a → AreBytes b → AreBytes (a ++ b)
both [] b of_a of_b = of_b
both (x ∷ a) b of_a of_b = one_more x (a ++ b) (of_a 0) (both a b (λ i. of_a (suc i)) of_b)

each_of : {X : Type 0} (f : X → List ℕ) (xs : List X) → ((x : X) → AreBytes (f x))
    → AreBytes (flat_map f xs)
each_of f [] of_f = no_bytes
each_of f (x ∷ xs) of_f = both (f x) (flat_map f xs) (of_f x) (each_of f xs of_f)

low : (x : ℕ) → x % 256 < 256
low x = omega arith

byte_small : (i n : ℕ) → byte_at i n < 256
byte_small zero n = low n
byte_small (suc i) n = low (n / 256 ^ suc i)

low_first : (i k n : ℕ) → AreBytes (bytes_low_first i k n)
low_first i zero n = no_bytes
low_first i (suc k) n =
    one_more (byte_at i n) (bytes_low_first (suc i) k n) (byte_small i n) (low_first (suc i) k n)

of_number : (n : ℕ) → AreBytes (word_bytes n)
of_number n = low_first 0 4 n

of_leaf : (n : ℕ) → AreBytes (leaf_bytes n)
of_leaf n = low_first 0 8 n

of_numbers : (ns : List ℕ) → AreBytes (numbers_bytes ns)
of_numbers ns = each_of word_bytes ns of_number

of_mark : AreBytes (codes "VDAG")
of_mark =
    one_more 86 (68 ∷ (65 ∷ (71 ∷ []))) (omega arith)
    (one_more 68 (65 ∷ (71 ∷ [])) (omega arith)
    (one_more 65 (71 ∷ []) (omega arith) (one_more 71 [] (omega arith) no_bytes)))

pub file_is_bytes : (side : ℕ) (counts leaves : List ℕ) (nodes pairs : List (List ℕ))
    → AreBytes (file_bytes side counts leaves nodes pairs)
unfolding file_bytes header_bytes
file_is_bytes side counts leaves nodes pairs =
    both (codes "VDAG" ++ numbers_bytes (1 ∷ (side ∷ (length pairs ∷ counts)))) (flat_map leaf_bytes leaves ++ (flat_map numbers_bytes nodes ++ flat_map numbers_bytes pairs))
    (both (codes "VDAG") (numbers_bytes (1 ∷ (side ∷ (length pairs ∷ counts)))) of_mark (of_numbers (1 ∷ (side ∷ (length pairs ∷ counts)))))
    (both (flat_map leaf_bytes leaves)
    (flat_map numbers_bytes nodes ++ flat_map numbers_bytes pairs)
    (each_of leaf_bytes leaves of_leaf)
    (both (flat_map numbers_bytes nodes) (flat_map numbers_bytes pairs)
    (each_of numbers_bytes nodes of_numbers) (each_of numbers_bytes pairs of_numbers)))

-- the sides of worlds are powers of two
pub power_is_side : (e : ℕ) → e ≤ 10 → IsTrue (is_side (2 ^ (e + 2)))
power_is_side zero le = refl
power_is_side (suc zero) le = refl
power_is_side (suc (suc zero)) le = refl
power_is_side (suc (suc (suc zero))) le = refl
power_is_side (suc (suc (suc (suc zero)))) le = refl
power_is_side (suc (suc (suc (suc (suc zero))))) le = refl
power_is_side (suc (suc (suc (suc (suc (suc zero)))))) le = refl
power_is_side (suc (suc (suc (suc (suc (suc (suc zero))))))) le = refl
power_is_side (suc (suc (suc (suc (suc (suc (suc (suc zero)))))))) le = refl
power_is_side (suc (suc (suc (suc (suc (suc (suc (suc (suc zero))))))))) le = refl
power_is_side (suc (suc (suc (suc (suc (suc (suc (suc (suc (suc zero)))))))))) le = refl
power_is_side (suc (suc (suc (suc (suc (suc (suc (suc (suc (suc (suc e))))))))))) le =
    absurd (omega (arith, le))
