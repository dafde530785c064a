-- Bits of words as voxels of a box.
use Rattle.std.proofs.Common.{◌≡◌, ℕ, zero, suc, ◌+◌, ◌-◌, ◌*◌, ◌/◌, ◌%◌, ◌^◌, ◌<◌, ◌≤◌, Bool, true, List, [], length, ap, sym, subst, ◌∙◌, arith}
use Rattle.std.specs.Prelude.{slice_index, ◌==◌, ◌&&◌, count_ones}
use Rattle.std.specs.Int.{bit_at}
use Rattle.std.specs.declared.vec.Vec.{Vec}
use Rattle.std.proofs.lemmas.Nat.{shr-shr}
use Rattle.std.proofs.lemmas.Nat.Bits.{bit_at-zero}
use native.Mathlib.Nat.{suc-mul, mod-eq_of_lt}
use Rattle.node_words.specs.Sums.{sum_below, one_if, sum_below-same, sum_below-add, sum_below-suc, sum_below-le, one_if-le}
use Rattle.vw_cell.specs.declared.cells.Cell.{Cell}
use Rattle.vw_cell.specs.declared.boxes.Boxed.{Boxed}
use Rattle.vw_cell.specs.Counts.{cell_at, number_in}
use Rattle.vw_cell.specs.Places.{is_in_box}
use Rattle.vw_cell.specs.Tests.{is_in_box_holds}
use Rattle.vox_read.specs.declared.voxels.Voxel.{Voxel}
use Rattle.extract.specs.Listing.{voxels_joined, voxel_if, voxels_of_box}
use Rattle.extract.specs.Layers.{HasRoom, AppendsVoxels, IsSmallLayer}
use Rattle.extract.proofs.ListingLaws.{joined-same, length-voxels, appends_none, no_voxels}
use Rattle.vw_cell.proofs.Masks.{ones_low}
use Rattle.flood.specs.Words.{bit_at_place}
use Rattle.flood.specs.Rows.{bit_is_set, set_in, word_voxels}

-- a cell of the box, by its places from the corner
pub set_at : (b : Boxed) (words : List ℕ) (x y z : ℕ) → x < b.size.x → y < b.size.y → z < b.size.z
    → set_in b words (cell_at (b.at.x + x) (b.at.y + y) (b.at.z + z)) ≡ bit_is_set words
    (x + 256 * y + 65536 * z)
set_at b words x y z lx ly lz =
    let c : Cell = cell_at (b.at.x + x) (b.at.y + y) (b.at.z + z) in
    let inside : is_in_box b c ≡ true =
    is_in_box_holds b c
    (record {
      x = (omega arith, omega arith);
      y = (omega arith, omega arith);
      z =
          (omega arith, omega arith);
    }) in
    let bit : bit_at_place (cell_at (c.x - b.at.x) (c.y - b.at.y) (c.z - b.at.z)) ≡ x + 256 * y + 65536 * z = omega arith in
    ap (λ (v : Bool). v
    && bit_is_set words
    (bit_at_place (cell_at (c.x - b.at.x) (c.y - b.at.y) (c.z - b.at.z)))) inside
    ∙ ap (λ (i : ℕ). bit_is_set words i) bit

-- bits of a word that was shifted down to a place of a row are those of the row from there on
pub run_is_row : (b : Boxed) (words : List ℕ) (z y x n row q : ℕ) → x + n ≤ b.size.x
    → b.size.x ≤ 256 → y < b.size.y → y < 256 → z < b.size.z → x % 64 + n ≤ 64
    → row ≡ 1024 * z + 4 * y → q ≡ x / 64
    → word_voxels (slice_index words (row + q) / 2 ^ (x % 64)) n (cell_at x y z)
    ≡ voxels_joined n
    (λ p. voxel_if (set_in b words (cell_at (b.at.x + (x + p)) (b.at.y + y) (b.at.z + z)))
    (0 + (x + p)) y z)
run_is_row b words z y x n row q fits small ly few lz in_word is q_is =
    joined-same n _ _ (λ p lt.
    let word : ℕ = slice_index words (row + q) in
    let moved : bit_at (word / 2 ^ (x % 64)) p ≡ bit_at word (x % 64 + p) =
    ap (λ (a : ℕ). a % 2) (shr-shr word (x % 64) p) in
    let i : ℕ = (x + p) + 256 * y + 65536 * z in
    let of_word : row + q ≡ i / 64 = omega arith in
    let of_bit : x % 64 + p ≡ i % 64 = omega arith in
    let bit : (bit_at (word / 2 ^ (x % 64)) p == 1) ≡ bit_is_set words i =
    ap (λ (a : ℕ). a == 1)
    (moved ∙ ap (λ (w : ℕ). bit_at (slice_index words w) (x % 64 + p)) of_word
    ∙ ap (λ (k : ℕ). bit_at (slice_index words (i / 64)) k) of_bit)
    in
    let set = bit ∙ sym (set_at b words (x + p) y z (omega arith) ly lz) in
    let to : x + p ≡ 0 + (x + p) = omega arith in
    ap (λ (v : Bool). voxel_if v (x + p) y z) set
    ∙ ap
    (λ (a : ℕ). voxel_if
    (set_in b words (cell_at (b.at.x + (x + p)) (b.at.y + y) (b.at.z + z))) a y z) to)

-- a word of no bits has no cell
pub no_bits : {Z : Type 0} (word n : ℕ) (to : Cell) (v : Vec Voxel Z) → word ≡ 0
    → AppendsVoxels (word_voxels word n to) v v
no_bits word n to v e =
    let none : word_voxels word n to ≡ [] =
    ap (λ (w : ℕ). word_voxels w n to) e
    ∙ no_voxels n _
    (λ p. ap (λ (bit : ℕ). voxel_if (bit == 1) (to.x + p) to.y to.z) (bit_at-zero p))
    in
    subst (λ (xs : List Voxel). AppendsVoxels xs v v) (sym none) (appends_none v)

-- ---- as many voxels as bits

sum_more : (m n : ℕ) (f : ℕ → ℕ) → m ≤ n → sum_below m f ≤ sum_below n f
sum_more m n f le =
    let rest : m + (n - m) ≡ n = omega arith in
    let parts = sum_below-add m (n - m) f in
    let whole : sum_below (m + (n - m)) f ≡ sum_below n f = ap (λ (k : ℕ). sum_below k f) rest in
    omega (arith, parts, whole)

sum_over : (n : ℕ) (f g : ℕ → ℕ) → ((i : ℕ) → i < n → f i ≤ g i) → sum_below n f ≤ sum_below n g
unfolding sum_below
sum_over zero f g each = omega arith
sum_over (suc n) f g each =
    let below : sum_below n f ≤ sum_below n g = sum_over n f g (λ i lt. each i (omega arith)) in
    let last : f n ≤ g n = each n (omega arith) in
    omega arith

sum_nested : (a n : ℕ) (f : ℕ → ℕ)
    → sum_below (a * n) f ≡ sum_below a (λ i. sum_below n (λ j. f (i * n + j)))
unfolding sum_below
sum_nested zero n f = let none : zero * n ≡ 0 = omega arith in ap (λ (k : ℕ). sum_below k f) none
sum_nested (suc a) n f =
    let more : suc a * n ≡ a * n + n = suc-mul a n in
    let parts = sum_below-add (a * n) n f in
    let before : sum_below (a * n) f ≡ sum_below a (λ i. sum_below n (λ j. f (i * n + j))) =
    sum_nested a n f in
    let whole : sum_below (suc a * n) f ≡ sum_below (a * n + n) f =
    ap (λ (k : ℕ). sum_below k f) more in
    whole ∙ parts ∙ ap (λ (k : ℕ). k + sum_below n (λ j. f (a * n + j))) before

-- how many bits of a word are set
ones_all : (word : ℕ) → word < 2 ^ 64
    → count_ones word ≡ sum_below 64 (λ m. one_if (bit_at word m == 1))
ones_all word fits = ap count_ones (sym (mod-eq_of_lt fits)) ∙ ones_low 64 word

-- a row of 256 bits from its four words
row_bits : (words : List ℕ) (row : ℕ) → ((w : ℕ) → slice_index words w < 2 ^ 64)
    → sum_below 256 (λ x. one_if (bit_is_set words (256 * row + x))) ≡ sum_below 4
    (λ q. count_ones (slice_index words (row * 4 + q)))
row_bits words row fits =
    sum_nested 4 64 (λ x. one_if (bit_is_set words (256 * row + x)))
    ∙ sum_below-same 4 _ _ (λ q lt_q.
    sum_below-same 64 _ _ (λ m lt_m.
    let i : ℕ = 256 * row + (q * 64 + m) in
    let of_word : i / 64 ≡ row * 4 + q = omega arith in
    let of_bit : i % 64 ≡ m = omega arith in
    ap (λ (w : ℕ). one_if (bit_at (slice_index words w) (i % 64) == 1)) of_word
    ∙ ap (λ (k : ℕ). one_if (bit_at (slice_index words (row * 4 + q)) k == 1)) of_bit)
    ∙ sym (ones_all (slice_index words (row * 4 + q)) (fits (row * 4 + q))))

layer_bits : (words : List ℕ) (z : ℕ) → ((w : ℕ) → slice_index words w < 2 ^ 64)
    → sum_below 256
    (λ y. sum_below 256 (λ x. one_if (bit_is_set words (x + 256 * y + 65536 * z))))
    ≡ sum_below 1024 (λ w. count_ones (slice_index words (z * 1024 + w)))
layer_bits words z fits =
    sum_below-same 256 _ _ (λ y lt_y.
    sum_below-same 256 _ _ (λ x lt_x.
    let e : x + 256 * y + 65536 * z ≡ 256 * (z * 256 + y) + x = omega arith in
    ap (λ (i : ℕ). one_if (bit_is_set words i)) e)
    ∙ row_bits words (z * 256 + y) fits
    ∙ sum_below-same 4 _ _ (λ q lt_q.
    let e : (z * 256 + y) * 4 + q ≡ z * 1024 + (y * 4 + q) = omega arith in
    ap (λ (w : ℕ). count_ones (slice_index words w)) e))
    ∙ sym (sum_nested 256 4 (λ w. count_ones (slice_index words (z * 1024 + w))))

pub no_more_voxels : (b : Boxed) (words : List ℕ) → IsSmallLayer b
    → ((w : ℕ) → slice_index words w < 2 ^ 64)
    → length (voxels_of_box b (set_in b words)) ≤ sum_below (1024 * b.size.z)
    (λ w. count_ones (slice_index words w))
no_more_voxels b words small fits =
    let number = length-voxels b (set_in b words) in
    let in_bits : number_in b (set_in b words) ≡ sum_below b.size.z (λ z. sum_below b.size.y (λ y. sum_below b.size.x (λ x. one_if (bit_is_set words (x + 256 * y + 65536 * z))))) =
    sum_below-same b.size.z _ _
    (λ z lz. sum_below-same b.size.y _ _
    (λ y ly. sum_below-same b.size.x _ _
    (λ x lx. ap one_if (set_at b words x y z lx ly lz))))
    in
    let each : (z : ℕ) → z < b.size.z → sum_below b.size.y (λ y. sum_below b.size.x (λ x. one_if (bit_is_set words (x + 256 * y + 65536 * z)))) ≤ sum_below 1024 (λ w. count_ones (slice_index words (z * 1024 + w))) =
    λ z lz.
    let rows : sum_below b.size.y (λ y. sum_below b.size.x (λ x. one_if (bit_is_set words (x + 256 * y + 65536 * z)))) ≤ sum_below b.size.y (λ y. sum_below 256 (λ x. one_if (bit_is_set words (x + 256 * y + 65536 * z)))) =
    sum_over b.size.y _ _ (λ y ly. sum_more b.size.x 256 _ small.x.1)
    in
    let all : sum_below b.size.y (λ y. sum_below 256 (λ x. one_if (bit_is_set words (x + 256 * y + 65536 * z)))) ≤ sum_below 256 (λ y. sum_below 256 (λ x. one_if (bit_is_set words (x + 256 * y + 65536 * z)))) =
    sum_more b.size.y 256 _ small.y.1
    in
    let ones = layer_bits words z fits in
    omega (arith, rows, all, ones)
    in
    let layers = sum_over b.size.z _ _ each in
    let nested = sum_nested b.size.z 1024 (λ w. count_ones (slice_index words w)) in
    let turned : 1024 * b.size.z ≡ b.size.z * 1024 = omega arith in
    let whole : sum_below (1024 * b.size.z) (λ w. count_ones (slice_index words w)) ≡ sum_below (b.size.z * 1024) (λ w. count_ones (slice_index words w)) = ap (λ (k : ℕ). sum_below k (λ w. count_ones (slice_index words w))) turned in
    omega (arith, number, in_bits, layers, nested, whole)

-- one word more is counted
pub ones_more : (words : List ℕ) (k n word : ℕ)
    → n ≡ sum_below k (λ w. count_ones (slice_index words w)) → word ≡ slice_index words k
    → n + count_ones word ≡ sum_below (k + 1) (λ w. count_ones (slice_index words w))
ones_more words k n word is at =
    let one : suc k ≡ k + 1 = omega arith in
    let here : count_ones word ≡ count_ones (slice_index words k) = ap count_ones at in
    let step = sum_below-suc k (λ w. count_ones (slice_index words w)) in
    let e : sum_below (suc k) (λ w. count_ones (slice_index words w)) ≡ sum_below (k + 1) (λ w. count_ones (slice_index words w)) = ap (λ (j : ℕ). sum_below j (λ w. count_ones (slice_index words w))) one in
    omega (arith, is, here, step, e)

pub ones_few : (words : List ℕ) (k : ℕ) → ((w : ℕ) → slice_index words w < 2 ^ 64)
    → sum_below k (λ w. count_ones (slice_index words w)) ≤ k * 64
ones_few words k fits = sum_below-le k 64 _ (λ w _.
    let is = ones_all (slice_index words w) (fits w) in
    let few =
    sum_below-le 64 1 (λ m. one_if (bit_at (slice_index words w) m == 1))
    (λ m _. one_if-le (bit_at (slice_index words w) m == 1)) in
    omega (arith, is, few))

-- room for as many bits as are set is room for the voxels
pub enough_room : {Z : Type 0} (words : List ℕ) (size voxels number : ℕ) (v : Vec Voxel Z)
    → voxels ≤ sum_below size (λ w. count_ones (slice_index words w)) → length words ≡ size
    → number ≡ sum_below (length words) (λ w. count_ones (slice_index words w)) → HasRoom v number
    → HasRoom v voxels
enough_room words size voxels number v few is counted room =
    let same : sum_below (length words) (λ w. count_ones (slice_index words w)) ≡ sum_below size (λ w. count_ones (slice_index words w)) = ap (λ (k : ℕ). sum_below k (λ w. count_ones (slice_index words w))) is in
    omega (arith, few, counted, same, room)
