-- Runs of a leaf's bits, and rows of words.
use Rattle.std.proofs.Common.{◌≡◌, ℕ, zero, suc, ◌+◌, ◌-◌, ◌*◌, ◌/◌, ◌%◌, ◌^◌, ◌<◌, ◌≤◌, ◌⊎◌, Bool, List, [], ◌∷◌, ◌++◌, length, refl, ap, sym, subst, ◌∙◌, inl, inr, arith, max, min, length-append}
use Rattle.std.specs.Prelude.{bit_and, bit_or, slice_index, ◌==◌}
use Rattle.std.specs.Int.{bit_at, w64}
use Rattle.std.proofs.lemmas.Bool.{cases_lt}
use Rattle.std.proofs.lemmas.Nat.{mod-mul-add, div-mul-add}
use Rattle.std.proofs.lemmas.Nat.Bits.{bit_at_or, bit_at_and, bit_at_not, bit_at-lt, bit_at_ones, bit_at_ones_above, bit_at_cat_high, bit_at_cat_low, bit_at-zero}
use Rattle.std.proofs.lemmas.Nat.{pow_pos}
use Rattle.vw_cell.specs.Runs.{low_ones}
use Rattle.node_words.specs.Sums.{one_if}
use Rattle.vw_cell.specs.declared.cells.Cell.{Cell}
use Rattle.vw_cell.specs.declared.boxes.Boxed.{Boxed}
use Rattle.vw_cell.specs.Counts.{cell_at}
use Rattle.node_words.specs.shapes.Shape.{bit_number}
use Rattle.node_words.specs.kernels.Leaves.{LeafShows}
use Rattle.node_words.proofs.OfDescent.LookLaws.{same_cell}
use Rattle.extract.specs.Layers.{leaves_along, leaves_in, leaf_block, leaf_corner, HoldsLayer, IsSmallLayer}
use Rattle.flood.proofs.SpreadLaws.{bit_at_low, bit_at_down}
use Rattle.std.specs.Prelude.{vec_len, vec_capacity}
use Rattle.std.specs.declared.vec.Vec.{Vec}
use Rattle.flood.specs.Rows.{TakesRun, TellsRun, TellsRow, AreTold, AppendsWords, HasRoomFor}

-- ---- clear bits of a leaf, moved

shifted_bit : (x k m : ℕ) → m < 64 → k ≤ m → bit_at (x * 2 ^ k % 2 ^ 64) m ≡ bit_at x (m - k)
shifted_bit x k m h le =
    let plus : x * 2 ^ k ≡ x * 2 ^ k + 0 = omega arith in
    bit_at_low (x * 2 ^ k) m h ∙ ap (λ (a : ℕ). bit_at a m) plus
    ∙ bit_at_cat_high x k 0 m (pow_pos k) le

below_shift : (x k m : ℕ) → m < 64 → m < k → bit_at (x * 2 ^ k % 2 ^ 64) m ≡ 0
below_shift x k m h lt =
    let plus : x * 2 ^ k ≡ x * 2 ^ k + 0 = omega arith in
    bit_at_low (x * 2 ^ k) m h ∙ ap (λ (a : ℕ). bit_at a m) plus ∙ bit_at_cat_low x k 0 m lt
    ∙ bit_at-zero m

pub takes_run : (leaf first n k : ℕ) → leaf < 2 ^ 64 → 1 ≤ n → first + n ≤ 64 → k + n ≤ 64
    → TakesRun leaf first n k
    (bit_and ((2 ^ 64 - 1 - leaf) / 2 ^ first) ((2 ^ 64 - 1) / 2 ^ (64 - n)) * 2 ^ k % 2 ^ 64)
takes_run leaf first n k fits some in_leaf in_word =
    let mask : (2 ^ 64 - 1) / 2 ^ (64 - n) ≡ 2 ^ n - 1 = low_ones n (omega arith) in
    let flipped : ℕ = 2 ^ 64 - 1 - leaf in
    let picked : ℕ = bit_and (flipped / 2 ^ first) ((2 ^ 64 - 1) / 2 ^ (64 - n)) in
    record {
      inside = λ i lt.
          let here : bit_at (picked * 2 ^ k % 2 ^ 64) (k + i) ≡ bit_at picked (k + i - k) =
          shifted_bit picked k (k + i) (omega arith) (omega arith) in
          let back : k + i - k ≡ i = omega arith in
          let same : bit_at picked (k + i - k) ≡ bit_at picked i =
          ap (λ (a : ℕ). bit_at picked a) back in
          let both : bit_at picked i ≡ min (bit_at (flipped / 2 ^ first) i) (bit_at ((2 ^ 64 - 1) / 2 ^ (64 - n)) i) = bit_at_and (flipped / 2 ^ first) ((2 ^ 64 - 1) / 2 ^ (64 - n)) i in
          let one : bit_at ((2 ^ 64 - 1) / 2 ^ (64 - n)) i ≡ 1 =
          ap (λ (a : ℕ). bit_at a i) mask ∙ bit_at_ones n i lt in
          let down : bit_at (flipped / 2 ^ first) i ≡ bit_at flipped (first + i) =
          bit_at_down flipped first i in
          let off : bit_at flipped (first + i) ≡ 1 - bit_at leaf (first + i) =
          bit_at_not w64 leaf (first + i) fits (omega arith) in
          let small : bit_at leaf (first + i) < 2 = bit_at-lt leaf (first + i) in
          omega (arith, here, same, both, one, down, off, small);
      outside = λ m h off. elim off [
        | inl below ↦ below_shift picked k m h below
        | inr above ↦ (
            let here : bit_at (picked * 2 ^ k % 2 ^ 64) m ≡ bit_at picked (m - k) =
            shifted_bit picked k m h (omega arith) in
            let both : bit_at picked (m - k) ≡ min (bit_at (flipped / 2 ^ first) (m - k)) (bit_at ((2 ^ 64 - 1) / 2 ^ (64 - n)) (m - k)) = bit_at_and (flipped / 2 ^ first) ((2 ^ 64 - 1) / 2 ^ (64 - n)) (m - k) in
            let none : bit_at ((2 ^ 64 - 1) / 2 ^ (64 - n)) (m - k) ≡ 0 =
            ap (λ (a : ℕ). bit_at a (m - k)) mask ∙ bit_at_ones_above n (m - k) (omega arith) in
            omega (arith, here, both, none))
      ];
    }

-- ---- a cell of a row, as a bit of its leaf

run_place : (at p i x0 : ℕ) → x0 ≤ (at + p) / 4
    → 4 * (x0 + ((at + p) / 4 - x0)) + ((at + p) % 4 + i) ≡ at + (p + i)
run_place at p i x0 h = omega arith

row_place : (at y0 : ℕ) → y0 ≤ at / 4 → 4 * (y0 + (at / 4 - y0)) + at % 4 ≡ at
row_place at y0 h = omega arith

leaf_cell : (words : List ℕ) (b : Boxed) (z y p i m leaf : ℕ) (cells : Cell → Bool) → IsSmallLayer b
    → y < b.size.y → p + i < b.size.x → (b.at.x + p) % 4 + i < 4
    → m ≡ ((b.at.y + y) / 4 - b.at.y / 4) * leaves_along b + ((b.at.x + p) / 4 - b.at.x / 4)
    → m < leaves_in b → leaf ≡ slice_index words m
    → HoldsLayer words b ((b.at.z + z) / 4) (leaves_in b) cells
    → (bit_at leaf (bit_number ((b.at.x + p) % 4 + i) ((b.at.y + y) % 4) ((b.at.z + z) % 4)) == 1)
    ≡ cells (cell_at (b.at.x + (p + i)) (b.at.y + y) (b.at.z + z))
leaf_cell words b z y p i m leaf cells small ly lp in_leaf is inside word held =
    let along : ℕ = leaves_along b in
    let down : ℕ = (b.at.y + y) / 4 - b.at.y / 4 in
    let right : ℕ = (b.at.x + p) / 4 - b.at.x / 4 in
    let near : right < along = omega arith in
    let col : m % along ≡ right =
    ap (λ (j : ℕ). j % along) is ∙ mod-mul-add down along right near in
    let line : m / along ≡ down =
    ap (λ (j : ℕ). j / along) is ∙ div-mul-add down along right near in
    let shows =
    subst (λ (w : ℕ). LeafShows w (leaf_block (leaf_corner b ((b.at.z + z) / 4) m)) cells)
    (sym word) (held.each m inside) in
    let place : cell_at (4 * (b.at.x / 4 + m % along) + ((b.at.x + p) % 4 + i)) (4 * (b.at.y / 4 + m / along) + (b.at.y + y) % 4) (4 * ((b.at.z + z) / 4) + (b.at.z + z) % 4) ≡ cell_at (b.at.x + (p + i)) (b.at.y + y) (b.at.z + z) =
    same_cell _ _ _ _
    (ap (λ (j : ℕ). 4 * (b.at.x / 4 + j) + ((b.at.x + p) % 4 + i)) col
    ∙ run_place b.at.x p i (b.at.x / 4) (omega arith))
    (ap (λ (j : ℕ). 4 * (b.at.y / 4 + j) + (b.at.y + y) % 4) line
    ∙ row_place (b.at.y + y) (b.at.y / 4) (omega arith))
    (omega arith)
    in
    shows.each ((b.at.x + p) % 4 + i) ((b.at.y + y) % 4) ((b.at.z + z) % 4) (omega arith)
    (omega arith) (omega arith) ∙ ap cells place

one_if_bit : (bit : ℕ) (set : Bool) → bit < 2 → (bit == 1) ≡ set → one_if set ≡ bit
one_if_bit zero set h e = sym (ap one_if e)
one_if_bit (suc zero) set h e = sym (ap one_if e)
one_if_bit (suc (suc bit)) set h e = absurd (omega arith)

-- ---- a run of a row, a leaf further

pub run_none : (b : Boxed) (cells : Cell → Bool) (z y from : ℕ) → TellsRun b cells z y from 0 0
run_none b cells z y from =
    record { inside = λ m lt. absurd (omega arith); outside = λ m h le. bit_at-zero m }

run_more : (b : Boxed) (cells : Cell → Bool) (z y from k n word leaf first bits : ℕ) → k + n ≤ 64
    → TellsRun b cells z y from k word → TakesRun leaf first n k bits
    →
    ((i : ℕ) → i < n → (bit_at leaf (first + i) == 1)
    ≡ cells (cell_at (b.at.x + (from + k + i)) (b.at.y + y) (b.at.z + z)))
    → TellsRun b cells z y from (k + n) (bit_or word bits)
run_more b cells z y from k n word leaf first bits in_word told taken shows = record {
  inside = λ m lt.
      let both : bit_at (bit_or word bits) m ≡ max (bit_at word m) (bit_at bits m) =
      bit_at_or word bits m in
      elim (cases_lt m k) [
        | inl before ↦ (
            let here = told.inside m before in
            let none = taken.outside m (omega arith) (inl before) in
            omega (arith, both, here, none))
        | inr after ↦ (
            let back : k + (m - k) ≡ m = omega arith in
            let none = told.outside m (omega arith) after in
            let here : bit_at bits (k + (m - k)) + bit_at leaf (first + (m - k)) ≡ 1 =
            taken.inside (m - k) (omega arith) in
            let same : bit_at bits (k + (m - k)) ≡ bit_at bits m =
            ap (λ (a : ℕ). bit_at bits a) back in
            let place : from + k + (m - k) ≡ from + m = omega arith in
            let set : one_if (cells (cell_at (b.at.x + (from + k + (m - k))) (b.at.y + y) (b.at.z + z))) ≡ bit_at leaf (first + (m - k)) = one_if_bit (bit_at leaf (first + (m - k))) _ (bit_at-lt leaf (first + (m - k))) (shows (m - k) (omega arith)) in
            let at : one_if (cells (cell_at (b.at.x + (from + k + (m - k))) (b.at.y + y) (b.at.z + z))) ≡ one_if (cells (cell_at (b.at.x + (from + m)) (b.at.y + y) (b.at.z + z))) = ap (λ (a : ℕ). one_if (cells (cell_at (b.at.x + a) (b.at.y + y) (b.at.z + z)))) place in
            omega (arith, both, none, here, same, set, at))
      ];
  outside = λ m h le.
      let both : bit_at (bit_or word bits) m ≡ max (bit_at word m) (bit_at bits m) =
      bit_at_or word bits m in
      let none = told.outside m h (omega arith) in
      let off = taken.outside m h (inr le) in
      omega (arith, both, none, off);
}

pub leaf_of_run : (b : Boxed) (y p row m : ℕ) → IsSmallLayer b → y < b.size.y → p < b.size.x
    → row + leaves_along b ≤ leaves_in b → m ≡ row + ((b.at.x + p) / 4 - b.at.x / 4)
    → m < leaves_in b
leaf_of_run b y p row m small ly lp fits e =
    let near : (b.at.x + p) / 4 - b.at.x / 4 < leaves_along b = omega arith in omega
    (arith, near, fits)

pub run_on : (words : List ℕ) (b : Boxed) (cells : Cell → Bool)
    (z y from k n size row right bit word bits : ℕ) → IsSmallLayer b → y < b.size.y
    → from + size ≤ b.size.x → size ≤ 64 → k + n ≤ size → (b.at.x + (from + k)) % 4 + n ≤ 4 → 1 ≤ n
    → row ≡ ((b.at.y + y) / 4 - b.at.y / 4) * leaves_along b → row + leaves_along b ≤ leaves_in b
    → right ≡ (b.at.x + (from + k)) / 4 - b.at.x / 4
    → bit ≡ 4 * ((b.at.y + y) % 4) + 16 * ((b.at.z + z) % 4)
    → HoldsLayer words b ((b.at.z + z) / 4) (leaves_in b) cells → TellsRun b cells z y from k word
    → TakesRun (slice_index words (row + right)) ((b.at.x + (from + k)) % 4 + bit) n k bits
    → TellsRun b cells z y from (k + n) (bit_or word bits)
run_on words b cells z y from k n size row right bit word bits small ly lx few lk in_leaf some row_is inside right_is bit_is held told taken =
    let right_at : (b.at.x + (from + k)) / 4 - b.at.x / 4 ≡ (b.at.x + (from + k)) / 4 - b.at.x / 4 =
    refl in
    let number : row + right ≡ ((b.at.y + y) / 4 - b.at.y / 4) * leaves_along b + ((b.at.x + (from + k)) / 4 - b.at.x / 4) = rw (row_is, right_is) refl in
    let there : row + right < leaves_in b =
    leaf_of_run b y (from + k) row (row + right) small ly (omega arith) inside
    (ap (λ (j : ℕ). row + j) right_is) in
    run_more b cells z y from k n word (slice_index words (row + right))
    ((b.at.x + (from + k)) % 4 + bit) bits (omega arith) told taken
    (λ i lt.
    let e : (b.at.x + (from + k)) % 4 + bit + i ≡ bit_number ((b.at.x + (from + k)) % 4 + i) ((b.at.y + y) % 4) ((b.at.z + z) % 4) = omega arith in
    ap (λ (j : ℕ). bit_at (slice_index words (row + right)) j == 1) e
    ∙ leaf_cell words b z y (from + k) i (row + right)
    (slice_index words (row + right)) cells small ly (omega arith)
    (omega arith) number there refl held)

-- ---- a word of a row

pub row_none : (b : Boxed) (cells : Cell → Bool) (z y from : ℕ) → (b.size.y ≤ y) ⊎ (b.size.x ≤ from)
    → TellsRow b cells z y from 0
row_none b cells z y from (inl below) =
    record { inside = λ m h lx ly. absurd (omega arith); outside = λ m h off. bit_at-zero m }
row_none b cells z y from (inr right) =
    record { inside = λ m h lx ly. absurd (omega arith); outside = λ m h off. bit_at-zero m }

pub row_of_run : (b : Boxed) (cells : Cell → Bool) (z y from n word : ℕ) → y < b.size.y
    → n ≡ min (b.size.x - from) 64 → TellsRun b cells z y from n word
    → TellsRow b cells z y from word
row_of_run b cells z y from n word ly is told = record {
  inside = λ m h lx _. told.inside m (omega arith);
  outside = λ m h off. elim off [
    | inl right ↦ told.outside m h (omega arith)
    | inr below ↦ absurd (omega arith)
  ];
}

-- ---- words one after another

get_left : (xs ys : List ℕ) (k : ℕ) → k < length xs → slice_index (xs ++ ys) k ≡ slice_index xs k
get_left [] ys k lt = absurd (omega arith)
get_left (x ∷ xs) ys zero lt = refl
get_left (x ∷ xs) ys (suc k) lt = get_left xs ys k (omega arith)

get_last : (xs : List ℕ) (y k : ℕ) → k ≡ length xs → slice_index (xs ++ y ∷ []) k ≡ y
get_last xs y k e = ap (λ (j : ℕ). slice_index (xs ++ y ∷ []) j) e ∙ at_end xs y where
  at_end : (xs : List ℕ) (y : ℕ) → slice_index (xs ++ y ∷ []) (length xs) ≡ y
  at_end [] y = refl
  at_end (x ∷ xs) y = at_end xs y

pub told_none : (b : Boxed) (cells : Cell → Bool) (words : List ℕ) → length words ≡ 0
    → AreTold b cells words
told_none b cells words none = record { each = λ w lt. absurd (omega arith) }

pub told_more : (b : Boxed) (cells : Cell → Bool) (words : List ℕ) (z w word : ℕ)
    → length words ≡ 1024 * z + w → w < 1024 → TellsRow b cells z (w / 4) (64 * (w % 4)) word
    → AreTold b cells words → AreTold b cells (words ++ word ∷ [])
told_more b cells words z w word here lt tells told = record {
  each = λ v lt_v. elim (cases_lt v (length words)) [
    | inl before ↦ subst (λ (x : ℕ). TellsRow b cells (v / 1024) (v / 4 % 256) (64 * (v % 4)) x)
        (sym (get_left words (word ∷ []) v before)) (told.each v before)
    | inr last ↦ (
        let all = length-append words (word ∷ []) in
        let is : v ≡ length words = omega (arith, all) in
        let of_z : z ≡ v / 1024 = omega arith in
        let of_y : w / 4 ≡ v / 4 % 256 = omega arith in
        let of_x : 64 * (w % 4) ≡ 64 * (v % 4) = omega arith in
        subst (λ (x : ℕ). TellsRow b cells (v / 1024) (v / 4 % 256) (64 * (v % 4)) x)
        (sym (get_last words word v is))
        (subst (λ (a : ℕ). TellsRow b cells a (v / 4 % 256) (64 * (v % 4)) word) of_z
        (subst (λ (a : ℕ). TellsRow b cells z a (64 * (v % 4)) word) of_y
        (subst (λ (a : ℕ). TellsRow b cells z (w / 4) a word) of_x tells))))
  ];
}

-- ---- how many words came

pub words_none : {Z : Type 0} (v : Vec ℕ Z) → AppendsWords 0 v v
words_none v = record { items = omega arith; len = omega arith; room = refl }

pub words_one : {Z : Type 0} (n word : ℕ) (old mid new : Vec ℕ Z) → AppendsWords n old mid
    → new.items ≡ mid.items ++ word ∷ [] → vec_len new ≡ vec_len mid + 1
    → vec_capacity new ≡ vec_capacity mid → AppendsWords (n + 1) old new
words_one n word old mid new a items len room =
    let all = length-append mid.items (word ∷ []) in
    let many : length new.items ≡ length (mid.items ++ word ∷ []) = ap length items in
    record {
      items = omega (arith, all, many, a.items);
      len = omega (arith, len, a.len);
      room = room
          ∙ a.room;
    }

pub words_on : {Z : Type 0} (n m k : ℕ) (old mid new : Vec ℕ Z) → AppendsWords n old mid
    → AppendsWords m mid new → k ≡ n + m → AppendsWords k old new
words_on n m k old mid new p q e =
    record {
      items = omega (arith, p.items, q.items, e);
      len = omega
          (arith, p.len, q.len, e);
      room = q.room ∙ p.room;
    }

pub room_left : {Z : Type 0} (n m k : ℕ) (old mid : Vec ℕ Z) → AppendsWords n old mid → n + m ≤ k
    → HasRoomFor old k → HasRoomFor mid m
room_left n m k old mid a fits room = omega (arith, a.len, a.room, fits, room)
