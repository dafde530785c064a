-- The cells of a model are collected, each where a voxel first stands at it.
use Rattle.std.proofs.Common.{◌≡◌, ◌≢◌, ℕ, ◌+◌, ◌*◌, ◌<◌, ◌≤◌, Bool, true, false, List, [], ◌∷◌, ◌++◌, length, take, get_or, All, reverse, refl, ap, sym, subst, ◌∙◌, arith, inl, inr}
use Rattle.std.specs.Prelude.{not, ◌&&◌, ◌||◌, AllPairs, None, find}
use Rattle.std.specs.List.{list_any}
use Rattle.std.proofs.lemmas.Bool.{cases_eq, both_ways, and_parts, or_parts}
use Rattle.std.proofs.Math.Bool.{or-true, or-false, and-true, and-false}
use Rattle.std.proofs.lemmas.List.Sorted.{list_any-IsPermutation, IsPermutation-reverse}
use Rattle.std.proofs.lemmas.List.{take_all, take_more}
use Rattle.std.proofs.lemmas.List.Folds.{list_any-append, list_any_at}
use Rattle.std.proofs.lemmas.List.Elements.{All-push, All-nil}
use Rattle.std.proofs.lemmas.List.Quantifiers.{all_pairs_push}
use Rattle.vw_cell.specs.Bits.{is_set}
use Rattle.vw_cell.specs.declared.cells.Cell.{Cell}
use Rattle.vw_cell.specs.Counts.{IsBelow}
use Rattle.vox_read.specs.declared.voxels.Voxel.{Voxel}
use Rattle.vox_read.specs.Contents.{Content, is_cell, is_voxel_at, IsInsideModel}
use Rattle.vox_read.specs.Places.{voxel_place, index_of, volume_of}
use Rattle.vox_read.specs.Marks.{Marks}
use Rattle.vox_read.specs.Cells.{has_voxel, AreCells}
use Rattle.vox_read.proofs.Bounds.{index_below, place_below, same_place}
use Rattle.vox_read.proofs.Marking.{stands, stands_tells, stands_not, one_place}

-- after some voxels: the cells among their places are collected, and the bits mark the others
pub record Collects (size : Cell) (voxels seen : List Voxel) (words : List ℕ)
    (cells : List Voxel) : Type 0 where
  pub room : volume_of size ≤ 64 * length words
  pub left : (c : Cell) → IsBelow size c
      → is_set words (index_of size c) ≡ (is_cell voxels c && not (has_voxel cells c))
  pub collected : (c : Cell) → has_voxel cells c ≡ (has_voxel seen c && is_cell voxels c)
  pub inside : All (IsInsideModel size) cells
  pub once : AllPairs (λ v w. voxel_place v ≢ voxel_place w) cells

-- of tests
not_tells : (b : Bool) → not b ≡ true → b ≡ false
not_tells true e = absurd (both_ways false refl e)
not_tells false e = refl

-- a place that is collected now, and one that was before or is no cell
joins : (at collected seen cell : Bool) → collected ≡ (seen && cell) → (at ≡ true → cell ≡ true)
    → (collected || at) ≡ ((seen || at) && cell)
joins true collected seen cell so_far is = rw (or-true collected, or-true seen, is refl) refl
joins false collected seen cell so_far is = rw (or-false collected, or-false seen) so_far

stays : (at collected seen cell : Bool) → collected ≡ (seen && cell)
    → (at ≡ true → (cell && not collected) ≡ false) → collected ≡ ((seen || at) && cell)
stays false collected seen cell so_far done = rw (or-false seen) so_far
stays true true seen true so_far done = rw (or-true seen) refl
stays true false seen true so_far done = absurd (both_ways true (done refl) refl)
stays true true seen false so_far done = absurd (both_ways true (so_far ∙ and-false seen) refl)
stays true false seen false so_far done = rw (or-true seen) refl

has_more : (cells : List Voxel) (v : Voxel) (c : Cell)
    → has_voxel (cells ++ v ∷ []) c ≡ (has_voxel cells c || is_voxel_at c v)
has_more cells v c =
    list_any-append (is_voxel_at c) cells (v ∷ [])
    ∙ ap (λ (b : Bool). has_voxel cells c || b) (or-false (is_voxel_at c v))

-- before the first voxel
pub collects_none : (size : Cell) (voxels : List Voxel) (words : List ℕ) (number : ℕ)
    → Marks size voxels words number → Collects size voxels [] words []
collects_none size voxels words number marks =
    record {
      room = marks.room;
      left = λ c below. marks.each c below ∙ sym (and-true (is_cell voxels c));
      collected = λ c. refl;
      inside = All-nil _;
      once = λ i j d before within. absurd (let no : ⊥ = omega arith in no);
    }

-- what holds of the voxel's place, from its bit
left_at : (size : Cell) (voxels seen : List Voxel) (words : List ℕ) (cells : List Voxel) (v : Voxel)
    (c : Cell) (was : Bool) → IsInsideModel size v → Collects size voxels seen words cells
    → is_set words (index_of size (voxel_place v)) ≡ was → is_voxel_at c v ≡ true
    → (is_cell voxels c && not (has_voxel cells c)) ≡ was
left_at size voxels seen words cells v c was inside so_far bit at =
    subst (λ (p : Cell). (is_cell voxels p && not (has_voxel cells p)) ≡ was)
    (sym (one_place c v (stands_tells c v at)))
    (sym (so_far.left (voxel_place v) (place_below size v inside)) ∙ bit)

-- a voxel whose bit is set is collected
collects_one : (size : Cell) (voxels seen : List Voxel) (words words' : List ℕ) (cells : List Voxel)
    (v : Voxel) → IsInsideModel size v → Collects size voxels seen words cells
    → is_set words (index_of size (voxel_place v)) ≡ true
    → is_set words' (index_of size (voxel_place v)) ≡ false
    → ((j : ℕ) → j ≢ index_of size (voxel_place v) → is_set words' j ≡ is_set words j)
    → length words' ≡ length words → Collects size voxels (seen ++ v ∷ []) words' (cells ++ v ∷ [])
collects_one size voxels seen words words' cells v inside so_far bit cleared others same_length =
    let at : Cell = voxel_place v in
    let below : IsBelow size at = place_below size v inside in
    let free : has_voxel cells at ≡ false =
    not_tells _ (and_parts _ _
    (left_at size voxels seen words cells v at true inside so_far bit
    (stands at v refl refl refl))).1 in
    record {
      room = rw same_length so_far.room;
      left = λ c of_c.
          (left_of c of_c
          ∙ ap (λ (b : Bool). is_cell voxels c && not b) (sym (has_more cells v c)));
      collected = λ c.
          (has_more cells v c
          ∙ joins (is_voxel_at c v) (has_voxel cells c) (has_voxel seen c) (is_cell voxels c)
          (so_far.collected c)
          (λ t. (and_parts _ _
          (left_at size voxels seen words cells v c true inside so_far bit t)).0)
          ∙ ap (λ (b : Bool). b && is_cell voxels c) (sym (has_more seen v c)));
      inside = All-push (IsInsideModel size) cells v so_far.inside inside;
      once =
          all_pairs_push (λ v w. voxel_place v ≢ voxel_place w) cells v so_far.once
          (λ k d lt same. both_ways (has_voxel cells at) free
          (list_any_at (is_voxel_at at) cells k d lt
          (stands at (get_or cells k d) (ap (λ (p : Cell). p.x) same)
          (ap (λ (p : Cell). p.y) same) (ap (λ (p : Cell). p.z) same))));
    }
  where
    left_of : (c : Cell) → IsBelow size c
        → is_set words' (index_of size c) ≡
        (is_cell voxels c && not (has_voxel cells c || is_voxel_at c v))
    left_of c of_c =
        elim (cases_eq (index_of size c) (index_of size (voxel_place v))) [
          | inl one ↦
              let same : (c.x ≡ v.x) × (c.y ≡ v.y) × (c.z ≡ v.z) =
              same_place size c (voxel_place v) of_c (place_below size v inside) one in
              let here : is_voxel_at c v ≡ true = stands c v (sym same.0) (sym same.1) (sym same.2) in
              let taken : (is_cell voxels c && not (has_voxel cells c || is_voxel_at c v)) ≡ false =
              rw (here, or-true (has_voxel cells c), and-false (is_cell voxels c)) refl in
              ap (is_set words') one ∙ cleared ∙ sym taken
          | inr apart ↦
              let there : is_voxel_at c v ≡ false =
              stands_not (is_voxel_at c v)
              (λ t. apart (ap (index_of size) (one_place c v (stands_tells c v t)))) in
              others (index_of size c) apart ∙ so_far.left c of_c
              ∙ ap (λ (b : Bool). is_cell voxels c && not b)
              (sym (ap (λ (b : Bool). has_voxel cells c || b) there
              ∙ or-false (has_voxel cells c)))
        ]

-- a voxel whose bit is clear is passed
collects_same : (size : Cell) (voxels seen : List Voxel) (words words' : List ℕ)
    (cells : List Voxel) (v : Voxel) → IsInsideModel size v → Collects size voxels seen words cells
    → is_set words (index_of size (voxel_place v)) ≡ false
    → is_set words' (index_of size (voxel_place v)) ≡ false
    → ((j : ℕ) → j ≢ index_of size (voxel_place v) → is_set words' j ≡ is_set words j)
    → length words' ≡ length words → Collects size voxels (seen ++ v ∷ []) words' cells
collects_same size voxels seen words words' cells v inside so_far bit cleared others same_length =
    record {
      room = rw same_length so_far.room;
      left = λ c of_c. (unchanged (index_of size c) ∙ so_far.left c of_c);
      collected = λ c.
          (stays (is_voxel_at c v) (has_voxel cells c) (has_voxel seen c) (is_cell voxels c)
          (so_far.collected c)
          (λ t. left_at size voxels seen words cells v c false inside so_far bit t)
          ∙ ap (λ (b : Bool). b && is_cell voxels c) (sym (has_more seen v c)));
      inside = so_far.inside;
      once = so_far.once;
    }
  where
    unchanged : (j : ℕ) → is_set words' j ≡ is_set words j
    unchanged j =
        elim (cases_eq j (index_of size (voxel_place v))) [
          | inl one ↦ ap (is_set words') one ∙ cleared ∙ sym bit ∙ ap (is_set words) (sym one)
          | inr apart ↦ others j apart
        ]

-- what the loop does with a voxel, by its bit
abbrev pub with_voxel : Bool → List Voxel → Voxel → List Voxel
with_voxel true cells v = cells ++ v ∷ []
with_voxel false cells v = cells

collects_more : (size : Cell) (voxels seen : List Voxel) (words words' : List ℕ)
    (cells : List Voxel) (v : Voxel) (was : Bool) → IsInsideModel size v
    → Collects size voxels seen words cells
    → was ≡ is_set words (index_of size (voxel_place v))
    → is_set words' (index_of size (voxel_place v)) ≡ false
    → ((j : ℕ) → j ≢ index_of size (voxel_place v) → is_set words' j ≡ is_set words j)
    → length words' ≡ length words
    → Collects size voxels (seen ++ v ∷ []) words' (with_voxel was cells v)
collects_more size voxels seen words words' cells v true inside so_far was cleared others same_length =
    collects_one size voxels seen words words' cells v inside so_far
    (sym was) cleared others same_length
collects_more size voxels seen words words' cells v false inside so_far was cleared others same_length =
    collects_same size voxels seen words words' cells v inside so_far
    (sym was) cleared others same_length

-- the bit of a voxel of the list is there
pub bit_inside : (size seen : Cell) (voxels items : List Voxel) (k i : ℕ) (words : List ℕ)
    (d : Voxel) → size ≡ seen → items ≡ voxels → k < length items → All (IsInsideModel seen) voxels
    → volume_of size ≤ 64 * length words → i ≡ index_of size (voxel_place (get_or items k d))
    → i < 64 * length words
bit_inside size seen voxels items k i words d size_is same inside all room of_i =
    let within : k < length voxels = rw (← same) inside in
    let item : get_or items k d ≡ get_or voxels k d =
    ap (λ (xs : List Voxel). get_or xs k d) same in
    let is_voxel_in : IsInsideModel size (get_or items k d) = rw (size_is, item) (all k d within) in
    let below : index_of size (voxel_place (get_or items k d)) < volume_of size =
    index_below size (voxel_place (get_or items k d))
    (place_below size (get_or items k d) is_voxel_in) in
    omega (arith, of_i, below, room)

-- one turn of the loop: the voxel at place k of the list, whose bit is number i
pub collects_step : (size seen : Cell) (voxels items : List Voxel) (k i : ℕ) (words words' : List ℕ)
    (cells cells' : List Voxel) (was : Bool) (d : Voxel) → size ≡ seen → items ≡ voxels
    → k < length items
    → All (IsInsideModel seen) voxels → Collects size voxels (take k voxels) words cells
    → i ≡ index_of size (voxel_place (get_or items k d)) → was ≡ is_set words i
    → is_set words' i ≡ false
    → ((j : ℕ) → j ≢ i → is_set words' j ≡ is_set words j) → length words' ≡ length words
    → cells' ≡ with_voxel was cells (get_or items k d)
    → Collects size voxels (take (k + 1) voxels) words' cells'
collects_step size seen voxels items k i words words' cells cells' was d size_is same inside all so_far of_i of_was cleared others same_length pushed =
    let within : k < length voxels = rw (← same) inside in
    let item : get_or items k d ≡ get_or voxels k d =
    ap (λ (xs : List Voxel). get_or xs k d) same in
    let at : i ≡ index_of size (voxel_place (get_or voxels k d)) =
    of_i ∙ ap (λ (v : Voxel). index_of size (voxel_place v)) item in
    let is_voxel_in : IsInsideModel size (get_or voxels k d) = rw size_is (all k d within) in
    rw (take_more voxels k d within, pushed, item)
    (collects_more size voxels (take k voxels) words words' cells
    (get_or voxels k d) was is_voxel_in so_far (of_was ∙ ap (is_set words) at)
    (ap (is_set words') (sym at) ∙ cleared)
    (λ j other. others j (λ e. other (e ∙ at))) same_length)

-- where no voxel stands there is no cell
passed_by : (test : Voxel → Bool) (voxels : List Voxel) → list_any test voxels ≡ false
    → find test voxels ≡ None
passed_by test [] none = refl
passed_by test (v ∷ voxels) none =
    let each = or_parts (test v) (list_any test voxels) none in
    rw each.0 (passed_by test voxels each.1)

no_voxel : (voxels : List Voxel) (c : Cell) → has_voxel voxels c ≡ false → is_cell voxels c ≡ false
no_voxel voxels c none =
    let turned : has_voxel (reverse voxels) c ≡ false =
    sym (list_any-IsPermutation (is_voxel_at c) voxels (reverse voxels)
    (IsPermutation-reverse voxels)) ∙ none in
    rw (passed_by (is_voxel_at c) (reverse voxels) turned) refl

-- after the last voxel
pub all_collected : (m : Content) (size : Cell) (k : ℕ) (words : List ℕ) (cells : List Voxel)
    → size ≡ m.size → length m.voxels ≤ k → Collects size m.voxels (take k m.voxels) words cells
    → AreCells m cells
all_collected m size k words cells size_is past so_far =
    record {
      exactly = λ p.
          (so_far.collected p
          ∙ ap (λ (seen : List Voxel). has_voxel seen p && is_cell m.voxels p)
          (take_all k m.voxels past)
          ∙ covers (has_voxel m.voxels p) (is_cell m.voxels p) (no_voxel m.voxels p));
      inside = subst (λ (s : Cell). All (IsInsideModel s) cells) size_is so_far.inside;
      once = so_far.once;
    }
  where
    covers : (has cell : Bool) → (has ≡ false → cell ≡ false) → (has && cell) ≡ cell
    covers true cell none = refl
    covers false cell none = sym (none refl)
