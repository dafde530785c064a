-- One more voxel changes one place.
use Rattle.std.proofs.Common.{
  ◌≡◌,
  ◌≢◌,
  ℕ,
  ◌+◌,
  ◌*◌,
  ◌^◌,
  ◌<◌,
  ◌≤◌,
  List,
  [],
  ◌∷◌,
  ◌++◌,
  Bool,
  length,
  take,
  get_or,
  All,
  refl,
  ap,
  sym,
  ◌∙◌,
  arith,
  reverse,
  eq-eqb,
  inl,
  inr,
}
use Rattle.std.specs.Prelude.{not, ◌==◌, cond, find, Some, true, false}
use Rattle.std.proofs.lemmas.List.{reverse-append, take_more}
use Rattle.std.proofs.lemmas.Bool.{cases_eq}
use Rattle.std.proofs.lemmas.Bool.Decides.{nat_tests}
use Rattle.vw_cell.specs.Bits.{is_set}
use Rattle.vw_cell.specs.declared.cells.Cell.{Cell}
use Rattle.vw_cell.specs.Sums.{one_if}
use Rattle.vw_cell.specs.Counts.{IsBelow, number_below, number_below-change, number_below-at, number_below-none}
use Rattle.vox_read.specs.declared.voxels.Voxel.{Voxel}
use Rattle.vox_read.specs.Contents.{is_cell, is_voxel_at, colour_of, IsInsideModel, IsSize}
use Rattle.vox_read.specs.Places.{voxel_place, index_of, volume_of}
use Rattle.vox_read.specs.Marks.{Marks}
use Rattle.vox_read.proofs.Bounds.{place_below, same_place, count_small}

-- the last voxel decides at its own place
is_cell-more : (voxels : List Voxel) (v : Voxel) (c : Cell)
    → is_cell (voxels ++ v ∷ []) c ≡ cond (is_voxel_at c v) (not (v.colour == 0)) (is_cell voxels c)
is_cell-more voxels v c = rw reverse-append (cases (is_voxel_at c v)) where
  cases : (b : Bool)
      → not (colour_of (cond b (Some v) (find (is_voxel_at c) (reverse voxels))) == 0) ≡ cond b
      (not (v.colour == 0)) (is_cell voxels c)
  cases true = refl
  cases false = refl

-- the test of a place, both ways
pub stands : (c : Cell) (v : Voxel) → v.x ≡ c.x → v.y ≡ c.y → v.z ≡ c.z → is_voxel_at c v ≡ true
stands c v x y z = rw (eq-eqb v.x c.x x, eq-eqb v.y c.y y, eq-eqb v.z c.z z) refl

pub stands_tells : (c : Cell) (v : Voxel) → (is_voxel_at c v ≡ true)
    → (v.x ≡ c.x) × (v.y ≡ c.y) × (v.z ≡ c.z)
stands_tells c v h = (grind (arith, nat_tests), grind (arith, nat_tests), grind (arith, nat_tests))

pub one_place : (c : Cell) (v : Voxel) → (v.x ≡ c.x) × (v.y ≡ c.y) × (v.z ≡ c.z) → c ≡ voxel_place v
one_place c v e = rw (e.0, e.1, e.2) refl

pub stands_not : (b : Bool) → (b ≡ true → ⊥) → b ≡ false
stands_not true h = absurd (h refl)
stands_not false h = refl

-- at another place nothing changes
elsewhere : (voxels : List Voxel) (v : Voxel) (c : Cell) → (is_voxel_at c v ≡ true → ⊥)
    → is_cell (voxels ++ v ∷ []) c ≡ is_cell voxels c
elsewhere voxels v c other = rw (is_cell-more voxels v c, stands_not (is_voxel_at c v) other) refl

-- at its own place it decides
here : (voxels : List Voxel) (v : Voxel) (c : Cell) → is_voxel_at c v ≡ true
    → is_cell (voxels ++ v ∷ []) c ≡ not (v.colour == 0)
here voxels v c at = rw (is_cell-more voxels v c, at) refl

-- what the loop over the voxels keeps
pub marks_more : (size : Cell) (voxels : List Voxel) (v : Voxel) (words words' : List ℕ)
    (cells cells' : ℕ) (was now : Bool) → IsInsideModel size v → Marks size voxels words cells
    → was ≡ is_set words (index_of size (voxel_place v))
    → is_set words' (index_of size (voxel_place v)) ≡ now
    → ((j : ℕ) → j ≢ index_of size (voxel_place v) → is_set words' j ≡ is_set words j)
    → length words' ≡ length words → now ≡ not (v.colour == 0)
    → cells' + one_if was ≡ cells + one_if now → Marks size (voxels ++ v ∷ []) words' cells'
marks_more size voxels v words words' cells cells' was now inside marks of_was of_here of_others of_length of_now of_count =
    let at : Cell = voxel_place v in
    let below : IsBelow size at = place_below size v inside in
    let was_cell : is_cell voxels at ≡ was = sym (marks.each at below) ∙ sym of_was in
    let now_cell : is_cell (voxels ++ v ∷ []) at ≡ now =
    here voxels v at (stands at v refl refl refl) ∙ sym of_now in
    let change : number_below size (is_cell (voxels ++ v ∷ [])) + one_if (is_cell voxels at) ≡ number_below size (is_cell voxels) + one_if (is_cell (voxels ++ v ∷ []) at) =
    number_below-change size at (is_cell voxels) (is_cell (voxels ++ v ∷ [])) below
    (λ c _ other. sym (elsewhere voxels v c (λ t. other (one_place c v (stands_tells c v t)))))
    in
    let of_change : number_below size (is_cell (voxels ++ v ∷ [])) + one_if was ≡ number_below size (is_cell voxels) + one_if now = rw (← was_cell, ← now_cell) change in
    let number : cells ≡ number_below size (is_cell voxels) = marks.number in
    record {
      room = rw of_length marks.room;
      each = λ c of_c.
          elim (cases_eq (index_of size c) (index_of size at)) [
            | inl one ↦
                let same : (c.x ≡ v.x) × (c.y ≡ v.y) × (c.z ≡ v.z) =
                same_place size c at of_c below one in
                (ap (is_set words') one ∙ of_here ∙ of_now
                ∙ sym (here voxels v c (stands c v (sym same.0) (sym same.1) (sym same.2))))
            | inr apart ↦
                of_others (index_of size c) apart ∙ marks.each c of_c
                ∙ sym (elsewhere voxels v c
                (λ t. apart (ap (index_of size) (one_place c v (stands_tells c v t)))))
          ];
      number = omega (arith, of_change, of_count, number);
    }

-- before the first voxel no bit is set
pub marks_none : (size : Cell) (words : List ℕ) → volume_of size ≤ 64 * length words
    → ((i : ℕ) → is_set words i ≡ false) → Marks size [] words 0
marks_none size words room clear =
    record {
      room = room;
      each = λ c _. clear (index_of size c);
      number = sym
          (number_below-none size (is_cell []) (λ c. refl));
    }

-- a bit that is set is a cell that is counted
pub counted : (size : Cell) (voxels : List Voxel) (words : List ℕ) (cells : ℕ) (v : Voxel)
    → IsInsideModel size v → Marks size voxels words cells
    → one_if (is_set words (index_of size (voxel_place v))) ≤ cells
counted size voxels words cells v inside marks =
    let below : IsBelow size (voxel_place v) = place_below size v inside in
    let e = marks.each (voxel_place v) below in
    let number = marks.number in
    rw (e, number) (number_below-at size (voxel_place v) (is_cell voxels) below)

-- one turn of the loop: the voxel at place k of the list, whose bit is number i
pub marks_step : (size seen : Cell) (voxels items : List Voxel) (k i : ℕ) (words words' : List ℕ)
    (cells cells' : ℕ) (was now : Bool) (d : Voxel) → size ≡ seen → items ≡ voxels
    → k < length items → All (IsInsideModel seen) voxels → Marks size (take k voxels) words cells
    → i ≡ index_of size (voxel_place (get_or items k d))
    → was ≡ is_set words i → is_set words' i ≡ now
    → ((j : ℕ) → j ≢ i → is_set words' j ≡ is_set words j) → length words' ≡ length words
    → now ≡ not ((get_or items k d).colour == 0) → cells' + one_if was ≡ cells + one_if now
    → Marks size (take (k + 1) voxels) words' cells'
marks_step size seen voxels items k i words words' cells cells' was now d size_is same inside all marks of_i of_was of_here of_others of_length of_now of_count =
    let within : k < length voxels = rw (← same) inside in
    let item : get_or items k d ≡ get_or voxels k d =
    ap (λ (xs : List Voxel). get_or xs k d) same in
    let at : i ≡ index_of size (voxel_place (get_or voxels k d)) =
    of_i ∙ ap (λ (v : Voxel). index_of size (voxel_place v)) item in
    let is_voxel_in : IsInsideModel size (get_or voxels k d) = rw size_is (all k d within) in
    rw (take_more voxels k d within)
    (marks_more size (take k voxels)
    (get_or voxels k d) words words' cells cells' was now is_voxel_in marks
    (of_was ∙ ap (is_set words) at) (ap (is_set words') (sym at) ∙ of_here)
    (λ j other. of_others j (λ e. other (e ∙ at))) of_length
    (of_now ∙ ap (λ (v : Voxel). not (v.colour == 0)) item) of_count)

-- a bit that the loop finds set is counted
pub counted_step : (size seen : Cell) (voxels items : List Voxel) (k i : ℕ) (words : List ℕ)
    (cells : ℕ) (was : Bool) (d : Voxel) → size ≡ seen → items ≡ voxels
    → k < length items → All (IsInsideModel seen) voxels → Marks size (take k voxels) words cells
    → i ≡ index_of size (voxel_place (get_or items k d))
    → was ≡ is_set words i → one_if was ≤ cells
counted_step size seen voxels items k i words cells was d size_is same inside all marks of_i of_was =
    let within : k < length voxels = rw (← same) inside in
    let item : get_or items k d ≡ get_or voxels k d =
    ap (λ (xs : List Voxel). get_or xs k d) same in
    let at : i ≡ index_of size (voxel_place (get_or voxels k d)) =
    of_i ∙ ap (λ (v : Voxel). index_of size (voxel_place v)) item in
    let is_voxel_in : IsInsideModel size (get_or voxels k d) = rw size_is (all k d within) in
    rw (of_was, at) (counted size (take k voxels) words cells (get_or voxels k d) is_voxel_in marks)

-- the count of cells can still grow
pub room_left : (size seen : Cell) (voxels : List Voxel) (words : List ℕ) (cells : ℕ) → size ≡ seen
    → IsSize seen → Marks size voxels words cells → cells + 1 < 2 ^ 32
room_left size seen voxels words cells size_is small marks =
    let number : cells ≡ number_below size (is_cell voxels) = marks.number in
    let bound : number_below size (is_cell voxels) ≤ 16777216 =
    count_small size (is_cell voxels) (rw size_is small) in
    omega (arith, number, bound)
