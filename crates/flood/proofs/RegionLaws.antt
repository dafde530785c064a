-- Ways through clear bits are ways through clear cells.
use Rattle.std.proofs.Common.{◌≡◌, ℕ, ◌+◌, ◌-◌, ◌*◌, ◌/◌, ◌%◌, ◌<◌, Bool, true, false, List, ◌++◌, length, Option, refl, ap, sym, subst, ◌∙◌, inl, inr, arith, lit<}
use Rattle.std.specs.Prelude.{slice_index}
use Rattle.std.specs.Int.{bit_at}
use Rattle.std.proofs.lemmas.Bool.{and_parts, and_from, cases_lt}
use Rattle.std.proofs.Common.{eq-eqb, eqb-true}
use Rattle.std.proofs.lemmas.Nat.{mod_below}
use Rattle.node_words.specs.Sums.{one_if}
use Rattle.vw_cell.specs.declared.cells.Cell.{Cell}
use Rattle.vw_cell.specs.declared.boxes.Boxed.{Boxed}
use Rattle.vw_cell.specs.Counts.{cell_at}
use Rattle.vw_cell.specs.Places.{is_in_box, IsInBox}
use Rattle.vw_cell.specs.Tests.{is_in_box_holds, is_in_box_tells}
use Rattle.vox_read.specs.declared.voxels.Voxel.{Voxel}
use Rattle.extract.specs.Listing.{voxels_of_box}
use Rattle.extract.specs.Layers.{IsSmallLayer}
use Rattle.std.specs.Prelude.{Result, Ok, Err, OnOk}
use Rattle.node_words.specs.declared.shapes.names.Name.{Name}
use Rattle.node_words.specs.shapes.Tree.{Tree, shape_of}
use Rattle.node_words.specs.descent.Roots.{IsBlockOf, ForBlock, ForWorld, cells_of}
use Rattle.flood.specs.Paths.{AreBeside, on_x, on_y, on_z, IsJoined}
use Rattle.flood.specs.Words.{bit_at_place, place_at_bit, IsSet, IsClearAt, IsRegionOf}
use Rattle.flood.proofs.WayLaws.{joined_ends, place_of_bit, same_place, joined_maps}
use Rattle.flood.proofs.ReachLaws.{set_inside}
use Rattle.flood.specs.Rows.{TellsRow, AreTold, set_in}
use Rattle.flood.specs.Regions.{IsClearIn, IsRegion, AppendsRegion}

-- a place of a box, told from the world's corner, and a cell, told from the box's
up : Boxed → Cell → Cell
up b p = cell_at (b.at.x + p.x) (b.at.y + p.y) (b.at.z + p.z)

down : Boxed → Cell → Cell
down b c = cell_at (c.x - b.at.x) (c.y - b.at.y) (c.z - b.at.z)

up_down : (b : Boxed) (c : Cell) → IsInBox b c → up b (down b c) ≡ c
unfolding up down
up_down b c i =
    same_place (let h = i.x in omega arith) (let h = i.y in omega arith)
    (let h = i.z in omega arith)

down_up : (b : Boxed) (p : Cell) → down b (up b p) ≡ p
unfolding up down
down_up b p = same_place (omega arith) (omega arith) (omega arith)

up_beside : (b : Boxed) (p q : Cell) → AreBeside p q → AreBeside (up b p) (up b q)
unfolding up
up_beside b p q (on_x n y z) =
    on_x (elim n [ inl e ↦ inl (omega arith) | inr e ↦ inr (omega arith) ]) (omega arith)
    (omega arith)
up_beside b p q (on_y x n z) =
    on_y (omega arith) (elim n [ inl e ↦ inl (omega arith) | inr e ↦ inr (omega arith) ])
    (omega arith)
up_beside b p q (on_z x y n) =
    on_z (omega arith) (omega arith)
    (elim n [ inl e ↦ inl (omega arith) | inr e ↦ inr (omega arith) ])

down_beside : (b : Boxed) (c d : Cell) → IsInBox b c → IsInBox b d → AreBeside c d
    → AreBeside (down b c) (down b d)
unfolding down
down_beside b c d i j (on_x n y z) =
    let hi = i.x.0 in let hj = j.x.0 in on_x
    (elim n [ inl e ↦ inl (omega arith) | inr e ↦ inr (omega arith) ]) (omega arith)
    (omega arith)
down_beside b c d i j (on_y x n z) =
    let hi = i.y.0 in let hj = j.y.0 in on_y (omega arith)
    (elim n [ inl e ↦ inl (omega arith) | inr e ↦ inr (omega arith) ]) (omega arith)
down_beside b c d i j (on_z x y n) =
    let hi = i.z.0 in let hj = j.z.0 in on_z (omega arith) (omega arith)
    (elim n [ inl e ↦ inl (omega arith) | inr e ↦ inr (omega arith) ])

zero_is_false : (v : Bool) → one_if v ≡ 0 → v ≡ false
zero_is_false false e = refl
zero_is_false true e = absurd (omega arith)

-- the row, the layer and the place in its word of a bit
bit_row : (p : Cell) → p.x < 256 → p.y < 256
    → (bit_at_place p / 64 / 1024 ≡ p.z) × (bit_at_place p / 64 / 4 % 256 ≡ p.y)
    × (64 * (bit_at_place p / 64 % 4) + bit_at_place p % 64 ≡ p.x)
bit_row p lx ly = (omega arith, omega arith, omega arith)

module _ (b : Boxed) (cells : Cell → Bool) (clear : List ℕ) (small : IsSmallLayer b)
    (size : length clear ≡ 1024 * b.size.z) (told : AreTold b cells clear) where
  row_of : (p : Cell) → p.x < 256 → p.y < 256 → bit_at_place p / 64 < length clear
      → TellsRow b cells p.z p.y (64 * (bit_at_place p / 64 % 4))
      (slice_index clear (bit_at_place p / 64))
  row_of p lx ly lt =
      let at = bit_row p lx ly in
      let w : ℕ = bit_at_place p / 64 in
      subst (λ (a : ℕ). TellsRow b cells a p.y (64 * (w % 4)) (slice_index clear w)) at.0
      (subst (λ (a : ℕ). TellsRow b cells (w / 1024) a (64 * (w % 4)) (slice_index clear w)) at.1
      (told.each w lt))

  -- a clear bit is a clear cell
  cell_clear : (p : Cell) → IsClearAt clear p → IsClearIn b cells (up b p)
  unfolding up
  cell_clear p i =
      let lx = i.x in
      let ly = i.y in
      let at = bit_row p lx ly in
      let m : ℕ = bit_at_place p % 64 in
      let h : m < 64 = mod_below (bit_at_place p) 64 (lit< tt) in
      let inside = set_inside clear (bit_at_place p) i.set in
      let in_words : bit_at_place p / 64 < length clear = omega arith in
      let row = row_of p lx ly in_words in
      let one : bit_at (slice_index clear (bit_at_place p / 64)) m ≡ 1 = i.set in
      let in_x : p.x < b.size.x = elim (cases_lt p.x b.size.x) [
        | inl less ↦ less
        | inr more ↦ absurd
            (let none = row.outside m h (inl (omega arith)) in omega (arith, none, one))
      ] in
      let in_y : p.y < b.size.y = elim (cases_lt p.y b.size.y) [
        | inl less ↦ less
        | inr more ↦ absurd (let none = row.outside m h (inr more) in omega (arith, none, one))
      ] in
      let in_z : p.z < b.size.z = omega arith in
      let tells = row.inside m h (omega arith) in_y in
      let place : 64 * (bit_at_place p / 64 % 4) + m ≡ p.x = at.2 in
      let off : cells (cell_at (b.at.x + (64 * (bit_at_place p / 64 % 4) + m)) (b.at.y + p.y) (b.at.z + p.z)) ≡ false = zero_is_false (cells (cell_at (b.at.x + (64 * (bit_at_place p / 64 % 4) + m)) (b.at.y + p.y) (b.at.z + p.z))) (omega (arith, tells, one)) in
      record {
        inside = record {
          x = (omega arith, omega arith);
          y = (omega arith, omega arith);
          z =
              (omega arith, omega arith);
        };
        clear = sym (ap
            (λ (a : ℕ). cells (cell_at (b.at.x + a) (b.at.y + p.y) (b.at.z + p.z))) place) ∙ off;
      }

  -- and the other way round
  bit_clear : (c : Cell) → IsClearIn b cells c → IsClearAt clear (down b c)
  unfolding down
  bit_clear c i =
      let p : Cell = down b c in
      let ix = i.inside.x in
      let iy = i.inside.y in
      let iz = i.inside.z in
      let sx = small.x in
      let sy = small.y in
      let lx : c.x - b.at.x < 256 = omega arith in
      let ly : c.y - b.at.y < 256 = omega arith in
      let at = bit_row p lx ly in
      let m : ℕ = bit_at_place p % 64 in
      let h : m < 64 = mod_below (bit_at_place p) 64 (lit< tt) in
      let in_words : bit_at_place p / 64 < length clear = omega arith in
      let row = row_of p lx ly in_words in
      let in_x : 64 * (bit_at_place p / 64 % 4) + m < b.size.x = omega arith in
      let in_y : p.y < b.size.y = omega arith in
      let tells = row.inside m h in_x in_y in
      let place : cell_at (b.at.x + (64 * (bit_at_place p / 64 % 4) + m)) (b.at.y + p.y) (b.at.z + p.z) ≡ c = same_place (omega arith) (omega arith) (omega arith) in
      let off : one_if (cells (cell_at (b.at.x + (64 * (bit_at_place p / 64 % 4) + m)) (b.at.y + p.y) (b.at.z + p.z))) ≡ 0 = ap (λ (d : Cell). one_if (cells d)) place ∙ ap one_if i.clear in
      record { x = lx; y = ly; set = omega (arith, tells, off) }

  -- the bits joined with a bit are the cells joined with its cell
  pub region_told : (from : Cell) (start : ℕ) (words : List ℕ) → IsInBox b from
      → start ≡ bit_at_place (cell_at (from.x - b.at.x) (from.y - b.at.y) (from.z - b.at.z))
      → IsRegionOf clear start words → IsRegion b cells from (set_in b words)
  unfolding down
  region_told from start words inside start_is region =
      let fx = inside.x in
      let fy = inside.y in
      let sx = small.x in
      let sy = small.y in
      let start_place : place_at_bit start ≡ down b from =
      ap place_at_bit start_is ∙ place_of_bit (down b from) (omega arith) (omega arith) in
      record {
        only = λ c set.
            let parts = and_parts (is_in_box b c) _ set in
            let in_box = is_in_box_tells b c parts.0 in
            let cx = in_box.x in
            let cy = in_box.y in
            let one : IsSet words (bit_at_place (down b c)) = eqb-true _ 1 parts.1 in
            let place : place_at_bit (bit_at_place (down b c)) ≡ down b c =
            place_of_bit (down b c) (omega arith) (omega arith) in
            let bits = region.only.each (bit_at_place (down b c)) one in
            let joined =
            joined_maps (IsClearAt clear) (IsClearIn b cells) (up b) cell_clear
            (λ p q _ _ n. up_beside b p q n) bits in
            subst (λ (d : Cell). IsJoined (IsClearIn b cells) d c)
            (ap (up b) start_place ∙ up_down b from inside)
            (subst (λ (d : Cell). IsJoined (IsClearIn b cells) (up b (place_at_bit start)) d)
            (ap (up b) place ∙ up_down b c in_box) joined);
        all = λ c joined.
            let end = joined_ends (IsClearIn b cells) from c joined in
            let bits =
            joined_maps (IsClearIn b cells) (IsClearAt clear) (down b) bit_clear
            (λ p q i j n. down_beside b p q i.inside j.inside n) joined in
            let one =
            region.all (down b c)
            (subst (λ (d : Cell). IsJoined (IsClearAt clear) d (down b c))
            (sym start_place) bits) in
            and_from (is_in_box b c) _ (is_in_box_holds b c end.inside) (eq-eqb _ 1 one);
      }

-- what was listed is the region of the cells that a block shows
pub flooded : (held : List Tree) (side level : ℕ) (root name : Option Name) (b : Boxed)
    (from : Cell) (start : ℕ) (clear lent words lent_words : List ℕ) (old new : List Voxel)
    → level ≡ side - 2 → name ≡ root → IsSmallLayer b → IsInBox b from
    → length clear ≡ 1024 * b.size.z
    → ForBlock held level name (λ s. AreTold b (cells_of level s) clear)
    → start ≡ bit_at_place (cell_at (from.x - b.at.x) (from.y - b.at.y) (from.z - b.at.z))
    → lent ≡ clear → IsRegionOf lent start words → lent_words ≡ words
    → new ≡ old ++ voxels_of_box b (set_in b lent_words)
    → ForWorld held side root (AppendsRegion b from old new)
flooded held side level root name b from start clear lent words lent_words old new of_level of_name small inside size told start_is lent_is region words_are listed t o =
    let there : IsBlockOf held level name t =
    subst (λ (m : Option Name). IsBlockOf held level m t) (sym of_name)
    (subst (λ (l : ℕ). IsBlockOf held l root t) (sym of_level) o) in
    let cells : Cell → Bool = cells_of (side - 2) (shape_of t) in
    let tells : AreTold b cells clear =
    subst (λ (l : ℕ). AreTold b (cells_of l (shape_of t)) clear) of_level (told t there) in
    record {
      region = set_in b words;
      is_region = region_told b cells clear small size tells from start words inside start_is
          (subst (λ (xs : List ℕ). IsRegionOf xs start words) lent_is region);
      added = listed ∙ ap (λ (xs : List ℕ). old ++ voxels_of_box b (set_in b xs)) words_are;
    }

pub on_ok : {T E : Type 0} (r : Result T E) (P Q : Type 0) → (P → Q) → OnOk r P → OnOk r Q
on_ok (Ok v) P Q f p = f p
on_ok (Err e) P Q f p = p

-- ---- cells that are alike in the box

clear_alike : (b : Boxed) (v w : Cell → Bool) → ((c : Cell) → IsInBox b c → v c ≡ w c) → (c : Cell)
    → IsClearIn b v c → IsClearIn b w c
clear_alike b v w same c i = record { inside = i.inside; clear = sym (same c i.inside) ∙ i.clear }

-- the same clear cells of a box have the same region
pub region_alike : (b : Boxed) (v w : Cell → Bool) (from : Cell) (region : Cell → Bool)
    → ((c : Cell) → IsInBox b c → v c ≡ w c) → IsRegion b v from region → IsRegion b w from region
region_alike b v w from region same r = record {
  only = λ c set. joined_maps (IsClearIn b v) (IsClearIn b w) (λ d. d) (clear_alike b v w same)
      (λ p q _ _ n. n) (r.only c set);
  all = λ c j. r.all c
      (joined_maps (IsClearIn b w) (IsClearIn b v) (λ d. d)
      (clear_alike b w v (λ d i. sym (same d i))) (λ p q _ _ n. n) j);
}

-- two tests that tell one region are alike
pub one_region : (b : Boxed) (cells : Cell → Bool) (from : Cell) (v w : Cell → Bool)
    → IsRegion b cells from v → IsRegion b cells from w → (c : Cell) → v c ≡ w c
one_region b cells from v w p q c =
    alike (v c) (w c) (λ set. q.all c (p.only c set)) (λ set. p.all c (q.only c set)) where
      alike : (x y : Bool) → (x ≡ true → y ≡ true) → (y ≡ true → x ≡ true) → x ≡ y
      alike true y to from = sym (to refl)
      alike false true to from = from refl
      alike false false to from = refl
