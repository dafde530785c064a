-- The part of a box in an octant has the box's cells there.
use Rattle.std.proofs.Common.{◌≡◌, ℕ, zero, suc, ◌+◌, ◌-◌, ◌*◌, ◌^◌, ◌<◌, ◌≤◌, Bool, true, false, refl, sym, arith}
use Rattle.std.specs.Prelude.{◌&&◌}
use Rattle.vw_cell.specs.declared.cells.Cell.{Cell}
use Rattle.vw_cell.specs.declared.boxes.Boxed.{Boxed}
use Rattle.vw_cell.specs.Places.{block_side, half_x, half_y, half_z, IsWithin, is_within, IsInWorld, FitsAt}
use Rattle.vw_cell.specs.Tests.{is_within_tells, is_within_holds}
use Rattle.node_words.specs.descent.Parts.{half_at, half_size, part_in, placed, HasCellsOf, EndsBy}
use Rattle.node_words.proofs.OfDescent.LookLaws.{twice, root_side}

same_test : (a b : Bool) → (a ≡ true → b ≡ true) → (b ≡ true → a ≡ true) → a ≡ b
same_test true b f h = sym (f refl)
same_test false true f h = h refl
same_test false false f h = refl

into_half : (half i low size x : ℕ) → i < 2 → x < half → IsWithin low size (i * half + x)
    → IsWithin (half_at half i low) (half_size half i low size) x
into_half half zero low size x two h w = (omega arith, omega arith)
into_half half (suc zero) low size x two h w = (omega arith, omega arith)
into_half half (suc (suc i)) low size x two h w = absurd (omega arith)

out_of_half : (half i low size x : ℕ) → i < 2 → x < half
    → IsWithin (half_at half i low) (half_size half i low size) x → IsWithin low size (i * half + x)
out_of_half half zero low size x two h w = (omega arith, omega arith)
out_of_half half (suc zero) low size x two h w = (omega arith, omega arith)
out_of_half half (suc (suc i)) low size x two h w = absurd (omega arith)

half_test : (half i low size x : ℕ) → i < 2 → x < half
    → is_within (half_at half i low) (half_size half i low size) x ≡ is_within low size
    (i * half + x)
half_test half i low size x two h = same_test _ _
    (λ e. is_within_holds low size (i * half + x)
    (out_of_half half i low size x two h (is_within_tells _ _ x e)))
    (λ e. is_within_holds _ _ x
    (into_half half i low size x two h (is_within_tells low size (i * half + x) e)))

all_three : (a b c a' b' c' : Bool) → a ≡ a' → b ≡ b' → c ≡ c' → (a && b && c) ≡ (a' && b' && c')
all_three a b c a' b' c' p q r = rw (p, q, r) refl

pub part_has_cells : (half octant : ℕ) (b : Boxed)
    → HasCellsOf half octant b (part_in half b octant)
part_has_cells half octant b = record {
  each = λ c i. all_three _ _ _ _ _ _
      (half_test half (half_x octant) b.at.x b.size.x c.x (omega arith) i.x)
      (half_test half (half_y octant) b.at.y b.size.y c.y (omega arith) i.y)
      (half_test half (half_z octant) b.at.z b.size.z c.z (omega arith) i.z);
}

-- a place of a half lies in the whole
in_whole : (half i x side : ℕ) → side ≡ 2 * half → i < 2 → x < half → i * half + x < side
in_whole half zero x side d lt h = omega arith
in_whole half (suc zero) x side d lt h = omega arith
in_whole half (suc (suc i)) x side d lt h = absurd (omega arith)

-- a place of an octant lies in the block
pub placed_in : (level k : ℕ) (c : Cell) → 1 ≤ level → k < 8 → IsInWorld (block_side (level - 1)) c
    → IsInWorld (block_side level) (placed (block_side (level - 1)) k c)
placed_in level k c h lt i =
    let d = twice level h in
    record {
      x = in_whole _ (half_x k) c.x _ d (omega arith) i.x;
      y = in_whole _ (half_y k) c.y _ d
          (omega arith) i.y;
      z = in_whole _ (half_z k) c.z _ d (omega arith) i.z;
    }

-- a box of the root's world ends in its block
pub box_in_root : (level side : ℕ) (b : Boxed) → level ≡ side - 2 → 2 ≤ side
    → FitsAt b.at b.size (2 ^ side) → EndsBy (block_side level) b
box_in_root level side b e h fits =
    let whole = root_side level side e h in
    let x = fits.x in
    let y = fits.y in
    let z = fits.z in
    record {
      x = omega (arith, whole, x.1);
      y = omega (arith, whole, y.1);
      z = omega
          (arith, whole, z.1);
    }
