-- The tests of membership say what the facts say.
use Rattle.std.specs.Prelude.{◌≡◌, ℕ, ◌+◌, ◌&&◌, ◌||◌, true, false, nat_le, nat_lt}
use Rattle.std.proofs.Common.{arith}
use Rattle.std.proofs.lemmas.Bool.{leb-true, ltb-true, le-leb, lt-ltb, and_parts, and_from}
use Rattle.std.proofs.lemmas.Bool.Decides.{nat_tests}
use Rattle.vw_cell.specs.declared.cells.Cell.{Cell}
use Rattle.vw_cell.specs.declared.boxes.Boxed.{Boxed}
use Rattle.vw_cell.specs.Places.{IsWithin, is_within, IsInBox, is_in_box}

pub is_within_tells : (low size p : ℕ) → is_within low size p ≡ true → IsWithin low size p
is_within_tells low size p h =
    let parts : (nat_le low p ≡ true) × (nat_lt p (low + size) ≡ true) = and_parts _ _ h in
    (leb-true low p parts.0, ltb-true p (low + size) parts.1)

pub is_within_holds : (low size p : ℕ) → IsWithin low size p → is_within low size p ≡ true
is_within_holds low size p w = and_from _ _ (le-leb low p w.0) (lt-ltb p (low + size) w.1)

pub is_in_box_tells : (b : Boxed) (c : Cell) → is_in_box b c ≡ true → IsInBox b c
is_in_box_tells b c h =
    let outer =
    and_parts (is_within b.at.x b.size.x c.x && is_within b.at.y b.size.y c.y)
    (is_within b.at.z b.size.z c.z) h
    in
    let inner = and_parts (is_within b.at.x b.size.x c.x) (is_within b.at.y b.size.y c.y) outer.0 in
    record {
      x = is_within_tells _ _ _ inner.0;
      y = is_within_tells _ _ _ inner.1;
      z = is_within_tells _ _ _ outer.1;
    }

pub is_in_box_holds : (b : Boxed) (c : Cell) → IsInBox b c → is_in_box b c ≡ true
is_in_box_holds b c i =
    and_from (is_within b.at.x b.size.x c.x && is_within b.at.y b.size.y c.y)
    (is_within b.at.z b.size.z c.z)
    (and_from (is_within b.at.x b.size.x c.x) (is_within b.at.y b.size.y c.y)
    (is_within_holds _ _ _ i.x) (is_within_holds _ _ _ i.y))
    (is_within_holds _ _ _ i.z)

-- a stretch of no number, and one that is one longer
pub is_within-none : (low p : ℕ) → is_within low 0 p ≡ false
is_within-none low p = grind (arith, nat_tests)

pub is_within-more : (low size p : ℕ)
    → is_within low (size + 1) p ≡ (is_within low size p || is_within (low + size) 1 p)
is_within-more low size p = grind (arith, nat_tests)
