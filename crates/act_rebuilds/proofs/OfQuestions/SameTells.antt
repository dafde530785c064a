-- An answer that tells of one world tells of each with the same cells.
use Rattle.std.proofs.Common.{◌≡◌, ℕ, ◌+◌, ◌-◌, Bool, true, false, ◌&&◌, not, Option, Some, None, refl, sym, ◌∙◌, ap, arith}
use Rattle.std.specs.Prelude.{nat_lt}
use Rattle.std.proofs.lemmas.Bool.{ltb-true}
use Rattle.vw_cell.specs.declared.cells.Cell.{Cell}
use Rattle.vw_cell.specs.declared.boxes.Boxed.{Boxed}
use Rattle.vw_cell.specs.Counts.{cell_at, number_in, number_below-same}
use Rattle.vw_cell.specs.Places.{IsInWorld, FitsAt}
use Rattle.vw_cell.specs.declared.directions.Direction.{Direction}
use Rattle.vw_cell.specs.declared.directions.Direction.TheVariants.{LowX, HighX, LowY, HighY, LowZ, HighZ}
use Rattle.vw_cell.specs.Faces.{has_next, is_exposed, faces_in}
use Rattle.vw_cell.specs.Extents.{IsExtent}
use Rattle.history_model.specs.Rays.{ClearBefore, Hits}
use Rattle.history_model.specs.Ways.{Heading}
use Rattle.history_model.specs.Worlds.{World}
use Rattle.one_store.specs.Versions.{SameWorld}

-- what counts only where a test passes
pub where_passed : (test x y : Bool) → (test ≡ true → x ≡ y) → (test && x) ≡ (test && y)
where_passed true x y same = same refl
where_passed false x y same = refl

module _ (side : ℕ) (v w : World) (same : SameWorld side v w) where
  pub number_same : (b : Boxed) (p q : Cell → Bool) → FitsAt b.at b.size side
      → ((c : Cell) → IsInWorld side c → p c ≡ q c) → number_in b p ≡ number_in b q
  number_same b p q fits each =
      number_below-same b.size _ _ (λ c below.
      let x =
      below.x in let y = below.y in let z = below.z in let fx = fits.x in let fy = fits.y in let fz = fits.z in
      each (cell_at (b.at.x + c.x) (b.at.y + c.y) (b.at.z + c.z))
      (record { x = omega arith; y = omega arith; z = omega arith }))

  next_same : (d : Direction) (c : Cell) → IsInWorld side c
      → has_next d side v c ≡ has_next d side w c
  next_same LowX c i = where_passed (nat_lt 0 c.x) _ _
      (λ e. let x = i.x in let y = i.y in let z = i.z in same.each (cell_at (c.x - 1) c.y c.z)
      (record { x = omega arith; y = y; z = z }))
  next_same HighX c i = where_passed (nat_lt (c.x + 1) side) _ _
      (λ e. let x = ltb-true (c.x + 1) side e in let y = i.y in let z = i.z in same.each
      (cell_at (c.x + 1) c.y c.z) (record { x = x; y = y; z = z }))
  next_same LowY c i = where_passed (nat_lt 0 c.y) _ _
      (λ e. let x = i.x in let y = i.y in let z = i.z in same.each (cell_at c.x (c.y - 1) c.z)
      (record { x = x; y = omega arith; z = z }))
  next_same HighY c i = where_passed (nat_lt (c.y + 1) side) _ _
      (λ e. let x = i.x in let y = ltb-true (c.y + 1) side e in let z = i.z in same.each
      (cell_at c.x (c.y + 1) c.z) (record { x = x; y = y; z = z }))
  next_same LowZ c i = where_passed (nat_lt 0 c.z) _ _
      (λ e. let x = i.x in let y = i.y in let z = i.z in same.each (cell_at c.x c.y (c.z - 1))
      (record { x = x; y = y; z = omega arith }))
  next_same HighZ c i = where_passed (nat_lt (c.z + 1) side) _ _
      (λ e. let x = i.x in let y = i.y in let z = ltb-true (c.z + 1) side e in same.each
      (cell_at c.x c.y (c.z + 1)) (record { x = x; y = y; z = z }))

  bare_same : (d : Direction) (b : Boxed) → FitsAt b.at b.size side
      → number_in b (is_exposed d side v) ≡ number_in b (is_exposed d side w)
  bare_same d b fits =
      number_same b (is_exposed d side v) (is_exposed d side w) fits
      (λ c i. ap (λ (set : Bool). set && not (has_next d side v c)) (same.each c i)
      ∙ ap (λ (next : Bool). w c && not next) (next_same d c i))

  pub faces_same : (b : Boxed) → FitsAt b.at b.size side → faces_in side v b ≡ faces_in side w b
  faces_same b fits =
      let lx = bare_same LowX b fits in let hx = bare_same HighX b fits in
      let ly = bare_same LowY b fits in let hy = bare_same HighY b fits in
      let lz = bare_same LowZ b fits in let hz = bare_same HighZ b fits in
      omega arith

  pub extent_same : (least : Option Boxed) → IsExtent side v least → IsExtent side w least
  extent_same None none = λ c i. sym (same.each c i) ∙ none c i
  extent_same (Some b) box = record {
    some = box.some;
    inside = box.inside;
    set = sym (same.each box.some box.inside) ∙ box.set;
    holds = record { each = λ c i set. box.holds.each c i (same.each c i ∙ set) };
    least = λ d all. box.least d
        (record { each = λ c i set. all.each c i (sym (same.each c i) ∙ set) });
  }

  clear_same : (from : Cell) (h : Heading) (k : ℕ) → ClearBefore from h side v k
      → ClearBefore from h side w k
  clear_same from h k clear =
      record { each = λ j c lt at i. sym (same.each c i) ∙ clear.each j c lt at i }

  pub hits_same : (from : Cell) (h : Heading) (found : Option Cell) → Hits from h side v found
      → Hits from h side w found
  hits_same from h None none =
      record { each = λ k c at i. sym (same.each c i) ∙ none.each k c at i }
  hits_same from h (Some c) first = record {
    instant = first.instant;
    at = first.at;
    in_world = first.in_world;
    set = sym (same.each c first.in_world) ∙ first.set;
    before = clear_same from h first.instant first.before;
  }
