-- What a store of tints has in its first plane, and right outside of it.
use Rattle.std.proofs.Common.{◌≡◌, ℕ, zero, suc, ◌+◌, ◌-◌, ◌*◌, ◌<◌, Bool, true, false, ◌&&◌, not, refl, sym, ◌∙◌, ap, arith, inl, inr}
use Rattle.std.specs.Prelude.{nat_lt}
use Rattle.std.proofs.lemmas.Bool.{cases_lt, ltb-true, lt-ltb}
use Rattle.vw_cell.specs.declared.cells.Cell.{Cell}
use Rattle.vw_cell.specs.declared.boxes.Boxed.{Boxed}
use Rattle.vw_cell.specs.Counts.{cell_at, number_in}
use Rattle.vw_cell.specs.Places.{IsInWorld, IsInBox, FitsAt, is_in_box, half_x, half_y, half_z}
use Rattle.vw_cell.specs.Tests.{is_in_box_tells}
use Rattle.vw_cell.specs.declared.directions.Direction.{Direction}
use Rattle.vw_cell.specs.declared.directions.Direction.TheVariants.{LowX, HighX, LowY, HighY, LowZ, HighZ}
use Rattle.vw_cell.specs.Faces.{has_next, is_exposed, faces_in}
use Rattle.history_model.specs.Worlds.{World, plus}
use Rattle.history_model.specs.Tints.{Tints}
use Rattle.history_model.specs.Planes.{StoresTints, plane_at, plane_box, tells}
use Rattle.core_laws.proofs.OfTints.PlaneLaws.{bool_false}
use Rattle.one_store.specs.Versions.{SameWorld}
use Rattle.act_rebuilds.proofs.OfQuestions.SameTells.{where_passed, number_same}

-- a place of a plane lies in the store's world
half_below : (n h x : ℕ) → h < 2 → x < n → n * h + x < 2 * n
half_below n zero x lt below = omega arith
half_below n (suc zero) x lt below = omega arith
half_below n (suc (suc h)) x lt below = absurd (omega arith)

in_store : (n plane : ℕ) (p : Cell) → IsInWorld n p → IsInWorld (4 * n) (plus (plane_at n plane) p)
in_store n zero p i =
    record { x = omega (arith, i.x); y = omega (arith, i.y); z = omega (arith, i.z) }
in_store n (suc b) p i =
    let x = half_below n (half_x b) p.x (omega arith) i.x in
    let y = half_below n (half_y b) p.y (omega arith) i.y in
    let z = half_below n (half_z b) p.z (omega arith) i.z in
    record { x = omega (arith, x); y = omega (arith, y); z = omega (arith, z) }

-- the planes of bits begin at twice the side
planes_later : (n : ℕ) (q : Cell) → q.x < 2 * n → (IsInBox (plane_box n 0) q → ⊥)
    → (plane : ℕ) → plane < 9 → is_in_box (plane_box n plane) q ≡ false
planes_later n q low out zero lt = bool_false _ (λ e. out (is_in_box_tells (plane_box n 0) q e))
planes_later n q low out (suc b) lt =
    bool_false _ (λ e.
    let i = is_in_box_tells (plane_box n (suc b)) q e in
    omega (arith, low, i.x.0))

-- what counts only where a test passes
passed_both : (s t x y : Bool) → s ≡ true → t ≡ true → x ≡ y → (s && x) ≡ (t && y)
passed_both s t x y p q same =
    ap (λ (b : Bool). b && x) p ∙ same ∙ sym (ap (λ (b : Bool). b && y) q)

never : (s : Bool) → (s && false) ≡ false
never true = refl
never false = refl

passed_none : (s t x y : Bool) → x ≡ false → t ≡ false → (s && x) ≡ (t && y)
passed_none s t x y p q =
    ap (λ (b : Bool). s && b) p ∙ never s ∙ sym (ap (λ (b : Bool). b && y) q)

-- the cells of a root, those of a world that it shows, and the world whose tints that one keeps
module _ (n whole : ℕ) (four : whole ≡ 4 * n) (cells stored w : World) (t : Tints)
    (same : SameWorld whole cells stored) (keeps : StoresTints n t stored)
    (set : (c : Cell) → IsInWorld n c → tells 0 (t c) ≡ w c) where
  in_whole : (q : Cell) → IsInWorld (4 * n) q → IsInWorld whole q
  in_whole q i = record {
    x = omega (arith, i.x, four);
    y = omega (arith, i.y, four);
    z = omega (arith, i.z, four);
  }

  pub near : (c : Cell) → IsInWorld n c → IsInWorld whole c
  near c i = record {
    x = omega (arith, i.x, four);
    y = omega (arith, i.y, four);
    z = omega (arith, i.z, four);
  }

  from_none : (x : ℕ) → 0 + x ≡ x
  from_none x = omega arith

  first_at : (c : Cell) → plus (plane_at n 0) c ≡ c
  first_at c = λ i. cell_at (from_none c.x i) (from_none c.y i) (from_none c.z i)

  -- the root's cells are those of the world, and keep its tints
  pub here : SameWorld n cells w
  here = record {
    each = λ c i.
        same.each c (near c i) ∙ ap stored (sym (first_at c)) ∙ keeps.each 0 c (omega arith) i
        ∙ set c i;
  }

  pub kept_here : StoresTints n t cells
  kept_here = record {
    each = λ plane p lt i.
        same.each (plus (plane_at n plane) p)
        (in_whole (plus (plane_at n plane) p) (in_store n plane p i))
        ∙ keeps.each plane p lt i;
    rest = λ q i out. same.each q (in_whole q i) ∙ keeps.rest q i out;
  }

  -- right outside of the world none is set
  outside : (q : Cell) → q.x < 2 * n → IsInWorld (4 * n) q → (IsInBox (plane_box n 0) q → ⊥)
      → cells q ≡ false
  outside q low i out = kept_here.rest q i (planes_later n q low out)

  pub next_here : (d : Direction) (c : Cell) → IsInWorld n c
      → has_next d whole cells c ≡ has_next d n w c
  next_here LowX c i =
      where_passed (nat_lt 0 c.x) _ _ (λ e.
      here.each (cell_at (c.x - 1) c.y c.z) (record { x = omega (arith, i.x); y = i.y; z = i.z }))
  next_here LowY c i =
      where_passed (nat_lt 0 c.y) _ _ (λ e.
      here.each (cell_at c.x (c.y - 1) c.z) (record { x = i.x; y = omega (arith, i.y); z = i.z }))
  next_here LowZ c i =
      where_passed (nat_lt 0 c.z) _ _ (λ e.
      here.each (cell_at c.x c.y (c.z - 1)) (record { x = i.x; y = i.y; z = omega (arith, i.z) }))
  next_here HighX c i = elim (cases_lt (c.x + 1) n) [
    | inl lt ↦ passed_both _ _ _ _ (lt-ltb (c.x + 1) whole (omega (arith, lt, four)))
        (lt-ltb (c.x + 1) n lt)
        (here.each (cell_at (c.x + 1) c.y c.z) (record { x = lt; y = i.y; z = i.z }))
    | inr ge ↦ passed_none _ _ _ _
        (outside (cell_at (c.x + 1) c.y c.z) (omega (arith, i.x))
        (record { x = omega (arith, i.x); y = omega (arith, i.y); z = omega (arith, i.z) })
        (λ b. omega (arith, b.x.1, ge)))
        (bool_false (nat_lt (c.x + 1) n) (λ e.
        let lt = ltb-true (c.x + 1) n e in omega (arith, lt, ge)))
  ]
  next_here HighY c i = elim (cases_lt (c.y + 1) n) [
    | inl lt ↦ passed_both _ _ _ _ (lt-ltb (c.y + 1) whole (omega (arith, lt, four)))
        (lt-ltb (c.y + 1) n lt)
        (here.each (cell_at c.x (c.y + 1) c.z) (record { x = i.x; y = lt; z = i.z }))
    | inr ge ↦ passed_none _ _ _ _
        (outside (cell_at c.x (c.y + 1) c.z) (omega (arith, i.x))
        (record { x = omega (arith, i.x); y = omega (arith, i.y); z = omega (arith, i.z) })
        (λ b. omega (arith, b.y.1, ge)))
        (bool_false (nat_lt (c.y + 1) n) (λ e.
        let lt = ltb-true (c.y + 1) n e in omega (arith, lt, ge)))
  ]
  next_here HighZ c i = elim (cases_lt (c.z + 1) n) [
    | inl lt ↦ passed_both _ _ _ _ (lt-ltb (c.z + 1) whole (omega (arith, lt, four)))
        (lt-ltb (c.z + 1) n lt)
        (here.each (cell_at c.x c.y (c.z + 1)) (record { x = i.x; y = i.y; z = lt }))
    | inr ge ↦ passed_none _ _ _ _
        (outside (cell_at c.x c.y (c.z + 1)) (omega (arith, i.x))
        (record { x = omega (arith, i.x); y = omega (arith, i.y); z = omega (arith, i.z) })
        (λ b. omega (arith, b.z.1, ge)))
        (bool_false (nat_lt (c.z + 1) n) (λ e.
        let lt = ltb-true (c.z + 1) n e in omega (arith, lt, ge)))
  ]

  bare_here : (d : Direction) (b : Boxed) → FitsAt b.at b.size n
      → number_in b (is_exposed d whole cells) ≡ number_in b (is_exposed d n w)
  bare_here d b fits =
      number_same n cells w here b (is_exposed d whole cells) (is_exposed d n w) fits
      (λ c i. ap (λ (set : Bool). set && not (has_next d whole cells c)) (here.each c i)
      ∙ ap (λ (next : Bool). w c && not next) (next_here d c i))

  pub faces_here : (b : Boxed) → FitsAt b.at b.size n → faces_in whole cells b ≡ faces_in n w b
  faces_here b fits =
      let lx = bare_here LowX b fits in let hx = bare_here HighX b fits in
      let ly = bare_here LowY b fits in let hy = bare_here HighY b fits in
      let lz = bare_here LowZ b fits in let hz = bare_here HighZ b fits in
      omega arith
