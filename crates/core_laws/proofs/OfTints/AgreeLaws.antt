-- Two stores of tints have the same cells exactly where their tints agree.
use Rattle.std.proofs.Common.{◌≡◌, ℕ, zero, suc, ◌+◌, ◌-◌, ◌*◌, ◌^◌, ◌<◌, ◌≤◌, Bool, true, false, refl, sym, ◌∙◌, ap, arith, inl, inr, ◌⊎◌}
use Rattle.std.proofs.lemmas.Bool.{cases_eq}
use Rattle.vw_cell.specs.declared.cells.Cell.{Cell}
use Rattle.vw_cell.specs.Places.{IsInWorld, is_in_box, half_x, half_y, half_z}
use Rattle.vw_cell.specs.Tests.{is_in_box_tells}
use Rattle.history_model.specs.Worlds.{World, less, plus}
use Rattle.node_words.specs.contents.CellShapes.{bits_below}
use Rattle.vw_cell.specs.Sums.{one_if}
use Rattle.history_model.specs.Tints.{Tints}
use Rattle.history_model.specs.Planes.{StoresTints, tells, plane_at, plane_box}
use Rattle.core_laws.proofs.OfTints.TintLaws.{stored_tint}

both_ways : (b : Bool) → (b ≡ true) ⊎ (b ≡ false)
both_ways true = inl refl
both_ways false = inr refl

-- some of the first planes has the place, or none has
record InPlane (n k : ℕ) (q : Cell) : Type 0 where
  plane : ℕ
  below : plane < k
  inside : is_in_box (plane_box n plane) q ≡ true

find_plane : (n k : ℕ) (q : Cell)
    → InPlane n k q ⊎ ((j : ℕ) → j < k → is_in_box (plane_box n j) q ≡ false)
find_plane n zero q = inr (λ j lt. absurd (omega arith))
find_plane n (suc k) q = elim (both_ways (is_in_box (plane_box n k) q)) [
  | inl here ↦ inl (record { plane = k; below = omega arith; inside = here })
  | inr out ↦ elim (find_plane n k q) [
    | inl found ↦ inl (record {
      plane = found.plane;
      below = (let lt = found.below in omega (arith, lt));
      inside = found.inside;
    })
    | inr none ↦ inr (λ j lt. elim (cases_eq j k) [
      | inl same ↦ ap (λ (m : ℕ). is_in_box (plane_box n m) q) same ∙ out
      | inr other ↦ none j (omega arith)
    ])
  ]
]

put_back : (a b : ℕ) → a ≤ b → a + (b - a) ≡ b
put_back a b le = omega arith

pub stored_same : (n : ℕ) (t u : Tints) (v w : World) → StoresTints n t v → StoresTints n u w
    → ((p : Cell) → IsInWorld n p → t p ≡ u p) → (q : Cell) → IsInWorld (4 * n) q → v q ≡ w q
stored_same n t u v w of_t of_u same q i = elim (find_plane n 9 q) [
  | inl found ↦
      let corner : Cell = plane_at n found.plane in
      let b = is_in_box_tells (plane_box n found.plane) q found.inside in
      let p : Cell = less q corner in
      let inside : IsInWorld n p =
      record { x = omega (arith, b.x); y = omega (arith, b.y); z = omega (arith, b.z) } in
      let back : plus corner p ≡ q =
      rw (put_back corner.x q.x b.x.0, put_back corner.y q.y b.y.0, put_back corner.z q.z b.z.0) refl in
      ap v (sym back) ∙ of_t.each found.plane p found.below inside
      ∙ ap (tells found.plane) (same p inside)
      ∙ sym (of_u.each found.plane p found.below inside) ∙ ap w back
  | inr none ↦ of_t.rest q i none ∙ sym (of_u.rest q i none)
]

-- a place of a plane lies in the store's world
part_below : (n h x : ℕ) → h < 2 → x < n → n * h + x < 2 * n
part_below n zero x lt below = omega arith
part_below n (suc zero) x lt below = omega arith
part_below n (suc (suc h)) x lt below = absurd (omega arith)

in_whole : (n b : ℕ) (p : Cell) → IsInWorld n p → IsInWorld (4 * n) (plus (plane_at n (suc b)) p)
in_whole n b p i =
    let x = part_below n (half_x b) p.x (omega arith) i.x in
    let y = part_below n (half_y b) p.y (omega arith) i.y in
    let z = part_below n (half_z b) p.z (omega arith) i.z in
    record { x = omega (arith, x); y = omega (arith, y); z = omega (arith, z) }

bits_same : (f g : ℕ → Bool) (k : ℕ) → ((b : ℕ) → f b ≡ g b) → bits_below f k ≡ bits_below g k
unfolding bits_below
bits_same f g zero same = refl
bits_same f g (suc k) same =
    ap (λ (x : Bool). one_if x * 2 ^ k + bits_below f k) (same k)
    ∙ ap (λ (m : ℕ). one_if (g k) * 2 ^ k + m) (bits_same f g k same)

pub tints_same : (n : ℕ) (t u : Tints) (v w : World) → StoresTints n t v → StoresTints n u w
    → ((q : Cell) → IsInWorld (4 * n) q → v q ≡ w q)
    → (p : Cell) → IsInWorld n p → t p < 2 ^ 8 → u p < 2 ^ 8 → t p ≡ u p
tints_same n t u v w of_t of_u same p i small few =
    sym (stored_tint n t v p of_t i small)
    ∙ bits_same (λ b. v (plus (plane_at n (suc b)) p)) (λ b. w (plus (plane_at n (suc b)) p)) 8
    (λ b. same (plus (plane_at n (suc b)) p) (in_whole n b p i))
    ∙ stored_tint n u w p of_u i few
