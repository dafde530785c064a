-- A place of a plane of a bit, by the two octants that it stands in.
use Rattle.std.proofs.Common.{◌≡◌, ℕ, zero, suc, ◌+◌, ◌*◌, ◌<◌, sym, ◌∙◌, ap, arith}
use Rattle.vw_cell.specs.declared.cells.Cell.{Cell}
use Rattle.vw_cell.specs.Places.{IsInWorld, block_side, half_x, half_y, half_z}
use Rattle.node_words.specs.shapes.Shape.{Shape, has, octant_shape}
use Rattle.node_words.proofs.OfShapes.ShapeLaws.{has-in_octant, block_side-suc, halves}
use Rattle.node_words.specs.descent.Roots.{cells_of}
use Rattle.history_model.specs.Worlds.{plus}
use Rattle.history_model.specs.Planes.{plane_at}

pub inner_below : (n h x : ℕ) → h < 2 → x < n → h * n + x < 2 * n
inner_below n zero x lt below = omega arith
inner_below n (suc zero) x lt below = omega arith
inner_below n (suc (suc h)) x lt below = absurd (omega arith)

-- a place of a plane of a bit, by the two octants that it stands in
place_x : (n h x : ℕ) → 2 * n + n * h + x ≡ 1 * (2 * n) + (h * n + x)
place_x n h x = omega arith

place_y : (n h y : ℕ) → n * h + y ≡ 0 * (2 * n) + (h * n + y)
place_y n h y = omega arith

pub in_octants : (l : ℕ) (s : Shape) (b : ℕ) (p : Cell) → b < 8 → IsInWorld (block_side l) p
    → cells_of (suc (suc l)) s (plus (plane_at (block_side l) (suc b)) p)
    ≡ cells_of l (octant_shape (octant_shape s 1) b) p
in_octants l s b p lt i =
    let n : ℕ = block_side l in
    let e : block_side (suc l) ≡ 2 * n = block_side-suc l in
    let h = halves b lt in
    let bx : half_x b * n + p.x < block_side (suc l) =
    (let q = inner_below n (half_x b) p.x h.x i.x in omega (arith, q, e)) in
    let by : half_y b * n + p.y < block_side (suc l) =
    (let q = inner_below n (half_y b) p.y h.y i.y in omega (arith, q, e)) in
    let bz : half_z b * n + p.z < block_side (suc l) =
    (let q = inner_below n (half_z b) p.z h.z i.z in omega (arith, q, e)) in
    let x : 2 * n + n * half_x b + p.x ≡ half_x 1 * block_side (suc l) + (half_x b * n + p.x) =
    place_x n (half_x b) p.x ∙ ap (λ (m : ℕ). 1 * m + (half_x b * n + p.x)) (sym e) in
    let y : n * half_y b + p.y ≡ half_y 1 * block_side (suc l) + (half_y b * n + p.y) =
    place_y n (half_y b) p.y ∙ ap (λ (m : ℕ). 0 * m + (half_y b * n + p.y)) (sym e) in
    let z : n * half_z b + p.z ≡ half_z 1 * block_side (suc l) + (half_z b * n + p.z) =
    place_y n (half_z b) p.z ∙ ap (λ (m : ℕ). 0 * m + (half_z b * n + p.z)) (sym e) in
    ap (λ (a : ℕ). has (suc (suc l)) s a (n * half_y b + p.y) (n * half_z b + p.z)) x
    ∙ ap
    (λ (a : ℕ). has (suc (suc l)) s (half_x 1 * block_side (suc l) + (half_x b * n + p.x)) a
    (n * half_z b + p.z)) y
    ∙ ap
    (λ (a : ℕ). has (suc (suc l)) s (half_x 1 * block_side (suc l) + (half_x b * n + p.x))
    (half_y 1 * block_side (suc l) + (half_y b * n + p.y)) a) z
    ∙ has-in_octant (suc l) s 1 _ _ _ (omega arith) bx by bz
    ∙ has-in_octant l (octant_shape s 1) b p.x p.y p.z lt i.x i.y i.z
