-- Octants of a cube of eight blocks that is seen from an offset on: where their own cubes lie.
use Rattle.std.proofs.Common.{◌≡◌, ℕ, zero, suc, ◌+◌, ◌*◌, ◌/◌, ◌%◌, ◌<◌, ◌≤◌, Bool, false, refl, sym, ◌∙◌, ap, arith}
use Rattle.std.specs.Prelude.{◌||◌}
use Rattle.std.proofs.lemmas.Bool.Decides.{nat_tests}
use Rattle.std.proofs.lemmas.Nat.{div-add-mod'}
use Rattle.std.proofs.Math.Nat.{add-mul, mul-le-mul, mul_assoc, mod-lt, div-lt_iff_lt-mul}
use Rattle.vw_cell.specs.declared.cells.Cell.{Cell}
use Rattle.vw_cell.specs.Counts.{cell_at}
use Rattle.vw_cell.specs.Places.{block_side, half_x, half_y, half_z}
use Rattle.node_words.specs.shapes.Shape.{Shape, octant_shape, branch_of, has}
use Rattle.node_words.proofs.OfShapes.ShapeLaws.{block_side-suc, block_side_some, has-octant, half_in, octant_shape-branch_of, halves}
use Rattle.edit_copy.specs.Copies.{IsOffset, IsBegin, step_at, step_rest, begin_of, rest_of, source_from, source_octant, is_unread_on, is_unread}

-- one axis: a place in an octant, taken an offset further on, in blocks of the octant's size
record Axis (s h o x : ℕ) : Type 0 where
  begins : (h * s + o) / s < 3
  rests : (h * s + o) % s < s
  e : ℕ
  r : ℕ
  e_in : e < 2
  r_in : r < s
  there : h * s + x + o ≡ ((h * s + o) / s + e) * s + r
  here : x + (h * s + o) % s ≡ e * s + r

axis_at : (s h o x i w e r : ℕ) → h * s + o ≡ i * s + w → x + w ≡ e * s + r
    → h * s + x + o ≡ (i + e) * s + r
axis_at s h o x i w e r p q =
    let d : (i + e) * s ≡ i * s + e * s = add-mul i e s in omega (arith, p, q, d)

less_than : (s h o n : ℕ) → 1 ≤ s → h * s + o < n * s → (h * s + o) / s < n
less_than s h o n one lt = (div-lt_iff_lt-mul one).1 lt

axis : (s h o x : ℕ) → 1 ≤ s → h < 2 → o < 2 * s → x < s → Axis s h o x
axis s h o x one hh ho hx =
    let a : ℕ = h * s + o in
    let w : ℕ = a % s in
    let wl : w < s = mod-lt a one in
    let am : a ≡ a / s * s + w = sym (div-add-mod' a s) in
    let u : ℕ = x + w in
    let ul : u % s < s = mod-lt u one in
    let um : u ≡ u / s * s + u % s = sym (div-add-mod' u s) in
    let hm : h * s ≤ 1 * s = mul-le-mul (omega arith) (omega arith) in
    record {
      begins = less_than s h o 3 one (omega (arith, hm));
      rests = wl;
      e = u / s;
      r = u % s;
      e_in = (div-lt_iff_lt-mul one).1 (omega arith);
      r_in = ul;
      there = axis_at s h o x (a / s) w (u / s) (u % s) am um;
      here = um;
    }

pub same_has : (level : ℕ) (s : Shape) (x y z x' y' z' : ℕ) → x ≡ x' → y ≡ y' → z ≡ z'
    → has level s x y z ≡ has level s x' y' z'
same_has level s x y z x' y' z' p q r = rw (p, q, r) refl

pub branch_same : (f g : ℕ → Shape) → ((j : ℕ) → j < 8 → f j ≡ g j) → branch_of f ≡ branch_of g
branch_same f g h =
    rw (
      h 0 (omega arith),
      h 1 (omega arith),
      h 2 (omega arith),
      h 3 (omega arith),
      h 4
          (omega arith),
      h 5 (omega arith),
      h 6 (omega arith),
      h 7 (omega arith),
    ) refl

double : (m s t r : ℕ) → t ≡ 2 * s → m * s + r ≡ m / 2 * t + (m % 2 * s + r)
double m s t r e =
    let a : m ≡ m / 2 * 2 + m % 2 = omega arith in
    let b : m * s ≡ (m / 2 * 2 + m % 2) * s = ap (λ n. n * s) a in
    let c : (m / 2 * 2 + m % 2) * s ≡ m / 2 * 2 * s + m % 2 * s = add-mul (m / 2 * 2) (m % 2) s in
    let d : m / 2 * 2 * s ≡ m / 2 * (2 * s) = mul_assoc (m / 2) 2 s in
    let f : m / 2 * t ≡ m / 2 * (2 * s) = ap (λ n. m / 2 * n) e in
    omega (arith, b, c, d, f)

-- the cells of a quarter of a block's side
two_down : (level : ℕ) (s : Shape) (i j k x y z : ℕ) → i < 4 → j < 4 → k < 4 → x < block_side level
    → y < block_side level → z < block_side level
    → has (suc (suc level)) s (i * block_side level + x) (j * block_side level + y)
    (k * block_side level + z)
    ≡ has level (octant_shape (octant_shape s (i / 2 + 2 * (j / 2) + 4 * (k / 2)))
    (i % 2 + 2 * (j % 2) + 4 * (k % 2))) x y z
two_down level s i j k x y z li lj lk p q r =
    let w : ℕ = block_side level in
    let e = block_side-suc level in
    let di = double i w (block_side (suc level)) x e in
    let dj = double j w (block_side (suc level)) y e in
    let dk = double k w (block_side (suc level)) z e in
    same_has (suc (suc level)) s _ _ _ _ _ _ di dj dk
    ∙ has-octant (suc level) s (i / 2) (j / 2) (k / 2) (i % 2 * w + x) (j % 2 * w + y)
    (k % 2 * w + z) (half_in level (i % 2) x (omega arith) p)
    (half_in level (j % 2) y (omega arith) q) (half_in level (k % 2) z (omega arith) r)
    ∙ has-octant level (octant_shape s (i / 2 + 2 * (j / 2) + 4 * (k / 2))) (i % 2) (j % 2)
    (k % 2) x y z p q r

-- the shape of source j of an octant, in a cube
abbrev pub part_of : Shape → Cell → ℕ → Shape
part_of s at j = octant_shape (octant_shape s (source_from at j)) (source_octant at j)

halves_of : (a b c i j k x y z : ℕ) (s : Shape) (level : ℕ) → i < 2 → j < 2 → k < 2
    → has level
    (octant_shape (octant_shape s ((a + i) / 2 + 2 * ((b + j) / 2) + 4 * ((c + k) / 2)))
    ((a + i) % 2 + 2 * ((b + j) % 2) + 4 * ((c + k) % 2))) x y z
    ≡ has level (part_of s (cell_at a b c) (i + 2 * j + 4 * k)) x y z
halves_of a b c i j k x y z s level p q r =
    let n : ℕ = i + 2 * j + 4 * k in
    let u : half_x n ≡ i = omega arith in
    let v : half_y n ≡ j = omega arith in
    let w : half_z n ≡ k = omega arith in
    rw (u, v, w) refl

-- where an offset is 0 no cell lies in the farther block
is_near : (s x w e r : ℕ) → e < 2 → x < s → x + w ≡ e * s + r → is_unread_on e w ≡ false
is_near s x w zero r two h q = refl
is_near s x zero (suc zero) r two h q = absurd (omega (arith, h, q))
is_near s x (suc w) (suc zero) r two h q = grind (arith, nat_tests)
is_near s x w (suc (suc e)) r two h q = absurd (omega (arith, two))

three_not : (a b c : Bool) → a ≡ false → b ≡ false → c ≡ false → (a || b || c) ≡ false
three_not a b c p q r = rw (p, q, r) refl

is_read : (offset : Cell) (i j k : ℕ) → i < 2 → j < 2 → k < 2 → is_unread_on i offset.x ≡ false
    → is_unread_on j offset.y ≡ false → is_unread_on k offset.z ≡ false
    → is_unread offset (i + 2 * j + 4 * k) ≡ false
is_read offset i j k li lj lk p q r =
    let n : ℕ = i + 2 * j + 4 * k in
    let u : half_x n ≡ i = omega arith in
    let v : half_y n ≡ j = omega arith in
    let w : half_z n ≡ k = omega arith in
    three_not _ _ _ (ap (λ (h : ℕ). is_unread_on h offset.x) u ∙ p)
    (ap (λ (h : ℕ). is_unread_on h offset.y) v ∙ q)
    (ap (λ (h : ℕ). is_unread_on h offset.z) w ∙ r)

-- an octant of a cube seen from an offset on is its own cube from its own offset on, where this has
-- what is read
pub window_step : (level : ℕ) (s : Shape) (f : ℕ → Shape) (k : ℕ) (offset : Cell) (x y z : ℕ)
    → k < 8 → IsOffset (suc level) offset → x < block_side level → y < block_side level
    → z < block_side level
    → ((j : ℕ) → j < 8 → is_unread (rest_of level k offset) j ≡ false → f j
    ≡ part_of s (begin_of level k offset) j)
    → has (suc (suc level)) s (half_x k * block_side level + x + offset.x)
    (half_y k * block_side level + y + offset.y) (half_z k * block_side level + z + offset.z)
    ≡ has (suc level) (branch_of f) (x + step_rest level (half_x k) offset.x)
    (y + step_rest level (half_y k) offset.y) (z + step_rest level (half_z k) offset.z)
window_step level s f k offset x y z lt o p q r same =
    let w : ℕ = block_side level in
    let one : 1 ≤ w = block_side_some level in
    let e = block_side-suc level in
    let h = halves k lt in
    let ax = axis w (half_x k) offset.x x one h.x (omega (arith, o.x, e)) p in
    let ay = axis w (half_y k) offset.y y one h.y (omega (arith, o.y, e)) q in
    let az = axis w (half_z k) offset.z z one h.z (omega (arith, o.z, e)) r in
    let ix : ℕ = step_at level (half_x k) offset.x in
    let iy : ℕ = step_at level (half_y k) offset.y in
    let iz : ℕ = step_at level (half_z k) offset.z in
    let n : ℕ = ax.e + 2 * ay.e + 4 * az.e in
    let below : n < 8 = omega (arith, ax.e_in, ay.e_in, az.e_in) in
    let read =
    is_read (rest_of level k offset) ax.e ay.e az.e ax.e_in ay.e_in az.e_in
    (is_near w x _ ax.e ax.r ax.e_in p ax.here) (is_near w y _ ay.e ay.r ay.e_in q ay.here)
    (is_near w z _ az.e az.r az.e_in r az.here) in
    same_has (suc (suc level)) s _ _ _ _ _ _ ax.there ay.there az.there
    ∙ two_down level s (ix + ax.e) (iy + ay.e) (iz + az.e) ax.r ay.r az.r
    (omega (arith, ax.begins, ax.e_in)) (omega (arith, ay.begins, ay.e_in))
    (omega (arith, az.begins, az.e_in)) ax.r_in ay.r_in az.r_in
    ∙ halves_of ix iy iz ax.e ay.e az.e ax.r ay.r az.r s level ax.e_in ay.e_in az.e_in
    ∙ ap (λ (t : Shape). has level t ax.r ay.r az.r)
    (sym (same n below read) ∙ sym (octant_shape-branch_of f n below))
    ∙ sym (has-octant level (branch_of f) ax.e ay.e az.e ax.r ay.r az.r ax.r_in ay.r_in az.r_in)
    ∙ sym (same_has (suc level) (branch_of f) _ _ _ _ _ _ ax.here ay.here az.here)

pub step_rests : (level k : ℕ) (offset : Cell) → IsOffset level (rest_of level k offset)
step_rests level k offset =
    let one : 1 ≤ block_side level = block_side_some level in record
    { x = mod-lt _ one; y = mod-lt _ one; z = mod-lt _ one }

pub step_begins : (level k : ℕ) (offset : Cell) → k < 8 → IsOffset (suc level) offset
    → IsBegin (begin_of level k offset)
step_begins level k offset lt o =
    let w : ℕ = block_side level in
    let one : 1 ≤ w = block_side_some level in
    let e = block_side-suc level in
    let h = halves k lt in
    record {
      x = (axis w (half_x k) offset.x 0 one h.x (omega (arith, o.x, e)) one).begins;
      y = (axis w (half_y k) offset.y 0 one h.y (omega (arith, o.y, e)) one).begins;
      z = (axis w (half_z k) offset.z 0 one h.z (omega (arith, o.z, e)) one).begins;
    }

pub source_in_cube : (at : Cell) (j : ℕ) → IsBegin at → j < 8
    → (source_from at j < 8) × (source_octant at j < 8)
source_in_cube at j b lt =
    let h = halves j lt in
    (omega (arith, b.x, b.y, b.z, h.x, h.y, h.z), omega arith)
