-- The course of a ray.
use Rattle.std.proofs.Common.{◌≡◌, ℕ, ◌+◌, ◌-◌, ◌*◌, ◌^◌, ◌<◌, ◌≤◌, Bool, Some, None, sym, subst, arith}
use Rattle.std.proofs.lemmas.Nat.{mul-le}
use lib.Pow.{pow_mono}
use Rattle.vw_cell.specs.declared.cells.Cell.{Cell}
use Rattle.vw_cell.specs.Places.{IsInWorld, block_side}
use Rattle.ray_walk.specs.declared.courses.Course.{Course}
use Rattle.std.specs.Prelude.{List, Option}
use Rattle.node_words.specs.declared.shapes.names.Name.{Name}
use Rattle.node_words.specs.shapes.Tree.{Tree, shape_of}
use Rattle.node_words.specs.descent.Roots.{IsBlockOf, cells_of}
use Rattle.node_words.proofs.OfDescent.LookLaws.{root_side}
use Rattle.ray_walk.specs.Courses.{IsTrackIn, IsCourseIn, BeginsBelow, CourseMeets}
use Rattle.history_model.specs.Ways.{Heading, ahead, behind}
use Rattle.history_model.specs.Rays.{factor, scale, IsAt, Hits}
use Rattle.ray_walk.specs.Rays.{course_of}

pub scale_small : (x y z : ℕ) → x ≤ 1024 → y ≤ 1024 → z ≤ 1024 → x * (y * z) ≤ 2 ^ 30
scale_small x y z p q r =
    let inner : y * z ≤ 1024 * 1024 = mul-le y z 1024 1024 q r in
    let all : x * (y * z) ≤ 1024 * (1024 * 1024) = mul-le x (y * z) 1024 (1024 * 1024) p inner in
    omega arith

some_factors : (x y z : ℕ) → 1 ≤ x → 1 ≤ y → 1 ≤ z → 1 ≤ x * (y * z)
some_factors x y z p q r =
    let inner : 1 * 1 ≤ y * z = mul-le 1 1 y z q r in
    let all : 1 * 1 ≤ x * (y * z) = mul-le 1 1 x (y * z) p (omega arith) in
    omega arith

scale_some : (way : Heading) → 1 ≤ scale way
scale_some way =
    let some = some_factors (factor way.dx) (factor way.dy) (factor way.dz) (omega arith)
    (omega arith) (omega arith) in omega (arith, some)

-- the centre of a cell lies between its beginning and its end
starts_in : (l o : ℕ) → 1 ≤ l
    → (2 * l * o + 0 ≤ l * (2 * o + 1) + 0) × (l * (2 * o + 1) + 0 < 2 * l * o + 2 * l + 0)
starts_in l o h = (omega arith, omega arith)

starts_below : (l o n : ℕ) → 1 ≤ l → o < n → l * (2 * o + 1) < 2 * l * n
starts_below l o n h lt =
    let more : 2 * l * (o + 1) ≤ 2 * l * n = mul-le (2 * l) (o + 1) (2 * l) n (omega arith)
    (omega arith) in omega (arith, more)

passes_at_first : (l o a b : ℕ) → 1 ≤ l
    → IsTrackIn (record { unit = 2 * l; start = l * (2 * o + 1); ahead = a; behind = b }) 0 o
passes_at_first l o a b h = let s = starts_in l o h in (omega (arith, s.0), omega (arith, s.1))

pub course_starts : (from : Cell) (way : Heading) → IsCourseIn (course_of from way) 0 from
course_starts from way =
    let some = scale_some way in
    record {
      x = passes_at_first (scale way) from.x (ahead way.dx) (behind way.dx) some;
      y = passes_at_first (scale way) from.y (ahead way.dy) (behind way.dy) some;
      z = passes_at_first (scale way) from.z (ahead way.dz) (behind way.dz) some;
    }

pub course_begins : (from : Cell) (way : Heading) (n : ℕ) → IsInWorld n from
    → BeginsBelow (course_of from way) n
course_begins from way n i =
    let some = scale_some way in
    record {
      x = starts_below (scale way) from.x n some i.x;
      y = starts_below
          (scale way) from.y n some i.y;
      z = starts_below (scale way) from.z n some i.z;
    }

pub in_greatest : (side : ℕ) (c : Cell) → side ≤ 12 → IsInWorld (2 ^ side) c → IsInWorld 4096 c
in_greatest side c h i =
    let most : 2 ^ side ≤ 2 ^ 12 = pow_mono h in
    record { x = omega (arith, i.x); y = omega (arith, i.y); z = omega (arith, i.z) }

-- what the course meets the ray hits
on_course : (from : Cell) (way : Heading) (k : ℕ) (c : Cell) → IsAt from way k c
    → IsCourseIn (course_of from way) k c
on_course from way k c at = record { x = at.x; y = at.y; z = at.z }

on_ray : (from : Cell) (way : Heading) (k : ℕ) (c : Cell) → IsCourseIn (course_of from way) k c
    → IsAt from way k c
on_ray from way k c at = record { x = at.x; y = at.y; z = at.z }

ray_hits : (from : Cell) (way : Heading) (side : ℕ) (cells : Cell → Bool) (found : Option Cell)
    → CourseMeets (course_of from way) side cells found → Hits from way side cells found
ray_hits from way side cells None m =
    record { each = λ k c at i. m.each k c (on_course from way k c at) i }
ray_hits from way side cells (Some c) m = record {
  instant = m.instant;
  at = on_ray from way m.instant c m.at;
  in_world = m.in_world;
  set = m.set;
  before = record { each = λ j q lt at i. m.before.each j q lt (on_course from way j q at) i };
}

-- what the walk meets in the root's block, as the ray's in the root's world
pub first_of : (held : List Tree) (level side : ℕ) (root name : Option Name) (from : Cell)
    (way : Heading) (r : Course) (found : Option Cell) → level ≡ side - 2 → 2 ≤ side → name ≡ root
    → r ≡ course_of from way
    → ((t : Tree) → IsBlockOf held level name t
    → CourseMeets r (block_side level) (cells_of level (shape_of t)) found)
    → (t : Tree) → IsBlockOf held (side - 2) root t
    → Hits from way (2 ^ side) (cells_of (side - 2) (shape_of t)) found
first_of held level side root name from way r found e h n c told t o =
    let at =
    subst (λ (m : Option Name). IsBlockOf held level m t) (sym n)
    (subst (λ (l : ℕ). IsBlockOf held l root t) (sym e) o) in
    let whole = root_side level side e h in
    let by_course =
    subst (λ (v : Course). CourseMeets v (block_side level)
    (cells_of level (shape_of t)) found) c (told t at) in
    let by_side =
    subst (λ (w : ℕ). CourseMeets (course_of from way) w (cells_of level (shape_of t)) found)
    (sym whole) by_course in
    ray_hits from way (2 ^ side) (cells_of (side - 2) (shape_of t)) found
    (subst (λ (l : ℕ). CourseMeets (course_of from way) (2 ^ side)
    (cells_of l (shape_of t)) found) e by_side)
