-- What the tasks of the planes make of a root that is held is the world with each plane edited.
use Rattle.std.proofs.Common.{◌≡◌, ◌≢◌, ℕ, zero, suc, ◌+◌, ◌-◌, ◌*◌, ◌<◌, ◌≤◌, false, Option, List, refl, sym, ◌∙◌, ap, subst, arith}
use native.Mathlib.Nat.{suc-mul}
use Rattle.vw_cell.specs.declared.cells.Cell.{Cell}
use Rattle.vw_cell.specs.Counts.{cell_at}
use Rattle.vw_cell.specs.Places.{IsInWorld, is_in_box, block_side, half_x, half_y, half_z}
use Rattle.vw_cell.specs.Tests.{is_in_box_tells}
use Rattle.node_words.specs.declared.shapes.names.Name.{Name}
use Rattle.node_words.specs.shapes.Shape.{Shape, has}
use Rattle.node_words.specs.shapes.Tree.{Tree, root_of, child_of, shape_of}
use Rattle.node_words.proofs.OfShapes.ShapeLaws.{has-in_octant, block_side-suc, halves}
use Rattle.node_words.proofs.OfShapes.TreeLaws.{shape_of-child}
use Rattle.node_words.specs.Held.{AreTrees, AreCanonical}
use Rattle.node_words.specs.contents.CellShapes.{Cells, SameIn, octant_cells}
use Rattle.node_words.proofs.OfContents.SameCells.{octant_same}
use Rattle.edit_walk.specs.cells.Tasks.{Making}
use Rattle.edit_walk.specs.cells.Paints.{IsOld}
use Rattle.edit_walk.specs.cells.Worlds.{ShowsWorld, world_cells}
use Rattle.edit_walk.proofs.OfCells.PaintLaws.{old_child}
use Rattle.edit_walk.proofs.OfCells.WorldLaws.{root_old, world_places}
use Rattle.history_model.specs.Worlds.{World, plus}
use Rattle.history_model.specs.Planes.{plane_at, plane_box}
use Rattle.core_laws.proofs.OfTints.PlaneLaws.{bool_false}
use Rattle.colour.specs.declared.walks.TintTask.TheVariants.{Root}
use Rattle.colour.proofs.PlaceLaws.{inner_below}
use Rattle.colour.specs.Walks.{LeavesBlock, MakesRow, first_octants, bit_octants, root_octants, makes_tint, CellEdit, MakesPlanes}

-- ---- places by octants

place_of_bit : (n h x : ℕ) → 1 * (2 * n) + (h * n + x) ≡ 2 * n + n * h + x
place_of_bit n h x = omega arith

place_beside : (n h y : ℕ) → 0 * (2 * n) + (h * n + y) ≡ n * h + y
place_beside n h y = omega arith

three : (a b c x y z : ℕ) → a ≡ x → b ≡ y → c ≡ z → cell_at a b c ≡ cell_at x y z
three a b c x y z e f g =
    ap (λ (i : ℕ). cell_at i b c) e ∙ ap (λ (i : ℕ). cell_at x i c) f
    ∙ ap (λ (i : ℕ). cell_at x y i) g

bit_place : (n s b x y z : ℕ) → s ≡ 2 * n
    → cell_at (half_x 1 * s + (half_x b * n + x)) (half_y 1 * s + (half_y b * n + y))
    (half_z 1 * s + (half_z b * n + z))
    ≡ plus (plane_at n (suc b)) (cell_at x y z)
bit_place n s b x y z e =
    three _ _ _ _ _ _
    (ap (λ (m : ℕ). 1 * m + (half_x b * n + x)) e ∙ place_of_bit n (half_x b) x)
    (ap (λ (m : ℕ). 0 * m + (half_y b * n + y)) e ∙ place_beside n (half_y b) y)
    (ap (λ (m : ℕ). 0 * m + (half_z b * n + z)) e ∙ place_beside n (half_z b) z)

place_first : (n s x : ℕ) → 0 * s + (0 * n + x) ≡ 0 + x
place_first n s x = omega arith

first_place : (n s x y z : ℕ)
    → cell_at (half_x 0 * s + (half_x 0 * n + x)) (half_y 0 * s + (half_y 0 * n + y))
    (half_z 0 * s + (half_z 0 * n + z))
    ≡ plus (plane_at n 0) (cell_at x y z)
first_place n s x y z =
    three _ _ _ _ _ _ (place_first n s x) (place_first n s y) (place_first n s z)

-- ---- octants without a plane

-- an octant's place below the first half of an axis stands in the first half
low_half : (h m y bound : ℕ) → h * m + y < bound → bound ≤ m → h ≡ 0
low_half zero m y bound lt le = refl
low_half (suc h) m y bound lt le =
    let e : suc h * m ≡ h * m + m = suc-mul h m in
    absurd (omega (arith, lt, le, e))

beside_end : (n h : ℕ) → h < 2 → n * h + n ≤ 2 * n
beside_end n zero lt = omega arith
beside_end n (suc zero) lt = omega arith
beside_end n (suc (suc h)) lt = absurd (omega arith)

end_y : (n j : ℕ) → j < 9 → (plane_at n j).y + n ≤ 2 * n
end_y n zero lt = omega arith
end_y n (suc b) lt = let h = halves b (omega arith) in beside_end n (half_y b) h.y

end_z : (n j : ℕ) → j < 9 → (plane_at n j).z + n ≤ 2 * n
end_z n zero lt = omega arith
end_z n (suc b) lt = let h = halves b (omega arith) in beside_end n (half_z b) h.z

is_low : (k : ℕ) → k < 8 → half_y k ≡ 0 → half_z k ≡ 0 → k ≢ 0 → k ≢ 1 → ⊥
is_low k lt y z first second = omega (arith, y, z, first, second)

-- the octants of the root but the first two
out_of_root : (n s k x y z : ℕ) → s ≡ 2 * n → k < 8 → k ≢ 0 → k ≢ 1 → (j : ℕ) → j < 9
    → is_in_box (plane_box n j)
    (cell_at (half_x k * s + x) (half_y k * s + y) (half_z k * s + z)) ≡ false
out_of_root n s k x y z e lt first second j lj =
    bool_false _ (λ b.
    let i = is_in_box_tells (plane_box n j)
    (cell_at (half_x k * s + x) (half_y k * s + y) (half_z k * s + z)) b in
    let ey = end_y n j lj in
    let ez = end_z n j lj in
    let hy : half_y k ≡ 0 =
    low_half (half_y k) s y ((plane_at n j).y + n) i.y.1 (omega (arith, ey, e)) in
    let hz : half_z k ≡ 0 =
    low_half (half_z k) s z ((plane_at n j).z + n) i.z.1 (omega (arith, ez, e)) in
    is_low k lt hy hz first second)

is_first : (k : ℕ) → k < 8 → half_x k ≡ 0 → half_y k ≡ 0 → half_z k ≡ 0 → k ≡ 0
is_first k lt x y z = omega (arith, x, y, z)

from_zero : (s h n x bound : ℕ) → 0 * s + (h * n + x) < bound → h * n + x < bound
from_zero s h n x bound lt = omega arith

zero_end : (n : ℕ) → 0 + n ≤ n
zero_end n = omega arith

-- the octants of the first but its first
out_of_first : (n s k x y z : ℕ) → k < 8 → k ≢ 0 → x < n → (j : ℕ) → j < 9
    → is_in_box (plane_box n j)
    (cell_at (half_x 0 * s + (half_x k * n + x)) (half_y 0 * s + (half_y k * n + y))
    (half_z 0 * s + (half_z k * n + z))) ≡ false
out_of_first n s k x y z lt other lx zero lj =
    bool_false _ (λ b.
    let i = is_in_box_tells (plane_box n 0)
    (cell_at (half_x 0 * s + (half_x k * n + x)) (half_y 0 * s + (half_y k * n + y))
    (half_z 0 * s + (half_z k * n + z))) b in
    let hx : half_x k ≡ 0 =
    low_half (half_x k) n x (0 + n) (from_zero s (half_x k) n x (0 + n) i.x.1) (zero_end n) in
    let hy : half_y k ≡ 0 =
    low_half (half_y k) n y (0 + n) (from_zero s (half_y k) n y (0 + n) i.y.1) (zero_end n) in
    let hz : half_z k ≡ 0 =
    low_half (half_z k) n z (0 + n) (from_zero s (half_z k) n z (0 + n) i.z.1) (zero_end n) in
    other (is_first k lt hx hy hz))
out_of_first n s k x y z lt other lx (suc b) lj =
    bool_false _ (λ t.
    let i = is_in_box_tells (plane_box n (suc b))
    (cell_at (half_x 0 * s + (half_x k * n + x)) (half_y 0 * s + (half_y k * n + y))
    (half_z 0 * s + (half_z k * n + z))) t in
    let h = halves k lt in
    let below = inner_below n (half_x k) x h.x lx in
    omega (arith, i.x.0, below))

-- ---- what a root's octants show

child_shows : (level : ℕ) (t : Tree) (cells : Cells) (k : ℕ) → k < 8
    → SameIn (suc level) (has (suc level) (shape_of t)) cells
    → SameIn level (has level (shape_of (child_of t k))) (octant_cells level cells k)
child_shows level t cells k lt s =
    record {
      each = λ x y z p q r.
          ap (λ (u : Shape). has level u x y z) (shape_of-child t k)
          ∙ sym (has-in_octant level (shape_of t) k x y z lt p q r)
          ∙ (octant_same level _ _ k lt s).each x y z p q r;
    }

child_is_old : (held : List Tree) (level : ℕ) (t : Tree) (old : Option Name) (k : ℕ)
    → IsOld held (suc level) t old → IsOld held level (child_of t k) (root_of (child_of t k))
child_is_old held level t old k o =
    let down : suc level - 1 ≡ level = omega arith in
    subst (λ (l : ℕ). IsOld held l (child_of t k) (root_of (child_of t k))) down
    (old_child held (suc level) t old (root_of (child_of t k)) k (omega arith) o refl)

-- a block in which the world stays the same
kept_made : (held : List Tree) (level : ℕ) (t : Tree) (old : Option Name) (before after : Cells)
    → level ≤ 10 → IsOld held level t old → SameIn level (has level (shape_of t)) before
    → SameIn level after before → LeavesBlock old held level after
kept_made held level t old before after small o shows same =
    record {
      small = small;
      paints = record {
        tree = t;
        is_old = o;
        shows = record {
          each = λ x y z p q r. same.each x y z p q r ∙ sym (shows.each x y z p q r);
        };
      };
    }

-- ---- the planes of a world

-- what each cell of a plane becomes, and the rest of the store's world stays
pub record EditsPlanes (n : ℕ) (edit : CellEdit) (before after : World) : Type 0 where
  pub each : (k : ℕ) (p : Cell) → k < 9 → IsInWorld n p
      → after (plus (plane_at n k) p) ≡ edit k p (before (plus (plane_at n k) p))
  pub rest : (q : Cell) → ((k : ℕ) → k < 9 → is_in_box (plane_box n k) q ≡ false)
      → after q ≡ before q

module _ {P T : Type 0} (task_of : P → ℕ → Option Name → T) (makes : T → Making) (planes : P)
    (held : List Tree) (l : ℕ) (edit : CellEdit) (before after : World)
    (edits : EditsPlanes (block_side l) edit before after)
    (made : MakesPlanes task_of makes planes held l edit) where
  -- a plane's block, by any way to tell its places
  plane_made : (k : ℕ) (t : Tree) (old : Option Name) (place : ℕ → ℕ → ℕ → Cell) → k < 9
      → IsOld held l t old
      → ((x y z : ℕ) → place x y z ≡ plus (plane_at (block_side l) k) (cell_at x y z))
      → SameIn l (has l (shape_of t)) (λ x y z. before (place x y z))
      → makes (task_of planes k old) held l (λ x y z. after (place x y z))
  plane_made k t old place lt o is shows =
      made.each k t old (λ x y z. after (place x y z)) lt o
      (record {
        each = λ x y z p q r.
            ap after (is x y z)
            ∙ edits.each k (cell_at x y z) lt (record { x = p; y = q; z = r })
            ∙ ap (edit k (cell_at x y z))
            (ap before (sym (is x y z)) ∙ sym (shows.each x y z p q r));
      })

  first_row : (t : Tree) (old : Option Name) → suc l ≤ 10 → IsOld held (suc l) t old
      → SameIn (suc l) (has (suc l) (shape_of t)) (octant_cells (suc l) (world_cells before) 0)
      → MakesRow (first_octants task_of makes planes) old held (suc l)
      (octant_cells (suc l) (world_cells after) 0)
  first_row t old small o shows =
      record {
        small = small;
        above = omega arith;
        tree = t;
        is_old = o;
        each = λ k lt.
            subst (λ (j : ℕ). first_octants task_of makes planes k (root_of (child_of t k)) held j
            (octant_cells j (octant_cells (suc l) (world_cells after) 0) k)) (sym down)
            (octant k lt);
      }
    where
      down : suc l - 1 ≡ l
      down = omega arith

      octant : (k : ℕ) → k < 8
          → first_octants task_of makes planes k (root_of (child_of t k)) held l
          (octant_cells l (octant_cells (suc l) (world_cells after) 0) k)
      octant zero lt =
          plane_made 0 (child_of t 0) (root_of (child_of t 0))
          (λ x y z. cell_at (half_x 0 * block_side (suc l) + (half_x 0 * block_side l + x))
          (half_y 0 * block_side (suc l) + (half_y 0 * block_side l + y))
          (half_z 0 * block_side (suc l) + (half_z 0 * block_side l + z)))
          (omega arith) (child_is_old held l t old 0 o)
          (λ x y z. first_place (block_side l) (block_side (suc l)) x y z)
          (child_shows l t (octant_cells (suc l) (world_cells before) 0) 0 lt shows)
      octant (suc k) lt =
          kept_made held l (child_of t (suc k)) (root_of (child_of t (suc k)))
          (octant_cells l (octant_cells (suc l) (world_cells before) 0) (suc k))
          (octant_cells l (octant_cells (suc l) (world_cells after) 0) (suc k)) (omega arith)
          (child_is_old held l t old (suc k) o)
          (child_shows l t (octant_cells (suc l) (world_cells before) 0) (suc k) lt shows)
          (record {
            each = λ x y z p q r.
                edits.rest _
                (out_of_first (block_side l) (block_side (suc l)) (suc k) x y z lt (λ e. cc) p);
          })

  bit_row : (t : Tree) (old : Option Name) → suc l ≤ 10 → IsOld held (suc l) t old
      → SameIn (suc l) (has (suc l) (shape_of t)) (octant_cells (suc l) (world_cells before) 1)
      → MakesRow (bit_octants task_of makes planes) old held (suc l)
      (octant_cells (suc l) (world_cells after) 1)
  bit_row t old small o shows =
      record {
        small = small;
        above = omega arith;
        tree = t;
        is_old = o;
        each = λ b lt.
            subst (λ (j : ℕ). bit_octants task_of makes planes b (root_of (child_of t b)) held j
            (octant_cells j (octant_cells (suc l) (world_cells after) 1) b)) (sym down)
            (plane_made (suc b) (child_of t b) (root_of (child_of t b))
            (λ x y z. cell_at (half_x 1 * block_side (suc l) + (half_x b * block_side l + x))
            (half_y 1 * block_side (suc l) + (half_y b * block_side l + y))
            (half_z 1 * block_side (suc l) + (half_z b * block_side l + z)))
            (omega arith) (child_is_old held l t old b o)
            (λ x y z. bit_place (block_side l) (block_side (suc l)) b x y z (block_side-suc l))
            (child_shows l t (octant_cells (suc l) (world_cells before) 1) b lt shows));
      }
    where
      down : suc l - 1 ≡ l
      down = omega arith

  root_row : (t : Tree) (old : Option Name) → suc (suc l) ≤ 10 → IsOld held (suc (suc l)) t old
      → SameIn (suc (suc l)) (has (suc (suc l)) (shape_of t)) (world_cells before)
      → MakesRow (root_octants task_of makes planes) old held (suc (suc l)) (world_cells after)
  root_row t old small o shows =
      record {
        small = small;
        above = omega arith;
        tree = t;
        is_old = o;
        each = λ k lt.
            subst (λ (j : ℕ). root_octants task_of makes planes k (root_of (child_of t k)) held j
            (octant_cells j (world_cells after) k)) (sym down) (octant k lt);
      }
    where
      down : suc (suc l) - 1 ≡ suc l
      down = omega arith

      octant : (k : ℕ) → k < 8
          → root_octants task_of makes planes k (root_of (child_of t k)) held (suc l)
          (octant_cells (suc l) (world_cells after) k)
      octant zero lt =
          first_row (child_of t 0) (root_of (child_of t 0)) (omega arith)
          (child_is_old held (suc l) t old 0 o)
          (child_shows (suc l) t (world_cells before) 0 lt shows)
      octant (suc zero) lt =
          bit_row (child_of t 1) (root_of (child_of t 1)) (omega arith)
          (child_is_old held (suc l) t old 1 o)
          (child_shows (suc l) t (world_cells before) 1 lt shows)
      octant (suc (suc k)) lt =
          kept_made held (suc l) (child_of t (suc (suc k))) (root_of (child_of t (suc (suc k))))
          (octant_cells (suc l) (world_cells before) (suc (suc k)))
          (octant_cells (suc l) (world_cells after) (suc (suc k))) (omega arith)
          (child_is_old held (suc l) t old (suc (suc k)) o)
          (child_shows (suc l) t (world_cells before) (suc (suc k)) lt shows)
          (record {
            each = λ x y z p q r.
                edits.rest _
                (out_of_root (block_side l) (block_side (suc l)) (suc (suc k)) x y z
                (block_side-suc l) lt (λ e. cc) (λ e. cc));
          })

  -- the root of a world that is held
  pub world_made : (side : ℕ) (root : Option Name) → suc (suc l) ≤ 10 → AreTrees side held
      → AreCanonical held → ShowsWorld held (suc (suc l)) root before
      → makes_tint task_of makes (Root root planes) held (suc (suc l)) (world_cells after)
  world_made side root small trees canonical w =
      root_row w.tree root small
      (root_old side (suc (suc l)) held w.tree root trees canonical w.is_root)
      (world_places (suc (suc l)) (shape_of w.tree) before w.shows)
