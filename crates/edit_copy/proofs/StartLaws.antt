-- The copy of a box in the world, as the task of the whole.
use Rattle.std.proofs.Common.{◌≡◌, ◌≢◌, ℕ, zero, suc, ◌+◌, ◌-◌, ◌*◌, ◌^◌, ◌<◌, ◌≤◌, Bool, true, false, None, Option, List, [], refl, sym, ◌∙◌, ap, subst, arith, inl, inr, ◌∷◌, set, get_or-set_same, get_or-set_other}
use Rattle.std.specs.Prelude.{if◌then◌else◌}
use Rattle.std.proofs.lemmas.Bool.{cases_eq}
use native.Mathlib.Nat.{pow-suc}
use Rattle.vw_cell.specs.declared.cells.Cell.{Cell}
use Rattle.vw_cell.specs.declared.boxes.Boxed.{Boxed}
use Rattle.vw_cell.specs.Counts.{cell_at}
use Rattle.vw_cell.specs.Places.{block_side, is_in_box, FitsAt}
use Rattle.vw_cell.specs.Tests.{is_in_box_tells}
use Rattle.node_words.specs.declared.shapes.names.Name.{Name}
use Rattle.node_words.specs.shapes.Shape.{Shape, has}
use Rattle.node_words.specs.shapes.Tree.{Tree, Gone, shape_of}
use Rattle.node_words.proofs.OfShapes.ShapeLaws.{has-octant, octant_shape-branch_of}
use Rattle.node_words.specs.Held.{name_in, AreTrees, AreCanonical}
use Rattle.node_words.specs.contents.CellShapes.{SameIn}
use Rattle.edit_walk.specs.cells.Paints.{IsOld}
use Rattle.edit_walk.specs.cells.Worlds.{world_cells, ShowsWorld, IsRoot}
use Rattle.edit_walk.proofs.OfBlocks.JoinLaws.{nones}
use Rattle.edit_walk.proofs.OfCells.WorldLaws.{root_old, world_places}
use Rattle.history_model.specs.Worlds.{edited, box_at}
use Rattle.history_model.specs.declared.acts.Act.TheVariants.{Copy}
use Rattle.edit_copy.specs.declared.copies.CopyTask.{CopyTask}
use Rattle.edit_copy.specs.Copies.{cube_of, AreOld, MakesCopy}
use Rattle.edit_copy.specs.Starts.{IsWholeTask, IsShift}

pub side_exact : (side : ℕ) → 2 ≤ side → 2 ^ side ≡ block_side (side - 2)
side_exact side h =
    let e : side ≡ suc (suc (side - 2)) = omega arith in ap (λ (n : ℕ). 2 ^ n) e
    ∙ four_times (side - 2)
  where
    four_times : (n : ℕ) → 2 ^ suc (suc n) ≡ 4 * 2 ^ n
    four_times n = let a : 2 ^ suc (suc n) ≡ 2 ^ suc n * 2 = pow-suc 2 (suc n) in let b : 2 ^ suc n
        ≡ 2 ^ n * 2 = pow-suc 2 n in omega (arith, a, b)

-- t in place k of a row, and nothing elsewhere
only_at : Tree → ℕ → ℕ → Tree
only_at t zero zero = t
only_at t zero (suc j) = Gone
only_at t (suc k) zero = Gone
only_at t (suc k) (suc j) = only_at t k j

only_there : (t : Tree) (k : ℕ) → only_at t k k ≡ t
unfolding only_at
only_there t zero = refl
only_there t (suc k) = only_there t k

only_elsewhere : (t : Tree) (k j : ℕ) → j ≢ k → only_at t k j ≡ Gone
unfolding only_at
only_elsewhere t zero zero ne = absurd (ne refl)
only_elsewhere t zero (suc j) ne = refl
only_elsewhere t (suc k) zero ne = refl
only_elsewhere t (suc k) (suc j) ne = only_elsewhere t k j (λ e. ne (ap suc e))

gone_root : (held : List Tree) (level : ℕ) → IsRoot held level Gone None
gone_root held level = record { root = refl; is_held = λ n e. cc; at = λ n e. cc }

are_old : (side level : ℕ) (held : List Tree) (t : Tree) (old : Option Name) (k : ℕ)
    (names : List (Option Name)) → AreTrees side held → AreCanonical held → IsRoot held level t old
    → name_in names k ≡ old → ((j : ℕ) → j ≢ k → name_in names j ≡ None)
    → AreOld held level (only_at t k) names
are_old side level held t old k names a c r there others = record {
  each = λ j lt. elim (cases_eq j k) [
    | inl e ↦
        subst (λ (n : ℕ). IsOld held level (only_at t k n) (name_in names n)) (sym e)
        (subst (λ (u : Tree). IsOld held level u (name_in names k)) (sym (only_there t k))
        (subst (λ (o : Option Name). IsOld held level t o) (sym there)
        (root_old side level held t old a c r)))
    | inr ne ↦
        subst (λ (u : Tree). IsOld held level u (name_in names j)) (sym (only_elsewhere t k j ne))
        (subst (λ (o : Option Name). IsOld held level Gone o) (sym (others j ne))
        (root_old side level held Gone None a c (gone_root held level)))
  ];
}

chosen_when : (a b : Bool) (v v' w w' : Bool) → a ≡ b → (a ≡ true → v ≡ v') → w ≡ w'
    → (if a then v else w) ≡ (if b then v' else w')
chosen_when true b v v' w w' e h q = h refl ∙ ap (λ (x : Bool). if x then v' else w') e
chosen_when false b v v' w w' e h q = q ∙ ap (λ (x : Bool). if x then v' else w') e

shifted : (side level from to half offset x : ℕ) → 2 ^ side ≡ block_side level
    → IsShift side from to half offset → to ≤ x
    → x + offset ≡ half * block_side level + (from + (x - to))
shifted side level from to half offset x e s le =
    let p : half * 2 ^ side ≡ half * block_side level = ap (λ (n : ℕ). half * n) e in omega
    (arith, s.moves, p)

-- the cube's cells are those of the world, at the places that the cells come from
cube_cells : (level : ℕ) (t : Tree) (before : Cell → Bool) (i j k x y z : ℕ) → i < 2 → j < 2 → k < 2
    → x < block_side level → y < block_side level → z < block_side level
    → SameIn level (has level (shape_of t)) (world_cells before)
    → has (suc level) (cube_of (only_at t (i + 2 * j + 4 * k))) (i * block_side level + x)
    (j * block_side level + y) (k * block_side level + z) ≡ before (cell_at x y z)
cube_cells level t before i j k x y z li lj lk p q r s =
    let n : ℕ = i + 2 * j + 4 * k in
    has-octant level (cube_of (only_at t n)) i j k x y z p q r
    ∙ ap (λ (u : Shape). has level u x y z)
    (octant_shape-branch_of (λ m. shape_of (only_at t n m)) n (omega arith)
    ∙ ap shape_of (only_there t n))
    ∙ s.each x y z p q r

has_at : (level : ℕ) (s : Shape) (x y z x' y' z' : ℕ) → x ≡ x' → y ≡ y' → z ≡ z'
    → has level s x y z ≡ has level s x' y' z'
has_at level s x y z x' y' z' p q r = rw (p, q, r) refl

part_is : (task : CopyTask) (to size : Cell) → task.part.at ≡ to → task.part.size ≡ size
    → task.part ≡ box_at to size
part_is task to size p q =
    ap (λ (a : Cell). record { at = a; size = task.part.size }) p
    ∙ ap (λ (s : Cell). record { at = to; size = s }) q

pub copy_world : (side at : ℕ) (held : List Tree) (old : Option Name) (from : Boxed) (to : Cell)
    (task : CopyTask) (before : Cell → Bool) → 2 ≤ side → side ≤ 12 → AreTrees at held
    → AreCanonical held → FitsAt from.at from.size (2 ^ side) → FitsAt to from.size (2 ^ side)
    → IsWholeTask side old from to task → ShowsWorld held (side - 2) old before
    → MakesCopy task held (side - 2) (world_cells (edited [] (Copy from to) before))
copy_world side at held old from to task before low high a c f g w s =
    let level : ℕ = side - 2 in
    let e = side_exact side low in
    let n : ℕ = w.x + 2 * w.y + 4 * w.z in
    let inside = world_places level (shape_of s.tree) before s.shows in
    record {
      small = omega arith;
      offset = record {
        x = omega (arith, w.shift_x.below, e);
        y = omega
            (arith, w.shift_y.below, e);
        z = omega (arith, w.shift_z.below, e);
      };
      tree = s.tree;
      is_old = subst (λ (o : Option Name). IsOld held level s.tree o) (sym w.old_is)
          (root_old at level held s.tree old a c s.is_root);
      row = only_at s.tree n;
      sources = are_old at level held s.tree old n task.sources a c s.is_root w.source w.others;
      shows = record {
        each = λ x y z p q r. chosen_when _ _ _ _ _ _
            (ap (λ (b : Boxed). is_in_box b (cell_at x y z))
            (sym (part_is task to from.size w.at_is w.size_is)))
            (λ i.
            let b = is_in_box_tells (box_at to from.size) (cell_at x y z) i in
            sym (has_at (suc level) (cube_of (only_at s.tree n)) _ _ _ _ _ _
            (shifted side level from.at.x to.x w.x task.offset.x x e w.shift_x b.x.0)
            (shifted side level from.at.y to.y w.y task.offset.y y e w.shift_y b.y.0)
            (shifted side level from.at.z to.z w.z task.offset.z z e w.shift_z b.z.0)
            ∙ cube_cells level s.tree before w.x w.y w.z _ _ _ w.shift_x.half_in w.shift_y.half_in w.shift_z.half_in (omega (arith, b.x, f.x, e)) (omega (arith, b.y, f.y, e)) (omega (arith, b.z, f.z, e)) inside))
            (sym (inside.each x y z p q r));
      };
    }

pub whole_is : (side : ℕ) (old : Option Name) (from : Boxed) (to : Cell) (x y z a b c : ℕ)
    → IsShift side from.at.x to.x x a → IsShift side from.at.y to.y y b
    → IsShift side from.at.z to.z z c
    → IsWholeTask side old from to
    (record {
      old = old;
      sources = set
          (None ∷ None ∷ None ∷ None ∷ None ∷ None ∷ None ∷ None ∷ [])
          (x + 2 * y + 4 * z) old;
      offset = cell_at a b c;
      part =
          record { at = to; size = from.size };
    })
whole_is side old from to x y z a b c p q r =
    let none : List (Option Name) = None ∷ None ∷ None ∷ None ∷ None ∷ None ∷ None ∷ None ∷ [] in
    record {
      x = x;
      y = y;
      z = z;
      old_is = refl;
      at_is = refl;
      size_is = refl;
      shift_x = p;
      shift_y = q;
      shift_z = r;
      source = get_or-set_same none (x + 2 * y + 4 * z) old None
          (omega (arith, p.half_in, q.half_in, r.half_in));
      others = λ j ne. get_or-set_other none (x + 2 * y + 4 * z) j old None ne ∙ nones j;
    }
