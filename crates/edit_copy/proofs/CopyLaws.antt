-- What a copy makes of an octant, and of a block that is known as a whole.
use Rattle.std.proofs.Common.{true, ◌⊎◌, ◌≡◌, ℕ, suc, ◌+◌, ◌-◌, ◌*◌, ◌%◌, ◌<◌, ◌≤◌, Bool, false, Some, None, Option, List, refl, sym, ◌∙◌, ap, subst, arith}
use Rattle.std.specs.Prelude.{if◌then◌else◌}
use Rattle.std.proofs.Common.{inl, inr}
use Rattle.std.proofs.lemmas.Bool.{cases_lt, false≢true}
use Rattle.vw_cell.specs.declared.cells.Cell.{Cell}
use Rattle.vw_cell.specs.declared.boxes.Boxed.{Boxed}
use Rattle.vw_cell.specs.Counts.{cell_at}
use Rattle.vw_cell.specs.Places.{block_side, Meets, HoldsBlock}
use Rattle.node_words.specs.declared.shapes.names.Name.{Name}
use Rattle.node_words.specs.shapes.Shape.{IsCanonical, Shape, Clear, octant_shape, has}
use Rattle.node_words.specs.shapes.Tree.{Gone, Tree, root_of, child_of, shape_of}
use Rattle.node_words.proofs.OfShapes.ShapeLaws.{clear_canonical, has-octant, has-in_octant, has-clear, octant_shape-branch_of, octant_shape-past}
use Rattle.node_words.proofs.OfShapes.TreeLaws.{gone_at, shape_of-child, gone_from_root, shape_of-gone}
use Rattle.node_words.specs.Held.{name_in}
use Rattle.edit_walk.specs.declared.cells.tasks.Whole.TheVariants.{Nothing}
use Rattle.node_words.specs.contents.CellShapes.{Cells, SameIn, octant_cells}
use Rattle.edit_walk.specs.cells.Tasks.{IsWhole}
use Rattle.edit_walk.specs.cells.Paints.{IsOld, whole_of_old}
use Rattle.edit_walk.specs.cells.Worlds.{block_at_origin}
use Rattle.node_words.specs.descent.Parts.{part_in}
use Rattle.node_words.proofs.OfContents.SameCells.{octant_same, same_on, same_back}
use Rattle.node_words.proofs.OfContents.CellShapeLaws.{shape_with-only}
use Rattle.edit_walk.proofs.OfCells.PaintLaws.{old_child, old_gone, old_same}
use Rattle.edit_walk.proofs.OfCells.PartLaws.{part_cells, box_missed, box_held}
use Rattle.edit_copy.specs.declared.copies.CopyTask.{CopyTask}
use Rattle.edit_copy.specs.Copies.{IsKeptOld, cube_of, moved, IsOffset, IsBegin, AreTaken, MakesCopy, begin_of, rest_of, source_from, source_octant, source_of, is_unread}
use Rattle.edit_copy.proofs.WindowLaws.{same_has, branch_same, part_of, window_step, step_rests, step_begins, source_in_cube}

picked : (a a' v v' w w' : Bool) → a ≡ a' → v ≡ v' → w ≡ w'
    → (if a then v else w) ≡ (if a' then v' else w')
picked a a' v v' w w' p q r = rw (p, q, r) refl

-- where the test holds, what stands elsewhere doesn't matter
picked_so : (a a' v v' w w' : Bool) → a ≡ a' → v ≡ v' → (a' ≡ true) ⊎ (w ≡ w')
    → (if a then v else w) ≡ (if a' then v' else w')
picked_so a a' v v' w w' p q (inl t) = rw (p, q, t) refl
picked_so a a' v v' w w' p q (inr r) = rw (p, q, r) refl

row_shape : (row : ℕ → Tree) (at : Cell) (j : ℕ) → IsBegin at → j < 8
    → part_of (cube_of row) at j ≡ shape_of (source_of row at j)
row_shape row at j b lt =
    ap (λ (s : Shape). octant_shape s (source_octant at j))
    (octant_shape-branch_of (λ i. shape_of (row i)) (source_from at j)
    (source_in_cube at j b lt).0)
    ∙ sym (shape_of-child (row (source_from at j)) (source_octant at j))

-- the sources of an octant, and none where nothing is read
abbrev read_row : (ℕ → Tree) → Cell → Cell → ℕ → Tree
read_row row at offset j = if is_unread offset j then Gone else source_of row at j

read_row-read : (row : ℕ → Tree) (at offset : Cell) (j : ℕ) → is_unread offset j ≡ false
    → read_row row at offset j ≡ source_of row at j
read_row-read row at offset j e = rw e refl

moved_octant : (level : ℕ) (part : Boxed) (offset : Cell) (row : ℕ → Tree) (old : Shape)
    (new : Shape) (k : ℕ) → k < 8 → IsOffset (suc level) offset
    → HoldsBlock (part_in (block_side level) part k) (block_at_origin level)
    ⊎ (new ≡ octant_shape old k)
    → SameIn level
    (octant_cells level (moved (suc level) part offset (cube_of row) (has (suc level) old)) k)
    (moved level (part_in (block_side level) part k) (rest_of level k offset)
    (cube_of (read_row row (begin_of level k offset) (rest_of level k offset)))
    (has level new))
moved_octant level part offset row old new k lt o kept =
    let at = begin_of level k offset in
    let rest = rest_of level k offset in
    let b = step_begins level k offset lt o in
    let read =
    λ (j : ℕ) (l : j < 8) (e : is_unread rest j ≡ false). ap shape_of
    (read_row-read row at rest j e) ∙ sym (row_shape row at j b l) in
    record {
      each = λ x y z p q r. picked_so _ _ _ _ _ _ ((part_cells level part k).each x y z p q r)
          (window_step level (cube_of row)
          (λ j. shape_of (read_row row at rest j)) k offset x y z lt o p q r read)
          (elim kept [
            | inl h ↦ inl ((box_held (part_in (block_side level) part k) level h).each x y z p q r)
            | inr e ↦ inr
                (has-in_octant level old k x y z lt p q r
                ∙ ap (λ (s : Shape). has level s x y z) (sym e))
          ]);
    }

-- nothing, where the names of a block have one tree each
pub gone_old : (base : List Tree) (level : ℕ) (t : Tree) (o name : Option Name)
    → IsOld base level t o → name ≡ None → IsOld base level Gone name
gone_old base level t o name is e = subst (λ (n : Option Name). IsOld base level Gone n) (sym e)
    (record {
      of = record { root = refl; reached = λ n q. cc; levels = gone_at level };
      canonical = subst (λ (s : Shape). IsCanonical level s) (sym shape_of-gone)
          (clear_canonical level);
      named = is.named;
    })

source_old : (base : List Tree) (level : ℕ) (t u : Tree) (o child : Option Name) (k : ℕ)
    (unread : Bool) → 1 ≤ level → IsOld base level t o
    → (unread ≡ false → child ≡ root_of (child_of t k)) → (unread ≡ true → child ≡ None)
    → IsOld base (level - 1) (if unread then Gone else child_of t k) child
source_old base level t u o child k true one is there none =
    gone_old base (level - 1) _ _ child (old_child base level t o _ k one is refl) (none refl)
source_old base level t u o child k false one is there none =
    old_child base level t o child k one is (there refl)

-- what stands in an octant now, or nothing where the box holds the whole octant
record KeptTree (base : List Tree) (level : ℕ) (part : Boxed) (octant : Shape)
    (old : Option Name) : Type 0 where
  tree : Tree
  is_old : IsOld base level tree old
  same : HoldsBlock part (block_at_origin level) ⊎ (shape_of tree ≡ octant)

kept_tree : (base : List Tree) (level : ℕ) (part : Boxed) (t : Tree) (o old : Option Name) (k : ℕ)
    → 1 ≤ level → IsOld base level t o
    → (HoldsBlock part (block_at_origin (level - 1)) × (old ≡ None))
    ⊎ (old ≡ root_of (child_of t k))
    → KeptTree base (level - 1) part (octant_shape (shape_of t) k) old
kept_tree base level part t o old k one is (inl h) =
    record {
      tree = Gone;
      is_old = gone_old base (level - 1) _ _ old
          (old_child base level t o _ k one is refl) h.1;
      same = inl h.0;
    }
kept_tree base level part t o old k one is (inr e) =
    record {
      tree = child_of t k;
      is_old = old_child base level t o old k one is e;
      same = inr
          (shape_of-child t k);
    }

-- what the call tells of what stands in an octant now
pub kept_part : (level : ℕ) (part other : Boxed) (below name : Option Name) (t : Tree)
    → part ≡ other → below ≡ root_of t → IsKeptOld level below part name
    → (HoldsBlock other (block_at_origin level) × (name ≡ None)) ⊎ (name ≡ root_of t)
kept_part level part other below name t e is (inl h) =
    inl (subst (λ (p : Boxed). HoldsBlock p (block_at_origin level)) e h.0, h.1)
kept_part level part other below name t e is (inr f) = inr (f ∙ is)

-- the task of an octant
pub makes_octant : (base : List Tree) (level : ℕ) (task : CopyTask) (cells : Cells) (k : ℕ)
    (old : Option Name) (sources : List (Option Name)) → 1 ≤ level → k < 8
    → (m : MakesCopy task base level cells)
    → (HoldsBlock (part_in (block_side (level - 1)) task.part k) (block_at_origin (level - 1))
    × (old ≡ None)) ⊎ (old ≡ root_of (child_of m.tree k))
    → ((j : ℕ) → j < 8 → is_unread (rest_of (level - 1) k task.offset) j ≡ false
    → name_in sources j ≡ root_of (source_of m.row (begin_of (level - 1) k task.offset) j))
    → ((j : ℕ) → j < 8 → is_unread (rest_of (level - 1) k task.offset) j ≡ true → name_in sources j
    ≡ None)
    → MakesCopy
    (record {
      old = old;
      sources = sources;
      offset = rest_of
          (level - 1) k task.offset;
      part = part_in (block_side (level - 1)) task.part k;
    }) base
    (level - 1) (octant_cells (level - 1) cells k)
makes_octant base level task cells k old sources one lt m kept there none =
    let up : level ≡ suc (level - 1) = omega arith in
    let o = subst (λ (l : ℕ). IsOffset l task.offset) up m.offset in
    let at = begin_of (level - 1) k task.offset in
    let rest = rest_of (level - 1) k task.offset in
    let b = step_begins (level - 1) k task.offset lt o in
    let shows =
    subst (λ (l : ℕ). SameIn l cells
    (moved l task.part task.offset (cube_of m.row) (has l (shape_of m.tree)))) up m.shows in
    let u =
    kept_tree base level
    (part_in (block_side
    (level - 1)) task.part k) m.tree task.old old k one m.is_old kept in
    record {
      small = omega (arith, m.small);
      offset = step_rests (level - 1) k task.offset;
      tree = u.tree;
      is_old = u.is_old;
      row = read_row m.row at rest;
      sources = record {
        each = λ j l. source_old base level (m.row (source_from at j)) Gone _
            (name_in sources j) (source_octant at j) (is_unread rest j) one
            (m.sources.each (source_from at j) (source_in_cube at j b l).0) (there j l)
            (none j l);
      };
      shows = same_on (level - 1) _ _ _ (octant_same (level - 1) _ _ k lt shows)
          (moved_octant (level - 1) task.part task.offset m.row (shape_of m.tree)
          (shape_of u.tree) k lt o u.same);
    }

picked_else : (a a' v v' w w' : Bool) → a ≡ false → a' ≡ false → w ≡ w'
    → (if a then v else w) ≡ (if a' then v' else w')
picked_else a a' v v' w w' p q r = rw (p, q, r) refl

-- where no cell is taken, the sources don't matter
moved_missed : (level : ℕ) (part : Boxed) (offset rest : Cell) (cube other old new : Shape) (k : ℕ)
    → k < 8 → (Meets (part_in (block_side level) part k) (block_at_origin level) → ⊥)
    → HoldsBlock (part_in (block_side level) part k) (block_at_origin level)
    ⊎ (new ≡ octant_shape old k)
    → SameIn level (octant_cells level (moved (suc level) part offset cube (has (suc level) old)) k)
    (moved level (part_in (block_side level) part k) rest other (has level new))
moved_missed level part offset rest cube other old new k lt missed kept =
    let here = box_missed (part_in (block_side level) part k) level missed in
    record {
      each = λ x y z p q r. picked_else _ _ _ _ _ _
          ((part_cells level part k).each x y z p q r ∙ here.each x y z p q r)
          (here.each x y z p q r)
          (elim kept [
            | inl h ↦ absurd (false≢true (sym (here.each x y z p q r)
                ∙ (box_held (part_in (block_side level) part k) level h).each x y z p q r))
            | inr e ↦ has-in_octant level old k x y z lt p q r
                ∙ ap (λ (s : Shape). has level s x y z) (sym e)
          ]);
    }

-- the task of an octant in which no cell is taken
pub makes_missed : (base : List Tree) (level : ℕ) (task : CopyTask) (cells : Cells) (k : ℕ)
    (old : Option Name) (sources : List (Option Name)) → 1 ≤ level → k < 8
    → (m : MakesCopy task base level cells)
    → (HoldsBlock (part_in (block_side (level - 1)) task.part k) (block_at_origin (level - 1))
    × (old ≡ None)) ⊎ (old ≡ root_of (child_of m.tree k))
    → (Meets (part_in (block_side (level - 1)) task.part k) (block_at_origin (level - 1)) → ⊥)
    → ((j : ℕ) → j < 8 → name_in sources j ≡ None)
    → MakesCopy
    (record {
      old = old;
      sources = sources;
      offset = rest_of
          (level - 1) k task.offset;
      part = part_in (block_side (level - 1)) task.part k;
    }) base
    (level - 1) (octant_cells (level - 1) cells k)
makes_missed base level task cells k old sources one lt m kept missed none =
    let up : level ≡ suc (level - 1) = omega arith in
    let part = part_in (block_side (level - 1)) task.part k in
    let shows =
    subst (λ (l : ℕ). SameIn l cells
    (moved l task.part task.offset (cube_of m.row) (has l (shape_of m.tree)))) up m.shows in
    let u = kept_tree base level part m.tree task.old old k one m.is_old kept in
    record {
      small = omega (arith, m.small);
      offset = step_rests (level - 1) k task.offset;
      tree = u.tree;
      is_old = u.is_old;
      row = λ j. Gone;
      sources = record {
        each = λ j l. gone_old base (level - 1) _ _ (name_in sources j)
            (old_child base level m.tree task.old _ k one m.is_old refl) (none j l);
      };
      shows = same_on (level - 1) _ _ _ (octant_same (level - 1) _ _ k lt shows)
          (moved_missed (level - 1) task.part task.offset (rest_of (level - 1) k task.offset)
          (cube_of m.row) (cube_of (λ j. Gone)) (shape_of m.tree) (shape_of u.tree) k lt missed
          u.same);
    }

-- the same by what an octant's sources are
pub makes_taken : (base held : List Tree) (level : ℕ) (task : CopyTask) (cells : Cells) (k : ℕ)
    (old : Option Name) (sources : List (Option Name)) → 1 ≤ level → k < 8
    → (m : MakesCopy task base level cells)
    → (HoldsBlock (part_in (block_side (level - 1)) task.part k) (block_at_origin (level - 1))
    × (old ≡ None)) ⊎ (old ≡ root_of (child_of m.tree k))
    → AreTaken held (level - 1) m.row (begin_of (level - 1) k task.offset)
    (rest_of (level - 1) k task.offset) (part_in (block_side (level - 1)) task.part k) sources
    → MakesCopy
    (record {
      old = old;
      sources = sources;
      offset = rest_of
          (level - 1) k task.offset;
      part = part_in (block_side (level - 1)) task.part k;
    }) base
    (level - 1) (octant_cells (level - 1) cells k)
makes_taken base held level task cells k old sources one lt m kept (inl none) =
    makes_missed base level task cells k old sources one lt m kept
    (none.0 (block_at_origin (level - 1))) none.1
makes_taken base held level task cells k old sources one lt m kept (inr are) =
    makes_octant base level task cells k old sources one lt m kept
    (λ j l e. sym ((are j l).read e).root) (λ j l e. (are j l).unread e)

-- blocks that are known as a whole

whole_same : (base : List Tree) (level : ℕ) (t : Tree) (name : Option Name) (cells : Cells)
    → IsOld base level t name → SameIn level cells (has level (shape_of t))
    → IsWhole base level cells (whole_of_old name)
whole_same base level t None cells o s =
    record { each = λ x y z p q r. s.each x y z p q r ∙ old_gone base level t None refl o x y z }
whole_same base level t (Some n) cells o s =
    (t, o.of, shape_with-only level (shape_of t) cells o.canonical (same_back level _ _ s))

pub copy_missed : (base : List Tree) (level : ℕ) (task : CopyTask) (cells : Cells)
    → (Meets task.part (block_at_origin level) → ⊥) → MakesCopy task base level cells
    → IsWhole base level cells (whole_of_old task.old)
copy_missed base level task cells missed m =
    whole_same base level m.tree task.old cells m.is_old
    (same_on level _ _ _ m.shows
    (record {
      each = λ x y z p q r. ap
          (λ (b : Bool). if b
          then has (suc level) (cube_of m.row) (x + task.offset.x) (y + task.offset.y)
          (z + task.offset.z) else has level (shape_of m.tree) x y z)
          ((box_missed task.part level missed).each x y z p q r);
    }))

copy_held : (base : List Tree) (level : ℕ) (task : CopyTask) (cells : Cells)
    → HoldsBlock task.part (block_at_origin level) → (m : MakesCopy task base level cells)
    → SameIn level cells
    (λ x y z. has (suc level) (cube_of m.row) (x + task.offset.x) (y + task.offset.y)
    (z + task.offset.z))
copy_held base level task cells h m =
    same_on level _ _ _ m.shows
    (record {
      each = λ x y z p q r. ap
          (λ (b : Bool). if b
          then has (suc level) (cube_of m.row) (x + task.offset.x) (y + task.offset.y)
          (z + task.offset.z) else has level (shape_of m.tree) x y z)
          ((box_held task.part level h).each x y z p q r);
    })

first_of_cube : (level : ℕ) (row : ℕ → Tree) (x y z : ℕ) → x < block_side level
    → y < block_side level → z < block_side level
    → has (suc level) (cube_of row) (x + 0) (y + 0) (z + 0) ≡ has level (shape_of (row 0)) x y z
first_of_cube level row x y z p q r =
    same_has (suc level) (cube_of row) _ _ _ (0 * block_side level + x) (0 * block_side level + y)
    (0 * block_side level + z) (omega arith) (omega arith) (omega arith)
    ∙ has-octant level (cube_of row) 0 0 0 x y z p q r

-- a source that falls on the block's place is shared
pub copy_shared : (base : List Tree) (level : ℕ) (task : CopyTask) (cells : Cells)
    → HoldsBlock task.part (block_at_origin level) → task.offset ≡ cell_at 0 0 0
    → MakesCopy task base level cells
    → IsWhole base level cells (whole_of_old (name_in task.sources 0))
copy_shared base level task cells h e m =
    let at =
    subst (λ (o : Cell). SameIn level cells
    (λ x y z. has (suc level) (cube_of m.row) (x + o.x) (y + o.y) (z + o.z))) e
    (copy_held base level task cells h m) in
    whole_same base level (m.row 0) _ cells (m.sources.each 0 (omega arith))
    (record {
      each = λ x y z p q r. at.each x y z p q r
          ∙ first_of_cube level m.row x y z p q r;
    })

none_clear : (row : ℕ → Tree) → ((j : ℕ) → j < 8 → root_of (row j) ≡ None) → (n : ℕ)
    → octant_shape (cube_of row) n ≡ Clear
none_clear row h n = elim (cases_lt n 8) [
  | inl lt ↦ octant_shape-branch_of (λ j. shape_of (row j)) n lt
      ∙ ap shape_of (gone_from_root (row n) (h n lt)) ∙ shape_of-gone
  | inr ge ↦ octant_shape-past (cube_of row) n (omega arith)
]

clear_cube : (level : ℕ) (s : Shape) → ((n : ℕ) → octant_shape s n ≡ Clear) → (x y z : ℕ)
    → has (suc level) s x y z ≡ false
unfolding has
clear_cube level s h x y z =
    ap
    (λ (t : Shape). has level t (x % block_side level) (y % block_side level)
    (z % block_side level)) (h _) ∙ has-clear level _ _ _

-- no source has a cell
pub copy_none : (base : List Tree) (level : ℕ) (task : CopyTask) (cells : Cells)
    → HoldsBlock task.part (block_at_origin level)
    → ((j : ℕ) → j < 8 → name_in task.sources j ≡ None) → MakesCopy task base level cells
    → IsWhole base level cells Nothing
copy_none base level task cells h none m = record {
  each = λ x y z p q r. (copy_held base level task cells h m).each x y z p q r
      ∙ clear_cube level (cube_of m.row)
      (none_clear m.row (λ j l. (m.sources.each j l).of.root ∙ none j l)) _ _ _;
}

-- the same task makes the same cells
pub copy_same : (base : List Tree) (level : ℕ) (a b : CopyTask) (p q : Cells) → a.old ≡ b.old
    → ((j : ℕ) → j < 8 → name_in a.sources j ≡ name_in b.sources j) → a.offset ≡ b.offset
    → a.part ≡ b.part → MakesCopy a base level p → MakesCopy b base level q → SameIn level p q
copy_same base level a b p q old sources offset clip m n =
    let tree : m.tree ≡ n.tree =
    old_same base level m.tree n.tree a.old b.old old m.is_old n.is_old in
    let cube : cube_of m.row ≡ cube_of n.row =
    branch_same (λ j. shape_of (m.row j)) (λ j. shape_of (n.row j))
    (λ j l. ap shape_of
    (old_same base level (m.row j) (n.row j) _ _ (sources j l) (m.sources.each j l)
    (n.sources.each j l)))
    in
    same_on level _ _ _ m.shows (same_back level _ _
    (subst (λ (t : Tree). SameIn level q
    (moved level a.part a.offset (cube_of m.row) (has level (shape_of t)))) (sym tree)
    (subst (λ (s : Shape). SameIn level q
    (moved level a.part a.offset s (has level (shape_of n.tree)))) (sym cube)
    (subst (λ (o : Cell). SameIn level q
    (moved level a.part o (cube_of n.row) (has level (shape_of n.tree)))) (sym offset)
    (subst (λ (c : Boxed). SameIn level q
    (moved level c b.offset (cube_of n.row) (has level (shape_of n.tree))))
    (sym clip) n.shows)))))
