-- Blocks of a store of tints: their octants, and blocks of which nothing changes.
use Rattle.std.proofs.Common.{◌≡◌, ◌≢◌, ℕ, zero, suc, ◌+◌, ◌-◌, ◌<◌, ◌≤◌, ◌==◌, false, Option, List, refl, sym, ◌∙◌, ap, subst, arith}
use Rattle.std.specs.Int.{bit_at}
use Rattle.node_words.specs.declared.shapes.names.Name.{Name}
use Rattle.node_words.specs.shapes.Shape.{Leaf, bits_of, bit_number, has}
use Rattle.node_words.specs.shapes.Tree.{Tree, shape_of}
use Rattle.node_words.proofs.HeldLaws.{Keeps}
use Rattle.node_words.specs.descent.Roots.{HasBlock, IsOctantOf, ForBlock}
use Rattle.node_words.specs.contents.CellShapes.{Cells, SameIn, no_cells, octant_cells}
use Rattle.edit_walk.specs.declared.cells.tasks.Whole.{Whole}
use Rattle.edit_walk.specs.cells.Tasks.{Making, MakesCells, IsWhole, MakeAlike}
use Rattle.edit_walk.specs.cells.Paints.{whole_of_old}
use Rattle.edit_walk.proofs.OfCells.PaintLaws.{old_block, old_has, paints_octant, paints_missed}
use Rattle.colour.specs.declared.walks.TintTask.{TintTask}
use Rattle.colour.specs.declared.walks.TintTask.TheVariants.{Plane}
use Rattle.colour.specs.Walks.{LeavesBlock, MakesRow, Octants, first_octants, bit_octants, root_octants, makes_tint, tint_was}

-- ---- a row of octants

-- what is made of the octant that was read
pub row_octant : (octants : Octants) (old child : Option Name) (base held : List Tree) (level : ℕ)
    (cells : Cells) (k : ℕ) → k < 8 → Keeps base held → MakesRow octants old base level cells
    → IsOctantOf held level old k child
    → octants k child base (level - 1) (octant_cells (level - 1) cells k)
row_octant octants old child base held level cells k lt keeps m is =
    subst (λ (n : Option Name). octants k n base (level - 1) (octant_cells (level - 1) cells k))
    (is m.tree (old_block base held level m.tree old keeps m.is_old)).root (m.each k lt)

-- what is made of each octant

module _ {P T : Type 0} (task_of : P → ℕ → Option Name → T) (makes : T → Making) (planes : P)
    (old : Option Name) (base : List Tree) (level : ℕ) (cells : Cells) (k : ℕ) where
  pub root_first : k ≡ 0 → root_octants task_of makes planes k old base level cells
      → MakesRow (first_octants task_of makes planes) old base level cells
  root_first e m = subst (λ (j : ℕ). root_octants task_of makes planes j old base level cells) e m

  pub root_second : k ≡ 1 → root_octants task_of makes planes k old base level cells
      → MakesRow (bit_octants task_of makes planes) old base level cells
  root_second e m = subst (λ (j : ℕ). root_octants task_of makes planes j old base level cells) e m

  pub first_made : (task : T) → task ≡ task_of planes 0 old → k ≡ 0
      → first_octants task_of makes planes k old base level cells → makes task base level cells
  first_made task is_task e m =
      subst (λ (t : T). makes t base level cells) (sym is_task)
      (subst (λ (j : ℕ). first_octants task_of makes planes j old base level cells) e m)

  pub bit_made : (task : T) → task ≡ task_of planes (k + 1) old
      → bit_octants task_of makes planes k old base level cells → makes task base level cells
  bit_made task is_task m =
      let up : k + 1 ≡ suc k = omega arith in
      subst (λ (t : T). makes t base level cells)
      (sym (is_task ∙ ap (λ (j : ℕ). task_of planes j old) up)) m

-- octants without a plane

pub root_other : {P T : Type 0} (task_of : P → ℕ → Option Name → T) (makes : T → Making)
    (planes : P) (old : Option Name) (base : List Tree) (level : ℕ) (cells : Cells) (k : ℕ)
    → k ≢ 0 → k ≢ 1 → root_octants task_of makes planes k old base level cells
    → LeavesBlock old base level cells
root_other task_of makes planes old base level cells zero first second m = absurd (first refl)
root_other task_of makes planes old base level cells (suc zero) first second m =
    absurd (second refl)
root_other task_of makes planes old base level cells (suc (suc k)) first second m = m

pub first_other : {P T : Type 0} (task_of : P → ℕ → Option Name → T) (makes : T → Making)
    (planes : P) (old : Option Name) (base : List Tree) (level : ℕ) (cells : Cells) (k : ℕ)
    → k ≢ 0 → first_octants task_of makes planes k old base level cells
    → LeavesBlock old base level cells
first_other task_of makes planes old base level cells zero first m = absurd (first refl)
first_other task_of makes planes old base level cells (suc k) first m = m

-- ---- blocks of which nothing changes

pub kept_has : (old : Option Name) (base held : List Tree) (level : ℕ) (cells : Cells)
    → Keeps base held → LeavesBlock old base level cells → HasBlock held level old
kept_has old base held level cells keeps m =
    old_has base held level m.paints.tree old keeps m.paints.is_old

pub kept_octant : (old child : Option Name) (base held : List Tree) (level : ℕ) (cells : Cells)
    (k : ℕ) → 1 ≤ level → k < 8 → Keeps base held → LeavesBlock old base level cells
    → IsOctantOf held level old k child
    → LeavesBlock child base (level - 1) (octant_cells (level - 1) cells k)
kept_octant old child base held level cells k one lt keeps m is =
    record {
      small = omega (arith, m.small);
      paints = paints_octant base level old child false no_cells no_cells cells k one lt m.paints
          (sym (is m.paints.tree
          (old_block base held level m.paints.tree old keeps m.paints.is_old)).root)
          (record { each = λ x y z p q r. refl });
    }

pub kept_whole : (old : Option Name) (base : List Tree) (level : ℕ) (cells : Cells) (whole : Whole)
    → whole ≡ whole_of_old old → LeavesBlock old base level cells → IsWhole base level cells whole
kept_whole old base level cells whole e m =
    subst (λ (w : Whole). IsWhole base level cells w) (sym e)
    (paints_missed base level old false no_cells cells (record { each = λ x y z p q r. refl })
    m.paints)

pub kept_bits : (old : Option Name) (base held : List Tree) (cells : Cells) (bits : ℕ)
    → Keeps base held → LeavesBlock old base 0 cells
    → ForBlock held 0 old (λ s. bits ≡ bits_of s) → SameIn 0 (has 0 (Leaf bits)) cells
unfolding has
kept_bits old base held cells bits keeps m read =
    let e : bits ≡ bits_of (shape_of m.paints.tree) =
    read m.paints.tree (old_block base held 0 m.paints.tree old keeps m.paints.is_old) in
    record {
      each = λ x y z p q r.
          ap (λ (n : ℕ). bit_at n (bit_number x y z) == 1) e
          ∙ sym (m.paints.shows.each x y z p q r);
    }

-- ---- the same in two planes

pub planes_alike : {P T : Type 0} (task_of : P → ℕ → Option Name → T) (makes : T → Making)
    (a b : TintTask P T) (s t : T) → a ≡ Plane s → b ≡ Plane t → MakeAlike (makes s) (makes t)
    → MakeAlike (makes_tint task_of makes a) (makes_tint task_of makes b)
planes_alike task_of makes a b s t e f same base level p q m n =
    same base level p q
    (subst (λ (u : TintTask _ _). makes_tint task_of makes u base level p) e m)
    (subst (λ (u : TintTask _ _). makes_tint task_of makes u base level q) f n)

-- a row stands above the leaves
pub row_above : (octants : Octants) (old : Option Name) (base : List Tree) (cells : Cells)
    → MakesRow octants old base 0 cells → ⊥
row_above octants old base cells m = let above = m.above in omega (arith, above)

-- a task under another name
pub makes_as : {P T : Type 0} (task_of : P → ℕ → Option Name → T) (makes : T → Making)
    (a b : TintTask P T) (base : List Tree) (level : ℕ) (cells : Cells) → a ≡ b
    → makes_tint task_of makes a base level cells → makes_tint task_of makes b base level cells
makes_as task_of makes a b base level cells e m =
    subst (λ (u : TintTask _ _). makes_tint task_of makes u base level cells) e m

pub some_as : {P T : Type 0} (task_of : P → ℕ → Option Name → T) (makes : T → Making)
    (a b : TintTask P T) (held : List Tree) (level : ℕ) → a ≡ b
    → MakesCells (makes_tint task_of makes a) held level
    → MakesCells (makes_tint task_of makes b) held level
some_as task_of makes a b held level e (base, cells, keeps, m) =
    (base, cells, keeps, makes_as task_of makes a b base level cells e m)

-- the octant of the block that a task tells, under another name of the task
pub octant_as : {P T : Type 0} (was : T → Option Name) (a b : TintTask P T) (held : List Tree)
    (level k : ℕ) (child : Option Name) → a ≡ b → IsOctantOf held level (tint_was was a) k child
    → IsOctantOf held level (tint_was was b) k child
octant_as was a b held level k child e is =
    subst (λ (u : TintTask _ _). IsOctantOf held level (tint_was was u) k child) e is
