-- Blocks whose cells of a test are set or cleared: octants, blocks that are known as a whole, and
-- leaves.
use Rattle.std.proofs.Common.{◌≡◌, ℕ, zero, suc, ◌-◌, ◌^◌, ◌<◌, ◌≤◌, ◌==◌, Bool, true, false, Some, None, Option, List, refl, sym, ◌∙◌, ap, subst, arith, min, max}
use Rattle.std.specs.Prelude.{if◌then◌else◌}
use Rattle.std.specs.Int.{bit_at, bit_not, w64}
use Rattle.std.proofs.lemmas.Nat.Bits.{bit_at_or, bit_at_and, bit_at_not, bit_at-lt}
use Rattle.node_words.specs.declared.shapes.names.Name.{Name}
use Rattle.node_words.specs.shapes.Shape.{bits_of, Shape, Leaf, octant_shape, bit_number, has, IsCanonical}
use Rattle.node_words.specs.shapes.Tree.{Tree, root_of, child_of, shape_of}
use Rattle.node_words.proofs.OfShapes.ShapeLaws.{has-in_octant, has-clear, octant_canonical}
use Rattle.node_words.proofs.OfShapes.TreeLaws.{shape_of-child, shape_of-gone, gone_from_root, level_of}
use Rattle.node_words.specs.Gathering.{IsTreeOf}
use Rattle.node_words.proofs.GatherLaws.{tree_of-child}
use Rattle.node_words.proofs.HeldLaws.{Keeps, reached_more}
use Rattle.node_words.specs.descent.Roots.{IsBlockOf, HasBlock}
use Rattle.edit_walk.specs.declared.cells.tasks.Whole.TheVariants.{Nothing, Mixed}
use Rattle.node_words.specs.contents.CellShapes.{no_cells, all_cells, Cells, SameIn, octant_cells}
use Rattle.edit_walk.specs.cells.Tasks.{IsWhole}
use Rattle.edit_walk.specs.cells.Paints.{painted, IsOld, Paints, whole_of_old, whole_if, painted_bits}
use Rattle.node_words.proofs.OfContents.SameCells.{octant_same, same_on, same_back}
use Rattle.node_words.proofs.OfContents.CellShapeLaws.{shape_with-only}

pub chosen : (a a' v v' set : Bool) → a ≡ a' → v ≡ v'
    → (if a then set else v) ≡ (if a' then set else v')
chosen a a' v v' set p q = rw (p, q) refl

-- an old block may be read while its trees are held
pub old_block : (base held : List Tree) (level : ℕ) (t : Tree) (old : Option Name) → Keeps base held
    → IsOld base level t old → IsBlockOf held level old t
old_block base held level t old k o = record {
  root = o.of.root;
  reached = λ n e. reached_more base held t k (o.of.reached n e);
  of_level = λ n e. level_of level t n o.of.levels (o.of.root ∙ e);
}

pub old_has : (base held : List Tree) (level : ℕ) (t : Tree) (old : Option Name) → Keeps base held
    → IsOld base level t old → HasBlock held level old
old_has base held level t old k o =
    record { tree = t; is_block = old_block base held level t old k o }

-- an old block's octant
pub old_child : (base : List Tree) (level : ℕ) (t : Tree) (old child : Option Name) (k : ℕ)
    → 1 ≤ level → IsOld base level t old → child ≡ root_of (child_of t k)
    → IsOld base (level - 1) (child_of t k) child
old_child base level t old child k one o e =
    let up : level ≡ suc (level - 1) = omega arith in
    let c = subst (λ (l : ℕ). IsCanonical l (shape_of t)) up o.canonical in
    record {
      of = subst (λ (n : Option Name). IsTreeOf base (level - 1) (child_of t k) n) (sym e)
          (tree_of-child base level t old k one o.of);
      canonical = subst (λ (s : Shape). IsCanonical (level - 1) s) (sym (shape_of-child t k))
          (octant_canonical (level - 1) (shape_of t) k c);
      named = o.named;
    }

-- an old block that there is none of
pub old_gone : (base : List Tree) (level : ℕ) (t : Tree) (old : Option Name) → old ≡ None
    → IsOld base level t old → (x y z : ℕ) → has level (shape_of t) x y z ≡ false
old_gone base level t old e o x y z =
    ap (λ (u : Tree). has level (shape_of u) x y z) (gone_from_root t (o.of.root ∙ e))
    ∙ ap (λ (s : Shape). has level s x y z) shape_of-gone ∙ has-clear level x y z

-- one name, one tree
pub old_same : (base : List Tree) (level : ℕ) (t u : Tree) (a b : Option Name) → a ≡ b
    → IsOld base level t a → IsOld base level u b → t ≡ u
old_same base level t u None b e m n =
    gone_from_root t m.of.root ∙ sym (gone_from_root u (n.of.root ∙ sym e))
old_same base level t u (Some k) b e m n =
    m.named t u (m.of.reached k refl) (n.of.reached k (sym e)) (m.of.root ∙ e ∙ sym n.of.root)

painted_octant : (level : ℕ) (set : Bool) (test part : Cells) (s : Shape) (k : ℕ) → k < 8
    → SameIn level (octant_cells level test k) part
    → SameIn level (octant_cells level (painted set test (has (suc level) s)) k)
    (painted set part (has level (octant_shape s k)))
painted_octant level set test part s k h e = record {
  each = λ x y z lx ly lz. chosen _ _ _ _ set (e.each x y z lx ly lz)
      (has-in_octant level s k x y z h lx ly lz);
}

pub paints_octant : (base : List Tree) (level : ℕ) (old child : Option Name) (set : Bool)
    (test part cells : Cells) (k : ℕ) → 1 ≤ level → k < 8
    → (m : Paints base level old set test cells) → child ≡ root_of (child_of m.tree k)
    → SameIn (level - 1) (octant_cells (level - 1) test k) part
    → Paints base (level - 1) child set part (octant_cells (level - 1) cells k)
paints_octant base level old child set test part cells k one lt m e same =
    let up : level ≡ suc (level - 1) = omega arith in
    let s : Shape = shape_of m.tree in
    let shows = subst (λ (l : ℕ). SameIn l cells (painted set test (has l s))) up m.shows in
    record {
      tree = child_of m.tree k;
      is_old = old_child base level m.tree old child k one m.is_old e;
      shows = subst
          (λ (t : Shape). SameIn (level - 1) (octant_cells (level - 1) cells k)
          (painted set part (has (level - 1) t))) (sym (shape_of-child m.tree k))
          (same_on (level - 1) _ _ _ (octant_same (level - 1) _ _ k lt shows)
          (painted_octant (level - 1) set test part s k lt same));
    }

missed_cells : (base : List Tree) (level : ℕ) (old : Option Name) (set : Bool) (test cells : Cells)
    → (m : Paints base level old set test cells) → SameIn level test no_cells
    → SameIn level cells (has level (shape_of m.tree))
missed_cells base level old set test cells m e = record {
  each = λ x y z p q r. m.shows.each x y z p q r
      ∙ ap (λ (b : Bool). if b then set else has level (shape_of m.tree) x y z)
      (e.each x y z p q r);
}

-- none of its cells is one of the test
pub paints_missed : (base : List Tree) (level : ℕ) (old : Option Name) (set : Bool)
    (test cells : Cells) → SameIn level test no_cells → Paints base level old set test cells
    → IsWhole base level cells (whole_of_old old)
paints_missed base level None set test cells e m =
    record {
      each = λ x y z p q r.
          (missed_cells base level None set test cells m e).each x y z p q r
          ∙ old_gone base level m.tree None refl m.is_old x y z;
    }
paints_missed base level (Some n) set test cells e m = (
  m.tree,
  m.is_old.of,
  shape_with-only level (shape_of m.tree) cells m.is_old.canonical
      (same_back level _ _ (missed_cells base level (Some n) set test cells m e)),
)

held_cells : (base : List Tree) (level : ℕ) (old : Option Name) (set : Bool) (test cells : Cells)
    → Paints base level old set test cells → SameIn level test all_cells
    → SameIn level cells (λ x y z. set)
held_cells base level old set test cells m e = record {
  each = λ x y z p q r. m.shows.each x y z p q r
      ∙ ap (λ (b : Bool). if b then set else has level (shape_of m.tree) x y z)
      (e.each x y z p q r);
}

-- all its cells are ones of the test
pub paints_held : (base : List Tree) (level : ℕ) (old : Option Name) (set : Bool)
    (test cells : Cells) → SameIn level test all_cells → Paints base level old set test cells
    → IsWhole base level cells (whole_if set)
paints_held base level old true test cells e m = held_cells base level old true test cells m e
paints_held base level old false test cells e m = held_cells base level old false test cells m e

-- nothing is cleared of nothing
pub paints_nothing : (base : List Tree) (level : ℕ) (old : Option Name) (set : Bool)
    (test cells : Cells) → old ≡ None → set ≡ false → Paints base level old set test cells
    → IsWhole base level cells Nothing
paints_nothing base level old true test cells e f m = cc
paints_nothing base level old false test cells e f m = record {
  each = λ x y z p q r. m.shows.each x y z p q r
      ∙ ap (λ (b : Bool). if test x y z then false else b)
      (old_gone base level m.tree old e m.is_old x y z) ∙ either_false (test x y z);
}
  where
    either_false : (b : Bool) → (if b then false else false) ≡ false
    either_false true = refl
    either_false false = refl

-- the same old block, and tests that agree in the block
pub paints_same : (base : List Tree) (level : ℕ) (a b : Option Name) (s t : Bool) (f g p q : Cells)
    → a ≡ b → s ≡ t → SameIn level f g → Paints base level a s f p → Paints base level b t g q
    → SameIn level p q
paints_same base level a b s t f g p q old set test m n =
    let tree : m.tree ≡ n.tree = old_same base level m.tree n.tree a b old m.is_old n.is_old in
    same_on level _ _ _ m.shows (same_back level _ _
    (subst (λ (u : Tree). SameIn level q (painted s f (has level (shape_of u)))) (sym tree)
    (subst (λ (v : Bool). SameIn level q (painted v f (has level (shape_of n.tree)))) (sym set)
    (same_on level _ _ _ n.shows
    (record { each = λ x y z i j k. chosen _ _ _ _ t (sym (test.each x y z i j k)) refl })))))

-- bits

or_test : (p q : ℕ) → p < 2 → q < 2 → (max p q == 1) ≡ (if q == 1 then true else (p == 1))
or_test zero zero h k = refl
or_test zero (suc zero) h k = refl
or_test (suc zero) zero h k = refl
or_test (suc zero) (suc zero) h k = refl
or_test (suc (suc p)) q h k = absurd (omega arith)
or_test p (suc (suc q)) h k = absurd (omega arith)

and_test : (p q : ℕ) → p < 2 → q < 2 → (min p (1 - q) == 1) ≡ (if q == 1 then false else (p == 1))
and_test zero zero h k = refl
and_test zero (suc zero) h k = refl
and_test (suc zero) zero h k = refl
and_test (suc zero) (suc zero) h k = refl
and_test (suc (suc p)) q h k = absurd (omega arith)
and_test p (suc (suc q)) h k = absurd (omega arith)

bit_below : (x y z : ℕ) → x < 4 → y < 4 → z < 4 → bit_number x y z < 64
bit_below x y z p q r = omega arith

bits_painted : (set : Bool) (old inside : ℕ) (test : Cells) (t : Tree) → inside < 2 ^ 64
    → old ≡ bits_of (shape_of t) → SameIn 0 (has 0 (Leaf inside)) test
    → SameIn 0 (has 0 (Leaf (painted_bits set old inside))) (painted set test (has 0 (shape_of t)))
unfolding has
bits_painted true old inside test t small e h = record {
  each = λ x y z p q r.
      let i : ℕ = bit_number x y z in
      ap (λ (n : ℕ). n == 1) (bit_at_or old inside i)
      ∙ or_test (bit_at old i) (bit_at inside i) (bit_at-lt old i) (bit_at-lt inside i)
      ∙ chosen _ _ _ _ true (h.each x y z p q r) (ap (λ (n : ℕ). bit_at n i == 1) e);
}
bits_painted false old inside test t small e h = record {
  each = λ x y z p q r.
      let i : ℕ = bit_number x y z in
      ap (λ (n : ℕ). n == 1)
      (bit_at_and old (bit_not w64 inside) i
      ∙ ap (min (bit_at old i)) (bit_at_not w64 inside i small (bit_below x y z p q r)))
      ∙ and_test (bit_at old i) (bit_at inside i) (bit_at-lt old i) (bit_at-lt inside i)
      ∙ chosen _ _ _ _ false (h.each x y z p q r) (ap (λ (n : ℕ). bit_at n i == 1) e);
}

-- the bits of a leaf
pub paints_bits : (base : List Tree) (name : Option Name) (set : Bool) (old inside bits : ℕ)
    (test cells : Cells) → (m : Paints base 0 name set test cells) → inside < 2 ^ 64
    → old ≡ bits_of (shape_of m.tree) → SameIn 0 (has 0 (Leaf inside)) test
    → bits ≡ painted_bits set old inside → SameIn 0 (has 0 (Leaf bits)) cells
paints_bits base name set old inside bits test cells m small e h q =
    subst (λ (n : ℕ). SameIn 0 (has 0 (Leaf n)) cells) (sym q)
    (same_on 0 _ _ _ (bits_painted set old inside test m.tree small e h)
    (same_back 0 _ _ m.shows))

pub old_not_mixed : (o : Option Name) → whole_of_old o ≡ Mixed → ⊥
old_not_mixed None e = cc
old_not_mixed (Some n) e = cc

pub filled_not_mixed : (set : Bool) → whole_if set ≡ Mixed → ⊥
filled_not_mixed true e = cc
filled_not_mixed false e = cc
