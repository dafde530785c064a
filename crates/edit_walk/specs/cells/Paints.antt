-- What becomes of a block whose cells of a test are set or cleared.
use Rattle.std.specs.Prelude.{◌≡◌, ℕ, Bool, true, false, if◌then◌else◌, Option, Some, None, List, bit_or, bit_and}
use Rattle.std.specs.Int.{bit_not, w64}
use Rattle.node_words.specs.declared.shapes.names.Name.{Name}
use Rattle.node_words.specs.shapes.Shape.{has, IsCanonical}
use Rattle.node_words.specs.shapes.Tree.{Tree, root_of, shape_of}
use Rattle.node_words.specs.Held.{IsReached}
use Rattle.node_words.specs.Gathering.{IsTreeOf}
use Rattle.node_words.proofs.HeldLaws.{Keeps, reached_more}
use Rattle.edit_walk.specs.cells.Tasks.{OneEach}
use Rattle.edit_walk.specs.declared.cells.tasks.Whole.{Whole}
use Rattle.edit_walk.specs.declared.cells.tasks.Whole.TheVariants.{Nothing, All, Old}
use Rattle.node_words.specs.contents.CellShapes.{Cells, SameIn}

-- the cells with those of the test set or cleared
abbrev pub painted : Bool → Cells → Cells → Cells
painted set test cells = λ x y z. if test x y z then set else cells x y z

-- the tree of the old block, and the block's names have one tree each
pub record IsOld (base : List Tree) (level : ℕ) (t : Tree) (old : Option Name) : Type 0 where
  pub of : IsTreeOf base level t old
  pub canonical : IsCanonical level (shape_of t)
  pub named : (t u : Tree) → IsReached base t → IsReached base u → root_of t ≡ root_of u → t ≡ u

-- it stays so while more is held
pub old_lasts : (base more : List Tree) (level : ℕ) (t : Tree) (old : Option Name) → OneEach more
    → Keeps base more → IsOld base level t old → IsOld more level t old
old_lasts base more level t old one k is = record {
  of = record {
    root = is.of.root;
    reached = λ n e. reached_more base more t k (is.of.reached n e);
    levels = is.of.levels;
  };
  canonical = is.canonical;
  named = one;
}

-- these are the old block's cells with those of the test set or cleared
pub record Paints (base : List Tree) (level : ℕ) (old : Option Name) (set : Bool)
    (test cells : Cells) : Type 0 where
  pub tree : Tree
  pub is_old : IsOld base level tree old
  pub shows : SameIn level cells (painted set test (has level (shape_of tree)))

pub paints_last : (base more : List Tree) (level : ℕ) (old : Option Name) (set : Bool)
    (test cells : Cells) → OneEach more → Keeps base more → Paints base level old set test cells
    → Paints more level old set test cells
paints_last base more level old set test cells one k p = record {
  tree = p.tree;
  is_old = old_lasts base more level p.tree old one k p.is_old;
  shows = p.shows;
}

-- the whole of a block of which nothing changes
abbrev pub whole_of_old : Option Name → Whole
whole_of_old None = Nothing
whole_of_old (Some n) = Old n

-- the whole of a block all of whose cells are set or cleared
abbrev pub whole_if : Bool → Whole
whole_if true = All
whole_if false = Nothing

-- a leaf's bits with those inside set or cleared
abbrev pub painted_bits : Bool → ℕ → ℕ → ℕ
painted_bits true old inside = bit_or old inside
painted_bits false old inside = bit_and old (bit_not w64 inside)
