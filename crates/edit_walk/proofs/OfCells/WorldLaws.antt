-- Edits in the words of worlds: from the root that is held, to the root that came.
use Rattle.std.proofs.Common.{◌≡◌, ℕ, zero, suc, ◌+◌, ◌-◌, ◌*◌, ◌^◌, ◌<◌, ◌≤◌, Bool, Some, None, Option, List, refl, sym, ◌∙◌, ap, subst, arith, zero-add}
use Rattle.std.specs.Prelude.{Result, Ok, Err, OnOk}
use Rattle.std.proofs.Math.Nat.{mul_comm}
use lib.Pow.{pow_mono}
use Rattle.vw_cell.specs.declared.cells.Cell.{Cell}
use Rattle.node_words.specs.Sums.{sum_below, sum_below-le}
use Rattle.vw_cell.specs.Counts.{cell_at}
use Rattle.vw_cell.specs.Places.{block_side, half_x, half_y, half_z, LiesIn, octant_of}
use Rattle.node_words.specs.declared.shapes.names.Name.{Name}
use Rattle.node_words.specs.shapes.Shape.{Shape, Clear, Leaf, has, IsCanonical, ShowsCells}
use Rattle.node_words.specs.shapes.Tree.{Tree, Gone, LeafAt, NodeAt, root_of, shape_of, IsTreeAt}
use Rattle.node_words.proofs.OfShapes.ShapeLaws.{has-clear, clear_canonical, block_side-suc, halves}
use Rattle.node_words.proofs.OfShapes.TreeLaws.{gone_at, shape_of-gone, gone_from_root}
use Rattle.node_words.specs.kernels.Leaves.{LeafShows}
use Rattle.node_words.specs.declared.shares.Full.{Full}
use Rattle.node_words.specs.Held.{StoreState, AreTrees, AreCanonical}
use Rattle.node_words.specs.Gathering.{GainsShare}
use Rattle.node_words.proofs.HeldLaws.{held_reached, reached_levels}
use Rattle.node_words.specs.contents.CellShapes.{Cells, SameIn, octant_cells}
use Rattle.node_words.specs.descent.Roots.{HoldsRoot}
use Rattle.edit_walk.specs.Edits.{MakesBlock, Rebuilds}
use Rattle.edit_walk.specs.cells.Paints.{IsOld}
use Rattle.edit_walk.specs.cells.Worlds.{ShowsWorld, block_at_origin, world_cells, world_shape, IsRoot, IsEmptyWorld, Rebuilt, cells_from}
use Rattle.edit_walk.specs.cells.Tasks.{blocks_in}
use Rattle.node_words.proofs.OfContents.CellShapeLaws.{shape_with-has, shape_with-canonical, shape_with-none}

from_origin : (x : ℕ) → x - 0 ≡ x
from_origin x = omega arith

cell_from_origin : (c : Cell) → cell_at (c.x - 0) (c.y - 0) (c.z - 0) ≡ c
cell_from_origin c = rw (from_origin c.x, from_origin c.y, from_origin c.z) refl

-- the old root's tree
pub root_old : (side level : ℕ) (held : List Tree) (t : Tree) (o : Option Name) → AreTrees side held
    → AreCanonical held → IsRoot held level t o → IsOld held level t o
root_old side level held t None a c r =
    let g = gone_from_root t r.root in
    record {
      of = record {
        root = r.root;
        reached = λ n e. cc;
        levels = subst
            (λ (u : Tree). IsTreeAt level u) (sym g) (gone_at level);
      };
      canonical = subst (λ (u : Tree). IsCanonical level (shape_of u)) (sym g)
          (subst (λ (s : Shape). IsCanonical level s) (sym shape_of-gone) (clear_canonical level));
      named = a.named;
    }
root_old side level held t (Some n) a c r =
    let e = r.at n refl in
    let h = r.is_held n refl in
    let l = (reached_levels side held t n a (held_reached held t h) r.root).levels in
    record {
      of = record {
        root = r.root;
        reached = λ m q. held_reached held t h;
        levels = subst
            (λ (j : ℕ). IsTreeAt j t) e l;
      };
      canonical = subst (λ (j : ℕ). IsCanonical j (shape_of t)) e (c.each t n h r.root);
      named = a.named;
    }

abbrev shape_world : ℕ → Tree → Cell → Bool
shape_world level t c = has level (shape_of t) (c.x - 0) (c.y - 0) (c.z - 0)

-- a root that is held shows some world
pub root_shown : (held : List Tree) (side : ℕ) (root : Option Name) → HoldsRoot held side root
    → (world : Cell → Bool) × ShowsWorld held (side - 2) root world
root_shown held side None h = (
  shape_world (side - 2) Gone,
  record {
    tree = Gone;
    is_root =
        record { root = refl; is_held = λ n e. cc; at = λ n e. cc };
    shows =
        record { each = λ c i. refl };
  },
)
root_shown held side (Some n) h = (
  shape_world (side - 2) h.0.tree,
  record {
    tree = h.0.tree;
    is_root = record {
      root = h.0.root;
      is_held = λ m e. h.0.is_held;
      at = λ m e. let same : n ≡ m = cc in ap (λ (p : Name). p.level) (sym same) ∙ h.1;
    };
    shows = record { each = λ c i. refl };
  },
)

-- what a root shows, by places
pub world_places : (level : ℕ) (s : Shape) (world : Cell → Bool)
    → ShowsCells (block_at_origin level) s world → SameIn level (has level s) (world_cells world)
world_places level s world h = record {
  each = λ x y z p q r. ap (λ (n : ℕ). has level s n y z) (sym (from_origin x))
      ∙ ap (λ (n : ℕ). has level s (x - 0) n z) (sym (from_origin y))
      ∙ ap (λ (n : ℕ). has level s (x - 0) (y - 0) n) (sym (from_origin z))
      ∙ h.each (cell_at x y z)
      (record {
        x = (omega arith, omega arith);
        y = (omega arith, omega arith);
        z =
            (omega arith, omega arith);
      });
}

pub shape_shows : (level : ℕ) (s : Shape) (world : Cell → Bool) → s ≡ world_shape level world
    → ShowsCells (block_at_origin level) s world
shape_shows level s world e = record {
  each = λ c i.
      let x : c.x - 0 < block_side level = omega (arith, i.x.1) in
      let y : c.y - 0 < block_side level = omega (arith, i.y.1) in
      let z : c.z - 0 < block_side level = omega (arith, i.z.1) in
      ap (λ (t : Shape). has level t (c.x - 0) (c.y - 0) (c.z - 0)) e
      ∙ (shape_with-has level (world_cells world)).each (c.x - 0) (c.y - 0) (c.z - 0) x y z
      ∙ ap world (cell_from_origin c);
}

clear_gone : (t : Tree) → shape_of t ≡ Clear → root_of t ≡ None
unfolding shape_of
clear_gone Gone e = refl
clear_gone (LeafAt n b) e = cc
clear_gone (NodeAt m a b c d e f g h) q = cc

none_empty : (level : ℕ) (t : Tree) (world : Cell → Bool) → root_of t ≡ None
    → ShowsCells (block_at_origin level) (shape_of t) world → IsEmptyWorld level world
none_empty level t world e s = λ c i.
    sym (s.each c i)
    ∙ ap (λ (u : Tree). has level (shape_of u) (c.x - 0) (c.y - 0) (c.z - 0))
    (gone_from_root t e)
    ∙ ap (λ (v : Shape). has level v (c.x - 0) (c.y - 0) (c.z - 0)) shape_of-gone
    ∙ has-clear level _ _ _

empty_none : (level : ℕ) (t : Tree) (world : Cell → Bool) → shape_of t ≡ world_shape level world
    → IsEmptyWorld level world → root_of t ≡ None
empty_none level t world e h =
    clear_gone t
    (e ∙ shape_with-none level (world_cells world)
    (record {
      each = λ x y z p q r. h (cell_at x y z)
          (record {
            x = (omega arith, omega arith);
            y = (omega arith, omega arith);
            z =
                (omega arith, omega arith);
          });
    }))

pub comes_rebuilt : (old new : StoreState) (level : ℕ) (world : Cell → Bool) (name : Option Name)
    → GainsShare old.held level (world_shape level world) name new.held
    → Rebuilt level world name old new
comes_rebuilt old new level world name c =
    let s = shape_shows level (shape_of c.tree) world c.shape in
    record {
      tree = c.tree;
      root = c.root;
      levels = c.levels;
      shows = s;
      canonical = subst (λ (t : Shape). IsCanonical level t) (sym c.shape)
          (shape_with-canonical level (world_cells world));
      none = (
        λ e. none_empty level c.tree world (c.root ∙ e) s,
        λ h. sym c.root
            ∙ empty_none level c.tree world c.shape h,
      );
      weighs = c.weighs;
    }

-- or it met a full bucket
pub root_made : (old new : StoreState) (level : ℕ) (world : Cell → Bool)
    (result : Result (Option Name) Full) → MakesBlock level (world_shape level world) result old new
    → Rebuilds level world result old new
root_made old new level world (Ok name) made = record {
  came = comes_rebuilt old new level world name made.came;
  grows = made.grows;
}
root_made old new level world (Err full) fails = fails

-- the turns of a block of the root's level are those of the root
pub root_turns : (result : Result (Option Name) Full) (mixed : ℕ → ℕ) (old new level side : ℕ)
    → level ≡ side - 2 → 2 ≤ side → OnOk result (new ≤ old + 25 * mixed level + 25 * (level + 1))
    → OnOk result (new ≤ old + 25 * mixed (side - 2) + 25 * (side - 1))
root_turns (Ok name) mixed old new level side e two h =
    let same : mixed level ≡ mixed (side - 2) = ap mixed e in omega (arith, e, same, two, h)
root_turns (Err full) mixed old new level side e two h = tt

one_further : (a s h x : ℕ) → a + (h * s + x) ≡ a + s * h + x
one_further a s h x = let e : h * s ≡ s * h = mul_comm h s in omega (arith, e)

-- an octant's cells, from its own place on
pub placed_octant : (level : ℕ) (at : Cell) (world : Cell → Bool) (k : ℕ)
    → SameIn level (octant_cells level (cells_from at world) k)
    (cells_from (cell_at (at.x + block_side level * half_x k)
    (at.y + block_side level * half_y k) (at.z + block_side level * half_z k)) world)
placed_octant level at world k = record {
  each = λ x y z p q r.
      let s : ℕ = block_side level in
      rw (
        one_further at.x s (half_x k) x,
        one_further at.y s (half_y k) y,
        one_further at.z s
            (half_z k) z,
      ) refl;
}

blocks_up : (level : ℕ) → 1 + sum_below 8 (λ k. blocks_in level) ≤ blocks_in (suc level)
unfolding blocks_in
blocks_up level =
    let most : sum_below 8 (λ k. blocks_in level) ≤ 8 * blocks_in level = sum_below-le 8
    (blocks_in level) (λ k. blocks_in level) (λ k lt. omega arith) in omega (arith, most)

pub blocks_some : (level : ℕ) → 1 ≤ level
    → 1 + sum_below 8 (λ k. blocks_in (level - 1)) ≤ blocks_in level
blocks_some level h =
    let up : suc (level - 1) ≡ level = omega arith in
    subst (λ (l : ℕ). 1 + sum_below 8 (λ k. blocks_in (level - 1)) ≤ blocks_in l) up
    (blocks_up (level - 1))

-- the bits of a leaf's block, by places
pub leaf_from : (bits : ℕ) (at : Cell) (world : Cell → Bool)
    → LeafShows bits (record { level = 0; at = at }) world
    → SameIn 0 (has 0 (Leaf bits)) (cells_from at world)
unfolding has
leaf_from bits at world h = record { each = λ x y z p q r. h.each x y z p q r }

zero_first : (x y z : ℕ) → cell_at (0 + x) (0 + y) (0 + z) ≡ cell_at x y z
zero_first x y z = rw (zero-add x, zero-add y, zero-add z) refl

pub leaf_places : (bits : ℕ) (world : Cell → Bool) → LeafShows bits (block_at_origin 0) world
    → SameIn 0 (has 0 (Leaf bits)) (world_cells world)
leaf_places bits world h =
    record {
      each = λ x y z p q r. (leaf_from bits (cell_at 0 0 0) world h).each x y z p q r
          ∙ ap world (zero_first x y z);
    }

-- the cells from the origin on are those of the world
pub from_nowhere : (level : ℕ) (world : Cell → Bool)
    → SameIn level (world_cells world) (cells_from (cell_at 0 0 0) world)
from_nowhere level world = record { each = λ x y z p q r. ap world (sym (zero_first x y z)) }

-- a test on the places of a cube is one on those of the block of that side
pub in_side : (level side : ℕ) (test : Cells) (value : Bool) → side ≡ block_side level
    → ((x y z : ℕ) → x < side → y < side → z < side → test x y z ≡ value)
    → SameIn level test (λ x y z. value)
in_side level side test value e h =
    record { each = λ x y z p q r. h x y z (omega arith) (omega arith) (omega arith) }

-- an octant lies in the world
octant_inside : (level at h : ℕ) → h < 2 → at + block_side (suc level) ≤ 4096
    → block_side (suc level) ≡ 2 * block_side level
    → at + block_side level * h + block_side level ≤ 4096
octant_inside level at zero lt i e = omega arith
octant_inside level at (suc zero) lt i e = omega arith
octant_inside level at (suc (suc h)) lt i e = absurd (omega arith)

pub octant_lies : (level : ℕ) (at : Cell) (k : ℕ) → 1 ≤ level → k < 8
    → LiesIn 4096 (record { level = level; at = at })
    → LiesIn 4096 (octant_of (record { level = level; at = at }) k)
octant_lies level at k one lt i =
    let up : level ≡ suc (level - 1) = omega arith in
    let h = halves k lt in
    let e = block_side-suc (level - 1) in
    let j = subst (λ (l : ℕ). LiesIn 4096 (record { level = l; at = at })) up i in
    record {
      x = octant_inside (level - 1) at.x (half_x k) h.x j.x e;
      y = octant_inside (level - 1) at.y (half_y k) h.y j.y e;
      z = octant_inside (level - 1) at.z (half_z k) h.z j.z e;
    }

pub world_lies : (level : ℕ) → level ≤ 10
    → LiesIn 4096 (record { level = level; at = cell_at 0 0 0 })
world_lies level h =
    let p : 2 ^ level ≤ 2 ^ 10 = pow_mono h in record
    { x = omega (arith, p); y = omega (arith, p); z = omega (arith, p) }
