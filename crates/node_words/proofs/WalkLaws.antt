-- A walk down from a node to the leaf of a cell.
use Rattle.std.proofs.Common.{◌≡◌, ◌≢◌, ℕ, zero, suc, ◌+◌, ◌-◌, ◌*◌, ◌<◌, ◌≤◌, Some, None, Option, List, Bool, true, false, refl, sym, ◌∙◌, ap, subst, arith}
use Rattle.std.specs.Prelude.{◌↔◌, IsTrue}
use Rattle.node_words.specs.Cell.{Cell}
use Rattle.node_words.specs.Block.{Block}
use Rattle.node_words.specs.Places.{block_side, octant_of, half_x, half_y, half_z, IsInBlock, LiesIn}
use Rattle.node_words.specs.declared.shapes.names.Name.{Name}
use Rattle.node_words.specs.shapes.Shape.{Shape, Clear, Leaf, has, octant_shape}
use Rattle.node_words.specs.shapes.Tree.{Tree, root_of, child_of, bits_in, shape_of, IsTreeAt}
use Rattle.node_words.proofs.OfShapes.ShapeLaws.{block_side-suc, halves}
use Rattle.node_words.proofs.OfShapes.ShowLaws.{octant_shows, clear_shown}
use Rattle.node_words.proofs.OfShapes.TreeLaws.{shape_of-child, shape_of-gone, shape_of-leaf, gone_from_root, leaf_from_root}
use Rattle.node_words.specs.Held.{IsHeld, IsReached, HoldsName, ReachesName, AreTrees}
use Rattle.node_words.specs.Walks.{TellsCell}
use Rattle.node_words.proofs.HeldLaws.{holds_reaches, held_reached, reached_child, child_level, reached_levels}

-- the node n of block b, in which the cell lies, is reached, and what it tells of the cell the
-- first node tells too
pub record IsOnWay (held : List Tree) (first : Name) (whole : Block) (c : Cell) (n : Name)
    (b : Block) : Type 0 where
  pub reached : ReachesName held n
  pub level : b.level ≡ n.level
  pub low : b.level ≤ 10
  pub inside : LiesIn 4096 b
  pub cell : IsInBlock b c
  pub tells : (side : ℕ) (t u : Tree) (set : Bool) → AreTrees side held → IsHeld held t
      → root_of t ≡ Some first → IsReached held u → root_of u ≡ Some n
      → TellsCell b (shape_of u) c set → TellsCell whole (shape_of t) c set

pub way_begins : (held : List Tree) (n : Name) (b : Block) (c : Cell) → HoldsName held n
    → b.level ≡ n.level → b.level ≤ 10 → LiesIn 4096 b → IsInBlock b c → IsOnWay held n b c n b
way_begins held n b c h level low inside cell = record {
  reached = holds_reaches held n h;
  level = level;
  low = low;
  inside = inside;
  cell = cell;
  tells = λ side t u set a it e iu f told.
      let same : u ≡ t = a.named u t iu (held_reached held t it) (f ∙ sym e) in
      subst (λ (v : Tree). TellsCell b (shape_of v) c set) same told;
}

half_lies : (at half side whole : ℕ) → half < 2 → whole ≡ 2 * side → at + whole ≤ 4096
    → at + side * half + side ≤ 4096
half_lies at zero side whole lt e h = omega (arith, e, h)
half_lies at (suc zero) side whole lt e h = omega (arith, e, h)
half_lies at (suc (suc half)) side whole lt e h = absurd (omega arith)

octant_lies : (b : Block) (k : ℕ) → k < 8 → 1 ≤ b.level → LiesIn 4096 b
    → LiesIn 4096 (octant_of b k)
octant_lies b k lt above inside =
    let up : b.level ≡ suc (b.level - 1) = omega arith in
    let side : block_side b.level ≡ 2 * block_side (b.level - 1) =
    ap block_side up ∙ block_side-suc (b.level - 1) in
    let s : ℕ = block_side (b.level - 1) in
    let h = halves k lt in
    record {
      x = half_lies b.at.x (half_x k) s (block_side b.level) h.x side inside.x;
      y = half_lies b.at.y (half_y k) s (block_side b.level) h.y side inside.y;
      z = half_lies b.at.z (half_z k) s (block_side b.level) h.z side inside.z;
    }

-- what the octant with the cell tells, the block tells
octant_tells : (b : Block) (s : Shape) (c : Cell) (k : ℕ) (set : Bool) → 1 ≤ b.level → k < 8
    → TellsCell (octant_of b k) (octant_shape s k) c set → TellsCell b s c set
octant_tells b s c k set above lt t =
    record { told = λ cells shows. t.told cells (octant_shows b s cells k above lt shows) }

pub way_goes_on : (side : ℕ) (held : List Tree) (first n m : Name) (whole b : Block) (c : Cell)
    (k : ℕ) → AreTrees side held → k < 8 → 1 ≤ b.level → IsInBlock (octant_of b k) c
    → ((t : Tree) → IsReached held t → root_of t ≡ Some n → root_of (child_of t k) ≡ Some m)
    → IsOnWay held first whole c n b → IsOnWay held first whole c m (octant_of b k)
way_goes_on side held first n m whole b c k a lt above cell child w =
    let t = w.reached.tree in
    let r = w.reached.reached in
    let e = w.reached.root in
    let there = child t r e in
    let down = child_level side held t k n m a r e there (omega (arith, w.level, above)) in
    record {
      reached = record { tree = child_of t k; reached = reached_child held t k r; root = there };
      level = omega (arith, down, w.level);
      low = omega (arith, w.low);
      inside = octant_lies b k lt above w.inside;
      cell = cell;
      tells = λ s f u set trees it g iu h told.
          let same : u ≡ child_of t k =
          trees.named u (child_of t k) iu (reached_child held t k r) (h ∙ sym there) in
          let shape : shape_of u ≡ octant_shape (shape_of t) k =
          ap shape_of same ∙ shape_of-child t k in
          let up =
          octant_tells b (shape_of t) c k set above lt
          (subst (λ (x : Shape). TellsCell (octant_of b k) x c set) shape told) in
          w.tells s f t set trees it g r e up;
    }

none_or_some : (o : Option Name) → (IsTrue false ↔ (o ≢ None)) → o ≡ None
none_or_some None h = refl
none_or_some (Some n) h =
    absurd (let no : false ≡ true = h.1 (λ e. (let x : ⊥ = cc in x)) in (let x : ⊥ = cc in x))

-- where there is no child, the cell isn't set
pub way_ends_clear : (side : ℕ) (held : List Tree) (first n : Name) (whole b : Block) (c : Cell)
    (k : ℕ) (t : Tree) → AreTrees side held → k < 8 → 1 ≤ b.level → IsInBlock (octant_of b k) c
    →
    ((u : Tree) → IsReached held u → root_of u ≡ Some n → IsTrue false
    ↔ (root_of (child_of u k) ≢ None)) → IsOnWay held first whole c n b → IsHeld held t
    → root_of t ≡ Some first → TellsCell whole (shape_of t) c false
way_ends_clear side held first n whole b c k t a lt above cell child w it e =
    let u = w.reached.tree in
    let gone =
    gone_from_root (child_of u k) (none_or_some _ (child u w.reached.reached w.reached.root)) in
    let clear : octant_shape (shape_of u) k ≡ Clear =
    sym (shape_of-child u k) ∙ ap shape_of gone ∙ shape_of-gone in
    let none : TellsCell (octant_of b k) Clear c false =
    record { told = λ cells shows. sym (clear_shown (octant_of b k) cells c shows cell) } in
    let up =
    octant_tells b (shape_of u) c k false above lt
    (subst (λ (x : Shape). TellsCell (octant_of b k) x c false) (sym clear) none) in
    w.tells side t u false a it e w.reached.reached w.reached.root up

-- at the leaf its bits tell
pub way_ends_in_leaf : (side : ℕ) (held : List Tree) (first n : Name) (whole b : Block) (c : Cell)
    (t : Tree) (bits : ℕ) (set : Bool) → AreTrees side held → b.level ≡ 0
    → ((u : Tree) → IsReached held u → root_of u ≡ Some n → bits ≡ bits_in u)
    → set ≡ has 0 (Leaf bits) (c.x - b.at.x) (c.y - b.at.y) (c.z - b.at.z)
    → IsOnWay held first whole c n b → IsHeld held t → root_of t ≡ Some first
    → TellsCell whole (shape_of t) c set
way_ends_in_leaf side held first n whole b c t bits set a zero_is read found w it e =
    let u = w.reached.tree in
    let levels = reached_levels side held u n a w.reached.reached w.reached.root in
    let zero_level : n.level ≡ 0 = sym w.level ∙ zero_is in
    let leaf =
    leaf_from_root u n
    (subst (λ (l : ℕ). IsTreeAt l u) zero_level levels.levels) w.reached.root in
    let shape : shape_of u ≡ Leaf bits =
    ap shape_of leaf ∙ shape_of-leaf n (bits_in u)
    ∙ ap Leaf (sym (read u w.reached.reached w.reached.root)) in
    let told : TellsCell b (shape_of u) c set = record {
      told = λ cells shows.
          (found ∙ ap (λ (x : Shape). has 0 x (c.x - b.at.x) (c.y - b.at.y) (c.z - b.at.z))
          (sym shape)
          ∙ ap (λ (l : ℕ). has l (shape_of u) (c.x - b.at.x) (c.y - b.at.y) (c.z - b.at.z))
          (sym zero_is) ∙ shows.each c w.cell);
    } in
    w.tells side t u set a it e w.reached.reached w.reached.root told
