-- What an edit of a ball makes of a block, and bounds of the distances from it.
use Rattle.std.proofs.Common.{◌≡◌, ℕ, ◌+◌, ◌-◌, ◌*◌, ◌<◌, ◌≤◌, Bool, true, false, Option, List, refl, sym, subst, arith, []}
use Rattle.std.specs.Prelude.{nat_le, if◌then◌else◌, ◌&&◌, ◌||◌, not}
use Rattle.std.specs.Int.{abs_diff}
use Rattle.std.proofs.lemmas.Bool.Decides.{nat_tests}
use Rattle.std.proofs.Math.Nat.{mul-le-mul, mul-mul-mul_comm}
use Rattle.vw_cell.specs.declared.cells.Cell.{Cell}
use Rattle.vw_cell.specs.declared.balls.Ball.{Ball}
use Rattle.vw_cell.specs.Counts.{cell_at}
use Rattle.vw_cell.specs.declared.blocks.Block.{Block}
use Rattle.vw_cell.specs.Places.{is_in_ball, square, octant_of, block_side}
use Rattle.node_words.specs.declared.shapes.names.Name.{Name}
use Rattle.node_words.specs.shapes.Tree.{Tree, root_of, child_of}
use Rattle.node_words.specs.Held.{AreTrees, AreCanonical}
use Rattle.node_words.specs.contents.CellShapes.{Cells, SameIn, octant_cells}
use Rattle.node_words.proofs.OfContents.SameCells.{same_itself}
use Rattle.edit_walk.specs.cells.Worlds.{cells_from, world_cells, ShowsWorld}
use Rattle.edit_walk.proofs.OfCells.PaintLaws.{paints_octant, paints_same}
use Rattle.edit_walk.proofs.OfCells.WorldLaws.{placed_octant, octant_lies, world_lies, from_nowhere, in_side}
use Rattle.edit_walk.proofs.OfCells.WorldPaints.{world_paints}
use Rattle.history_model.specs.Worlds.{edited}
use Rattle.edit_ops.specs.declared.balls.BallTask.{BallTask}
use Rattle.edit_ops.specs.declared.balls.Reach.{Reach}
use Rattle.edit_ops.specs.declared.balls.Reach.TheVariants.{Within, Beyond}
use Rattle.edit_ops.specs.Balls.{IsTold, MakesBall, makes_ball, world_task, ball_act}

pub square_bound : (n : ℕ) → n ≤ 139260 → n * n ≤ 139260 * 139260
square_bound n h = mul-le-mul h h

twice : (n : ℕ) → square (2 * n) ≡ 4 * square n
twice n = mul-mul-mul_comm 2 n 2 n

-- r is twice the distance of the centre from the middle of the places
pub near_below : (centre at side r d i : ℕ) → r ≡ abs_diff (2 * centre) (2 * at + side - 1)
    → d ≡ r - (side - 1) → i < side → square d ≤ 4 * square (abs_diff centre (at + i))
near_below centre at side r d i middle e h =
    let less : d ≤ 2 * abs_diff centre (at + i) = omega arith in
    subst (λ (m : ℕ). square d ≤ m) (twice (abs_diff centre (at + i))) (mul-le-mul less less)

pub far_above : (centre at side r d i : ℕ) → r ≡ abs_diff (2 * centre) (2 * at + side - 1)
    → d ≡ r + (side - 1) → i < side → 4 * square (abs_diff centre (at + i)) ≤ square d
far_above centre at side r d i middle e h =
    let less : 2 * abs_diff centre (at + i) ≤ d = omega arith in
    subst (λ (m : ℕ). m ≤ square d) (twice (abs_diff centre (at + i))) (mul-le-mul less less)

pub outside : (x y z a b c most : ℕ) → 4 * most < x + y + z → x ≤ 4 * a → y ≤ 4 * b → z ≤ 4 * c
    → nat_le (a + b + c) most ≡ false
outside x y z a b c most out p q r = grind (arith, nat_tests)

pub inside : (x y z a b c most : ℕ) → x + y + z ≤ 4 * most → 4 * a ≤ x → 4 * b ≤ y → 4 * c ≤ z
    → nat_le (a + b + c) most ≡ true
inside x y z a b c most within p q r = grind (arith, nat_tests)

-- of a cube's places, what is told of the block of that side
pub told_of : (ball : Ball) (at : Cell) (level side : ℕ) (near far : Reach)
    → side ≡ block_side level
    → (near ≡ Beyond → (x y z : ℕ) → x < side → y < side → z < side
    → is_in_ball ball (cell_at (at.x + x) (at.y + y) (at.z + z)) ≡ false)
    → (far ≡ Within → (x y z : ℕ) → x < side → y < side → z < side
    → is_in_ball ball (cell_at (at.x + x) (at.y + y) (at.z + z)) ≡ true)
    → IsTold ball at level near far
told_of ball at level side near far e p q = record {
  none = λ h. in_side level side _ _ e (p h);
  all = λ h. in_side level side _ _ e (q h);
}

-- nothing is told
pub untold : (ball : Ball) (at : Cell) (level : ℕ) → IsTold ball at level Within Beyond
untold ball at level = record { none = λ h. cc; all = λ h. cc }

-- the task of an octant
pub ball_octant : (base : List Tree) (level : ℕ) (above : Option Name) (ball : Ball) (at : Cell)
    (set : Bool) (n f near far : Reach) (cells : Cells) (k : ℕ) (old : Option Name) (part : Block)
    → 1 ≤ level → k < 8 → (m : MakesBall above ball at set n f base level cells)
    → old ≡ root_of (child_of m.paints.tree k)
    → part ≡ octant_of (record { level = level; at = at }) k
    → IsTold ball part.at (level - 1) near far
    → MakesBall old ball part.at set near far base (level - 1) (octant_cells (level - 1) cells k)
ball_octant base level above ball at set n f near far cells k old part one lt m e is =
    subst (λ (b : Block). IsTold ball b.at (level - 1) near far
    → MakesBall old ball b.at set near far base (level - 1) (octant_cells (level - 1) cells k))
    (sym is) (λ told. record {
      small = omega (arith, m.small);
      inside = octant_lies level at k one lt m.inside;
      told = told;
      paints = paints_octant base level above old set _ _ cells k one lt m.paints e
          (placed_octant (level - 1) at (is_in_ball ball) k);
    })

pub ball_edits : (set : Bool) (b : Ball) (before : Cell → Bool) (c : Cell)
    → edited [] (ball_act set b) before c ≡ (if is_in_ball b c then set else before c)
ball_edits true b before c = either (is_in_ball b c) (before c)
  where
    either : (p q : Bool) → (p || q) ≡ (if p then true else q)
    either true q = refl
    either false q = refl
ball_edits false b before c = either (is_in_ball b c) (before c)
  where
    either : (p q : Bool) → (q && not p) ≡ (if p then false else q)
    either true true = refl
    either true false = refl
    either false true = refl
    either false false = refl

-- the same task makes the same cells
pub ball_same : (base : List Tree) (level : ℕ) (o n : Option Name) (a b : Ball) (at to : Cell)
    (s t : Bool) (i j u v : Reach) (p q : Cells) → o ≡ n → a ≡ b → at ≡ to → s ≡ t
    → MakesBall o a at s i j base level p → MakesBall n b to t u v base level q → SameIn level p q
ball_same base level o n a b at to s t i j u v p q old ball place set m h =
    paints_same base level o n s t _ _ p q old set
    (subst (λ (c : Ball). SameIn level (cells_from at (is_in_ball a))
    (cells_from to (is_in_ball c))) ball
    (subst (λ (c : Cell). SameIn level (cells_from at (is_in_ball a))
    (cells_from c (is_in_ball a))) place (same_itself level _)))
    m.paints h.paints

-- the task of the whole world
pub ball_world : (side level : ℕ) (held : List Tree) (set : Bool) (b : Ball) (o : Option Name)
    (task : BallTask) (before : Cell → Bool) → task ≡ world_task o b set → level ≤ 10
    → AreTrees side held → AreCanonical held → ShowsWorld held level o before
    → makes_ball task held level (world_cells (edited [] (ball_act set b) before))
ball_world side level held set b o task before is small a c w =
    subst (λ (t : BallTask). makes_ball t held level
    (world_cells (edited [] (ball_act set b) before))) (sym is) (record {
      small = small;
      inside = world_lies level small;
      told = untold b (cell_at 0 0 0) level;
      paints = world_paints side level held o before _ set (is_in_ball b) _ a c w
          (ball_edits set b before) (from_nowhere level (is_in_ball b));
    })
