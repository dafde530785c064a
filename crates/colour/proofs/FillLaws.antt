-- A test's cells get a tint: in one walk over all planes, as by one part after another.
use Rattle.std.proofs.Common.{◌≡◌, ℕ, zero, suc, ◌-◌, ◌^◌, ◌<◌, ◌≤◌, inl, inr, Bool, false, Option, List, refl, sym, ◌∙◌, ap, subst, arith}
use Rattle.std.specs.Prelude.{Result, Ok, Err}
use Rattle.std.proofs.lemmas.Bool.{cases_eq}
use Rattle.vw_cell.specs.declared.cells.Cell.{Cell}
use Rattle.vw_cell.specs.declared.boxes.Boxed.{Boxed}
use Rattle.vw_cell.specs.declared.balls.Ball.{Ball}
use Rattle.vw_cell.specs.Counts.{cell_at}
use Rattle.vw_cell.specs.Places.{IsInWorld, is_in_box, is_in_ball, block_side}
use Rattle.node_words.specs.declared.shapes.names.Name.{Name}
use Rattle.node_words.specs.shapes.Shape.{Shape, IsPart, has}
use Rattle.node_words.specs.shapes.Tree.{Tree, shape_of}
use Rattle.node_words.specs.declared.shares.Full.{Full}
use Rattle.node_words.specs.Held.{StoreState, AreTrees, AreCanonical}
use Rattle.node_words.proofs.GatherLaws.{grew_into}
use Rattle.node_words.proofs.OfDescent.LookLaws.{root_side}
use Rattle.node_words.specs.contents.CellShapes.{Cells, SameIn}
use Rattle.node_words.proofs.OfContents.SameCells.{same_on, same_itself}
use Rattle.edit_walk.specs.cells.Tasks.{Making}
use Rattle.edit_walk.specs.cells.Paints.{IsOld, Paints}
use Rattle.edit_walk.specs.cells.Worlds.{ShowsWorld, world_shape, world_cells, cells_from}
use Rattle.edit_walk.proofs.OfCells.WorldLaws.{root_shown, world_lies, from_nowhere}
use Rattle.edit_walk.proofs.OfCells.PaintLaws.{chosen}
use Rattle.edit_walk.specs.Walks.{MakesWorld}
use Rattle.node_words.specs.descent.Roots.{HoldsRoot}
use Rattle.edit_ops.specs.Boxes.{MakesBox}
use Rattle.edit_ops.specs.Balls.{makes_ball, world_task}
use Rattle.edit_ops.proofs.BallLaws.{untold}
use Rattle.history_model.specs.Worlds.{World, plus}
use Rattle.history_model.specs.Planes.{plane_at, plane_box, tells}
use Rattle.history_model.specs.Parts.{in_cube, put, part_number, after_parts}
use Rattle.history_model.specs.declared.acts.TintAct.{TintAct}
use Rattle.history_model.specs.declared.acts.TintAct.TheVariants as acts
use Rattle.history_model.specs.declared.acts.TintAct.TheVariants.{Fill, Erase, Carve}
use Rattle.colour.specs.Inks.{Inked, parts_in}
use Rattle.core_laws.proofs.OfTints.PartLaws.{tells_none}
use Rattle.core_laws.proofs.OfTints.PlaneLaws.{made_in_own, planes_apart, left_outside}
use Rattle.edit_walk.specs.Edits.{Edits}
use Rattle.colour.specs.declared.fills.BoxPlanes.{BoxPlanes}
use Rattle.colour.specs.declared.fills.BallPlanes.{BallPlanes}
use Rattle.colour.specs.Fills.{box_task, ball_task}
use Rattle.colour.specs.Made.{IsOfParts, MakesParts}
use Rattle.colour.specs.declared.walks.TintTask.TheVariants.{Root}
use Rattle.colour.specs.Walks.{makes_tint, CellEdit, in_cells, cell_parts, all_planes, MakesPlanes, fill_edit}
use Rattle.colour.proofs.WorldWalks.{EditsPlanes, world_made}

-- ---- one part after another, told cell by cell

module _ (n : ℕ) (edit : CellEdit) (before : World) where
  not_yet : (j k : ℕ) (p : Cell) → j ≤ k → k < 9 → IsInWorld n p
      → after_parts (cell_parts n edit) j before (plus (plane_at n k) p)
      ≡ before (plus (plane_at n k) p)
  not_yet zero k p le lt i = refl
  not_yet (suc j) k p le lt i =
      left_outside n (plane_at n j) (in_cells edit j) (after_parts (cell_parts n edit) j before) _
      (planes_apart n k j p lt (omega arith) (λ e. omega (arith, e, le)) i)
      ∙ not_yet j k p (omega arith) lt i

  done : (j k : ℕ) (p : Cell) → j ≤ 9 → k < j → IsInWorld n p
      → after_parts (cell_parts n edit) j before (plus (plane_at n k) p)
      ≡ edit k p (before (plus (plane_at n k) p))
  done zero k p le lt i = absurd (omega arith)
  done (suc j) k p le lt i = elim (cases_eq k j) [
    | inl e ↦
        subst (λ (m : ℕ). in_cube n (plane_at n m) (in_cells edit m)
        (after_parts (cell_parts n edit) j before) (plus (plane_at n k) p)
        ≡ edit k p (before (plus (plane_at n k) p))) e
        (made_in_own n (plane_at n k) (in_cells edit k)
        (after_parts (cell_parts n edit) j before) p i
        ∙ ap (edit k p) (not_yet j k p (omega (arith, e)) (omega arith) i))
    | inr other ↦
        left_outside n (plane_at n j) (in_cells edit j) (after_parts (cell_parts n edit) j before) _
        (planes_apart n k j p (omega arith) (omega arith) other i)
        ∙ done j k p (omega arith) (omega (arith, other)) i
  ]

  outside : (j : ℕ) (q : Cell) → j ≤ 9
      → ((k : ℕ) → k < 9 → is_in_box (plane_box n k) q ≡ false)
      → after_parts (cell_parts n edit) j before q ≡ before q
  outside zero q le out = refl
  outside (suc j) q le out =
      left_outside n (plane_at n j) (in_cells edit j) (after_parts (cell_parts n edit) j before) q
      (out j (omega arith))
      ∙ outside j q (omega arith) out

  pub parts_edit : EditsPlanes n edit before (after_parts (cell_parts n edit) 9 before)
  parts_edit =
      record {
        each = λ k p lt i. done 9 k p (omega arith) lt i;
        rest = λ q out. outside 9 q (omega arith) out;
      }

-- ---- a walk over the root's world

module _ {P T : Type 0} (task_of : P → ℕ → Option Name → T) (makes : T → Making) (planes : P)
    (side plan_side : ℕ) (held : List Tree) (asked root : Option Name) (same : asked ≡ root)
    (large : 4 ≤ side) (small : side ≤ 12) (trees : AreTrees plan_side held)
    (canonical : AreCanonical held) (edit : CellEdit)
    (made : MakesPlanes task_of makes planes held (side - 2 - 2) edit) where
  -- the task of the root makes the world in which each plane was edited
  pub walk_makes : (before : World) → ShowsWorld held (side - 2) root before
      → makes_tint task_of makes (Root asked planes) held (side - 2)
      (world_cells (all_planes side edit before))
  walk_makes before w =
      let l : ℕ = side - 2 - 2 in
      let up : suc (suc l) ≡ side - 2 = omega arith in
      let quarter : block_side l ≡ 2 ^ (side - 2) =
      sym (root_side l (side - 2) refl (omega arith)) in
      subst (λ (o : Option Name). makes_tint task_of makes (Root o planes) held (side - 2)
      (world_cells (all_planes side edit before))) (sym same)
      (subst (λ (n : ℕ). makes_tint task_of makes (Root root planes) held (side - 2)
      (world_cells (after_parts (cell_parts n edit) 9 before))) quarter
      (subst (λ (k : ℕ). makes_tint task_of makes (Root root planes) held k
      (world_cells (after_parts (cell_parts (block_side l) edit) 9 before))) up
      (world_made task_of makes planes held l edit before
      (after_parts (cell_parts (block_side l) edit) 9 before)
      (parts_edit (block_side l) edit before)
      made plan_side root (omega arith) trees canonical
      (subst (λ (k : ℕ). ShowsWorld held k root before) (sym up) w))))

  pub walk_begins : HoldsRoot held side root
      → MakesWorld (makes_tint task_of makes (Root asked planes)) held side
  walk_begins h =
      let (before, w) = root_shown held side root h in
      (all_planes side edit before, walk_makes before w)

-- ---- what one edit left is what the parts leave that make it

module _ (old new : StoreState) (side : ℕ) (root : Option Name) (parts : ℕ → World → World) (number : ℕ)
    (some : 1 ≤ number) where
  as_parts : (before : World) (s : Shape)
      → IsPart s (world_shape (side - 2) (after_parts parts number before))
      → IsOfParts (side - 2) parts number before s
  as_parts before s p =
      record { after = number; some = some; few = omega arith; is_part = p }

  pub all_made : (result : Result (Option Name) Full)
      → Edits old side root (after_parts parts number) result new
      → MakesParts old side root parts number result new
  all_made (Ok name) edits = record {
    came = λ before w. (edits before w).came;
    grown = λ before w.
        let g = (edits before w).grows in
        record { plan = g.plan; made = grew_into (as_parts before) g.made; met = g.met };
  }
  all_made (Err full) edits = λ before w.
      let f = edits before w in
      record {
        plan = f.plan;
        made = grew_into (as_parts before) f.made;
        wanted = f.wanted;
        wants = as_parts before f.wanted f.is_part;
        sought = f.sought;
        met = f.met;
        held = f.held;
      }

-- ---- boxes and balls

painted_by : (held : List Tree) (level : ℕ) (t : Tree) (old : Option Name) (test : Cell → Bool)
    (tint k : ℕ) (cells inside : Cells) → IsOld held level t old
    → SameIn level (world_cells test) inside
    → SameIn level cells
    (λ x y z. fill_edit test tint k (cell_at x y z) (has level (shape_of t) x y z))
    → Paints held level old (tells k tint) inside cells
painted_by held level t old test tint k cells inside o same shows =
    record {
      tree = t;
      is_old = o;
      shows = same_on level _ _ _ shows (record {
        each = λ x y z p q r. chosen _ _ _ _ (tells k tint) (same.each x y z p q r) refl;
      });
    }

pub box_made : (held : List Tree) (level : ℕ) (b : Boxed) (tint k : ℕ) (t : Tree)
    (old : Option Name) (cells : Cells) → level ≤ 10 → IsOld held level t old
    → SameIn level cells
    (λ x y z. fill_edit (is_in_box b) tint k (cell_at x y z) (has level (shape_of t) x y z))
    → MakesBox (record { old = old; part = b; set = tells k tint }) held level cells
box_made held level b tint k t old cells small o shows =
    record {
      small = small;
      paints = painted_by held level t old (is_in_box b) tint k cells (world_cells (is_in_box b)) o
          (same_itself level _) shows;
    }

pub ball_made : (held : List Tree) (level : ℕ) (ball : Ball) (tint k : ℕ) (t : Tree)
    (old : Option Name) (cells : Cells) → level ≤ 10 → IsOld held level t old
    → SameIn level cells
    (λ x y z. fill_edit (is_in_ball ball) tint k (cell_at x y z) (has level (shape_of t) x y z))
    → makes_ball (world_task old ball (tells k tint)) held level cells
ball_made held level ball tint k t old cells small o shows =
    record {
      small = small;
      inside = world_lies level small;
      told = untold ball (cell_at 0 0 0) level;
      paints = painted_by held level t old (is_in_ball ball) tint k cells
          (cells_from (cell_at 0 0 0) (is_in_ball ball)) o
          (from_nowhere level (is_in_ball ball)) shows;
    }

pub box_planes : (held : List Tree) (side : ℕ) (planes : BoxPlanes) → side ≤ 12
    → MakesPlanes box_task MakesBox planes held (side - 2 - 2)
    (fill_edit (is_in_box planes.b) planes.tint)
box_planes held side planes small =
    record {
      each = λ k t old cells lt o shows.
          box_made held (side - 2 - 2) planes.b planes.tint k t old cells (omega arith) o shows;
    }

pub ball_planes : (held : List Tree) (side : ℕ) (planes : BallPlanes) → side ≤ 12
    → MakesPlanes ball_task makes_ball planes held (side - 2 - 2)
    (fill_edit (is_in_ball planes.ball.now) planes.tint)
ball_planes held side planes small =
    record {
      each = λ k t old cells lt o shows.
          ball_made held (side - 2 - 2) planes.ball.now planes.tint k t old cells
          (omega arith) o shows;
    }

-- ---- which acts these are

-- what was made by these parts was made by those of the act
pub parts_made : (old new : StoreState) (side : ℕ) (root : Option Name) (act : TintAct)
    (stencil : Option Inked) (parts : ℕ → World → World) (number : ℕ)
    (result : Result (Option Name) Full) → parts_in (2 ^ (side - 2)) act stencil ≡ parts
    → part_number act ≡ number → MakesParts old side root parts number result new
    → MakesParts old side root (parts_in (2 ^ (side - 2)) act stencil) (part_number act) result new
parts_made old new side root act stencil parts number result same count made =
    subst (λ (k : ℕ). MakesParts old side root (parts_in (2 ^ (side - 2)) act stencil) k result new)
    (sym count)
    (subst (λ (p : ℕ → World → World). MakesParts old side root p number result new) (sym same)
    made)

module _ (old new : StoreState) (side : ℕ) (root : Option Name) (act : TintAct) (stencil : Option Inked)
    (edit : CellEdit) (result : Result (Option Name) Full)
    (same : parts_in (2 ^ (side - 2)) act stencil ≡ cell_parts (2 ^ (side - 2)) edit)
    (nine : part_number act ≡ 9) where
  pub act_made : Edits old side root (all_planes side edit) result new
      → MakesParts old side root (parts_in (2 ^ (side - 2)) act stencil) (part_number act) result
      new
  act_made edits =
      parts_made old new side root act stencil (cell_parts (2 ^ (side - 2)) edit) 9 result same nine
      (all_made old new side root (cell_parts (2 ^ (side - 2)) edit) 9 (omega arith) result edits)

-- an erase is a fill with no tint
pub clears_as : (n : ℕ) (test : Cell → Bool)
    → cell_parts n (fill_edit test 0) ≡ (λ k. in_cube n (plane_at n k) (put false test))
clears_as n test = λ i k. in_cube n (plane_at n k) (put (tells_none k i) test)

pub fill_is : (n : ℕ) (act : TintAct) (b : Boxed) (c : ℕ) (stencil : Option Inked) → act ≡ Fill b c
    → parts_in n act stencil ≡ cell_parts n (fill_edit (is_in_box b) c)
fill_is n act b c stencil e = ap (λ (a : TintAct). parts_in n a stencil) e

pub erase_is : (n : ℕ) (act : TintAct) (b : Boxed) (stencil : Option Inked) → act ≡ Erase b
    → parts_in n act stencil ≡ cell_parts n (fill_edit (is_in_box b) 0)
erase_is n act b stencil e =
    ap (λ (a : TintAct). parts_in n a stencil) e ∙ sym (clears_as n (is_in_box b))

pub ball_is : (n : ℕ) (act : TintAct) (ball : Ball) (c : ℕ) (stencil : Option Inked)
    → act ≡ acts.Ball ball c → parts_in n act stencil ≡ cell_parts n (fill_edit (is_in_ball ball) c)
ball_is n act ball c stencil e = ap (λ (a : TintAct). parts_in n a stencil) e

pub carve_is : (n : ℕ) (act : TintAct) (ball : Ball) (stencil : Option Inked)
    → act ≡ Carve ball → parts_in n act stencil ≡ cell_parts n (fill_edit (is_in_ball ball) 0)
carve_is n act ball stencil e =
    ap (λ (a : TintAct). parts_in n a stencil) e ∙ sym (clears_as n (is_in_ball ball))
