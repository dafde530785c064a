-- What an edit of a box makes of a block and of its octants.
use Rattle.std.proofs.Common.{[], ◌≡◌, ℕ, suc, ◌+◌, ◌-◌, ◌<◌, ◌≤◌, Bool, true, false, Option, List, refl, sym, ap, subst, arith}
use Rattle.std.specs.Prelude.{IsTrue, ◌&&◌, ◌||◌, if◌then◌else◌, not, nat_le, nat_lt}
use mathlib.Core.Bool.{beq}
use Rattle.std.proofs.lemmas.Bool.{and_parts, and_from, leb-true, ltb-true}
use Rattle.std.proofs.lemmas.Bool.Decides.{nat_tests}
use Rattle.vw_cell.specs.declared.cells.Cell.{Cell}
use Rattle.vw_cell.specs.declared.blocks.Block.{Block}
use Rattle.vw_cell.specs.declared.boxes.Boxed.{Boxed}
use Rattle.node_words.specs.Sums.{one_if, sum_below}
use Rattle.vw_cell.proofs.Overlaps.{meets_only, holds_when, meets_when, holds_only}
use Rattle.vw_cell.specs.Places.{block_side, is_in_box, Meets, HoldsBlock, Touches, Covers}
use Rattle.node_words.specs.declared.shapes.names.Name.{Name}
use Rattle.node_words.specs.shapes.Tree.{Tree, root_of, child_of}
use Rattle.node_words.specs.descent.Parts.{part_in}
use Rattle.node_words.specs.contents.CellShapes.{Cells, SameIn, octant_cells}
use Rattle.node_words.proofs.OfContents.SameCells.{same_itself}
use Rattle.edit_walk.specs.cells.Worlds.{block_at_origin, world_cells, ShowsWorld}
use Rattle.edit_walk.proofs.OfCells.PaintLaws.{paints_octant, paints_same}
use Rattle.edit_walk.proofs.OfCells.PartLaws.{part_cells}
use Rattle.edit_walk.proofs.OfCells.WorldPaints.{world_paints}
use Rattle.history_model.specs.Worlds.{edited}
use Rattle.node_words.specs.Held.{AreTrees, AreCanonical}
use Rattle.edit_ops.specs.declared.boxes.BoxTask.{BoxTask}
use Rattle.edit_ops.specs.Boxes.{MakesBox, box_act, touches_first, covers_first, is_partly, parts_met}
use Rattle.edit_ops.specs.Partly.{touches_at, covers_at, is_partly_at}

-- the task of an octant
pub makes_octant : (base : List Tree) (level : ℕ) (task : BoxTask) (cells : Cells) (k : ℕ)
    (old : Option Name) → 1 ≤ level → k < 8 → (m : MakesBox task base level cells)
    → old ≡ root_of (child_of m.paints.tree k)
    → MakesBox
    (record {
      old = old;
      part = part_in
          (block_side (level - 1)) task.part k;
      set = task.set;
    }) base (level - 1)
    (octant_cells (level - 1) cells k)
makes_octant base level task cells k old one lt m e = record {
  small = omega (arith, m.small);
  paints = paints_octant base level task.old old task.set _ _ cells k one lt m.paints e
      (part_cells (level - 1) task.part k);
}

-- the same task makes the same cells
pub makes_same : (base : List Tree) (level : ℕ) (a b : BoxTask) (p q : Cells) → a.old ≡ b.old
    → a.part ≡ b.part → a.set ≡ b.set → MakesBox a base level p → MakesBox b base level q
    → SameIn level p q
makes_same base level a b p q old part set m n =
    paints_same base level a.old b.old a.set b.set _ _ p q old set
    (subst (λ (c : Boxed). SameIn level (world_cells (is_in_box a.part))
    (world_cells (is_in_box c))) part (same_itself level _)) m.paints n.paints

pub beq-same : (a b : Bool) → IsTrue (beq a b) → a ≡ b
beq-same true true e = refl
beq-same false false e = refl
beq-same true false e = cc
beq-same false true e = cc

-- the two ways to say what an edit sets
pub box_edits : (set : Bool) (b : Boxed) (before : Cell → Bool) (c : Cell)
    → edited [] (box_act set b) before c ≡ (if is_in_box b c then set else before c)
box_edits true b before c = either (is_in_box b c) (before c)
  where
    either : (p q : Bool) → (p || q) ≡ (if p then true else q)
    either true q = refl
    either false q = refl
box_edits false b before c = either (is_in_box b c) (before c)
  where
    either : (p q : Bool) → (q && not p) ≡ (if p then false else q)
    either true true = refl
    either true false = refl
    either false true = refl
    either false false = refl

-- the task of the whole world
pub makes_world : (side level : ℕ) (held : List Tree) (set : Bool) (b : Boxed) (o : Option Name)
    (before : Cell → Bool) → level ≤ 10 → AreTrees side held → AreCanonical held
    → ShowsWorld held level o before
    → MakesBox (record { old = o; part = b; set = set }) held level
    (world_cells (edited [] (box_act set b) before))
makes_world side level held set b o before small a c w = record {
  small = small;
  paints = world_paints side level held o before _ set (is_in_box b) _ a c w
      (box_edits set b before) (same_itself level _);
}

-- how many blocks are mixed

pub clip_parts : (level : ℕ) (a b : Boxed) → a ≡ b → parts_met level a ≤ parts_met level b
clip_parts level a b e =
    let q : parts_met level a ≡ parts_met level b = ap (parts_met level) e in omega (arith, q)

touches_tells : (low size side : ℕ) → Touches low size 0 side → touches_first low size side ≡ true
touches_tells low size side t =
    let a = t.0 in let b = t.1 in let c = t.2 in grind (arith, nat_tests)

covers_tells : (low size side : ℕ) → covers_first low size side ≡ true → Covers low size 0 side
covers_tells low size side e =
    let p : (nat_le low 0 ≡ true) × (nat_le side (low + size) ≡ true) = and_parts _ _ e in
    let a = leb-true low 0 p.0 in
    let b = leb-true side (low + size) p.1 in
    (omega arith, omega arith)

not_true : (b : Bool) → (b ≡ true → ⊥) → not b ≡ true
not_true true h = absurd (h refl)
not_true false h = refl

pub partly : (level : ℕ) (b : Boxed) → Meets b (block_at_origin level)
    → (HoldsBlock b (block_at_origin level) → ⊥) → is_partly level b ≡ true
partly level b m missed =
    let n : ℕ = block_side level in
    let t = meets_only b (block_at_origin level) m in
    and_from _ _
    (and_from _ _
    (and_from _ _ (touches_tells b.at.x b.size.x n t.0) (touches_tells b.at.y b.size.y n t.1))
    (touches_tells b.at.z b.size.z n t.2))
    (not_true _ (λ e.
    let p =
    and_parts (covers_first b.at.x b.size.x n && covers_first b.at.y b.size.y n)
    (covers_first b.at.z b.size.z n) e in
    let q = and_parts (covers_first b.at.x b.size.x n) (covers_first b.at.y b.size.y n) p.0 in
    missed (holds_when b (block_at_origin level) (covers_tells b.at.x b.size.x n q.0)
    (covers_tells b.at.y b.size.y n q.1) (covers_tells b.at.z b.size.z n p.1))))

parts_suc : (level : ℕ) (b : Boxed) → is_partly (suc level) b ≡ true
    → 1 + sum_below 8 (λ k. parts_met level (part_in (block_side level) b k)) ≤ parts_met
    (suc level) b
unfolding parts_met
parts_suc level b e = let q : one_if (is_partly (suc level) b) ≡ 1 = ap one_if e in omega (arith, q)

pub parts_some : (level : ℕ) (b : Boxed) → 1 ≤ level → is_partly level b ≡ true
    → 1 + sum_below 8
    (λ k. parts_met (level - 1) (part_in (block_side (level - 1)) b k)) ≤ parts_met level b
parts_some level b h e =
    let up : level ≡ suc (level - 1) = omega arith in
    let q = subst (λ (l : ℕ). is_partly l b ≡ true) up e in
    subst (λ (l : ℕ). 1 + sum_below 8
    (λ k. parts_met (level - 1) (part_in (block_side (level - 1)) b k)) ≤ parts_met l b)
    (sym up) (parts_suc (level - 1) b q)

-- the test says what the facts say
at_touches : (low size at side : ℕ) → touches_at low size at side ≡ true → Touches low size at side
at_touches low size at side e =
    let p = and_parts (nat_le 1 size && nat_lt at (low + size)) (nat_lt low (at + side)) e in
    let q = and_parts (nat_le 1 size) (nat_lt at (low + size)) p.0 in
    (leb-true 1 size q.0, ltb-true _ _ q.1, ltb-true _ _ p.1)

touches_tested : (low size at side : ℕ) → Touches low size at side
    → touches_at low size at side ≡ true
touches_tested low size at side t =
    let a = t.0 in let b = t.1 in let c = t.2 in grind (arith, nat_tests)

at_covers : (low size at side : ℕ) → covers_at low size at side ≡ true → Covers low size at side
at_covers low size at side e =
    let p = and_parts (nat_le low at) (nat_le (at + side) (low + size)) e in
    (leb-true _ _ p.0, leb-true _ _ p.1)

covers_tested : (low size at side : ℕ) → Covers low size at side → covers_at low size at side ≡ true
covers_tested low size at side t = let a = t.0 in let b = t.1 in grind (arith, nat_tests)

not_false : (b : Bool) → not b ≡ true → b ≡ true → ⊥
not_false true e h = cc
not_false false e h = cc

pub partly_tells : (b : Boxed) (block : Block) → is_partly_at b block ≡ true
    → Meets b block × (HoldsBlock b block → ⊥)
partly_tells b block e =
    let n : ℕ = block_side block.level in
    let tx = touches_at b.at.x b.size.x block.at.x n in
    let ty = touches_at b.at.y b.size.y block.at.y n in
    let tz = touches_at b.at.z b.size.z block.at.z n in
    let p = and_parts (tx && ty && tz) _ e in
    let q = and_parts (tx && ty) tz p.0 in
    let r = and_parts tx ty q.0 in
    let cx = covers_at b.at.x b.size.x block.at.x n in
    let cy = covers_at b.at.y b.size.y block.at.y n in
    let cz = covers_at b.at.z b.size.z block.at.z n in (
      meets_when b block (at_touches _ _ _ _ r.0) (at_touches _ _ _ _ r.1) (at_touches _ _ _ _ q.1),
      λ h. let c = holds_only b block h in not_false _ p.1
          (and_from (cx && cy) cz
          (and_from cx cy (covers_tested _ _ _ _ c.0) (covers_tested _ _ _ _ c.1))
          (covers_tested _ _ _ _ c.2)),
    )

pub partly_tested : (b : Boxed) (block : Block) → Meets b block → (HoldsBlock b block → ⊥)
    → is_partly_at b block ≡ true
partly_tested b block m missed =
    let n : ℕ = block_side block.level in
    let t = meets_only b block m in
    let tx = touches_at b.at.x b.size.x block.at.x n in
    let ty = touches_at b.at.y b.size.y block.at.y n in
    let tz = touches_at b.at.z b.size.z block.at.z n in
    let cx = covers_at b.at.x b.size.x block.at.x n in
    let cy = covers_at b.at.y b.size.y block.at.y n in
    let cz = covers_at b.at.z b.size.z block.at.z n in
    and_from (tx && ty && tz) _
    (and_from (tx && ty) tz
    (and_from tx ty (touches_tested _ _ _ _ t.0) (touches_tested _ _ _ _ t.1))
    (touches_tested _ _ _ _ t.2))
    (not_true _ (λ e.
    let p = and_parts (cx && cy) cz e in
    let q = and_parts cx cy p.0 in
    missed (holds_when b block (at_covers _ _ _ _ q.0) (at_covers _ _ _ _ q.1)
    (at_covers _ _ _ _ p.1))))
