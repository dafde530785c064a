-- A stamp in tints, block by block.
use Rattle.std.proofs.Common.{◌≡◌, ℕ, zero, suc, ◌+◌, ◌-◌, ◌*◌, ◌^◌, ◌<◌, ◌≤◌, ◌==◌, Bool, true, false, None, Option, List, refl, sym, ◌∙◌, ap, subst, arith, zero-add, min, max}
use Rattle.std.specs.Prelude.{if◌then◌else◌, ◌&&◌, bit_or, bit_and}
use Rattle.std.specs.Int.{bit_at, bit_not, w64}
use Rattle.std.proofs.lemmas.Nat.Bits.{bit_at_or, bit_at_and, bit_at_not, bit_at-lt}
use Rattle.vw_cell.specs.declared.cells.Cell.{Cell}
use Rattle.vw_cell.specs.declared.blocks.Block.{Block}
use Rattle.vw_cell.specs.Counts.{cell_at}
use Rattle.vw_cell.specs.Places.{block_side, is_in_box, octant_of, half_x, half_y, half_z, Meets, HoldsBlock}
use Rattle.vw_cell.specs.Tests.{is_in_box_tells}
use Rattle.node_words.specs.declared.shapes.names.Name.{Name}
use Rattle.node_words.specs.shapes.Shape.{Shape, Leaf, has, octant_shape, bit_number, bits_of}
use Rattle.node_words.specs.shapes.Tree.{Tree, root_of, child_of, shape_of}
use Rattle.node_words.proofs.OfShapes.ShapeLaws.{has-in_octant}
use Rattle.node_words.proofs.OfShapes.TreeLaws.{shape_of-child}
use Rattle.node_words.specs.kernels.Leaves.{LeafShows}
use Rattle.node_words.specs.contents.CellShapes.{Cells, SameIn, no_cells, all_cells, octant_cells}
use Rattle.node_words.proofs.OfContents.SameCells.{octant_same, same_on, same_back}
use Rattle.edit_walk.specs.declared.cells.tasks.Whole.{Whole}
use Rattle.edit_walk.specs.declared.cells.tasks.Whole.TheVariants.{Nothing, All}
use Rattle.edit_walk.specs.cells.Tasks.{IsWhole, MakeAlike}
use Rattle.edit_walk.specs.cells.Paints.{whole_of_old}
use Rattle.edit_walk.specs.cells.Worlds.{cells_from}
use Rattle.edit_walk.proofs.OfCells.PaintLaws.{old_child, old_gone, old_same, paints_missed}
use Rattle.edit_walk.proofs.OfCells.WorldLaws.{placed_octant, octant_lies, world_lies}
use Rattle.edit_stamp.specs.Drawings.{Drawn, drawn_cells, AllDrawn, Agree}
use Rattle.edit_stamp.specs.Stamps.{is_stamped}
use Rattle.edit_stamp.proofs.StampLaws.{stamp_empty, stamp_full}
use Rattle.history_model.specs.Worlds.{box_at, less}
use Rattle.history_model.specs.Planes.{tells}
use Rattle.core_laws.proofs.OfTints.PartLaws.{tells_none, not_none}
use Rattle.colour.specs.Inks.{Inked, inked_tints, ink_at, DrawsPlane}
use Rattle.colour.specs.Stamps.{ink_cells, cells_inked, MakesInk, makes_ink, ink_task}
use Rattle.colour.specs.Walks.{ink_edit, MakesPlanes}
use Rattle.colour.specs.declared.stamps.InkPlanes.{InkPlanes}
use Rattle.colour.proofs.CubeLaws.{both_when}

-- ---- what a drawing of a plane tells

tells_inked : (plane : ℕ) (b : Bool) (c : ℕ)
    → (b && tells plane c) ≡ tells plane (if b then c else 0)
tells_inked plane true c = refl
tells_inked plane false c = sym (tells_none plane)

-- what is stamped of the drawing of a plane is what the ink tells there
inked_here : (plane : ℕ) (inked : Inked) (place : Cell) (drawn : Drawn) (p : Cell)
    → DrawsPlane plane inked drawn → is_stamped drawn place p ≡ tells plane (ink_at inked place p)
inked_here plane inked place drawn p d =
    let i : Bool = is_in_box (box_at place inked.size) p in
    ap (λ (s : Cell). is_in_box (box_at place s) p && drawn_cells drawn (less p place)) d.size
    ∙ both_when i _ _ (λ e.
    let b = is_in_box_tells (box_at place inked.size) p e in
    d.each (less p place) (record {
      x = omega (arith, b.x);
      y = omega (arith, b.y);
      z = omega (arith, b.z);
    }))
    ∙ tells_inked plane i (inked_tints inked (less p place))

pub drawn_ink : (plane level : ℕ) (inked : Inked) (place at : Cell) (drawn : Drawn)
    → DrawsPlane plane inked drawn
    → SameIn level (ink_cells inked place plane at) (cells_from at (is_stamped drawn place))
drawn_ink plane level inked place at drawn d = record {
  each = λ x y z p q r.
      sym (inked_here plane inked place drawn (cell_at (at.x + x) (at.y + y) (at.z + z)) d);
}

-- the model's box has no cell of the block
pub ink_missed : (plane : ℕ) (inked : Inked) (place : Cell) (block : Block)
    → (Meets (box_at place inked.size) block → ⊥)
    → SameIn block.level (ink_cells inked place plane block.at) no_cells
ink_missed plane inked place block missed = record {
  each = λ x y z p q r.
      let c : Cell = cell_at (block.at.x + x) (block.at.y + y) (block.at.z + z) in
      out (is_in_box (box_at place inked.size) c) (inked_tints inked (less c place)) (λ e.
      missed (record {
        cell = c;
        in_block = record {
          x = (omega arith, omega arith);
          y = (omega arith, omega arith);
          z = (omega arith, omega arith);
        };
        in_box = is_in_box_tells (box_at place inked.size) c e;
      }));
}
  where
    out : (b : Bool) (c : ℕ) → (b ≡ true → ⊥) → tells plane (if b then c else 0) ≡ false
    out true c h = absurd (h refl)
    out false c h = tells_none plane

-- no place of the model in the block is drawn, or each is
pub ink_empty : (plane level side : ℕ) (inked : Inked) (place at : Cell) (drawn : Drawn)
    → DrawsPlane plane inked drawn → side ≡ block_side level → AllDrawn drawn place at side false
    → SameIn level (ink_cells inked place plane at) no_cells
ink_empty plane level side inked place at drawn d e all =
    same_on level _ _ _ (drawn_ink plane level inked place at drawn d)
    (stamp_empty drawn place at level side e all)

pub ink_full : (plane level side : ℕ) (inked : Inked) (place at : Cell) (drawn : Drawn)
    → DrawsPlane plane inked drawn → side ≡ block_side level → AllDrawn drawn place at side true
    → HoldsBlock (box_at place inked.size) (record { level = level; at = at })
    → SameIn level (ink_cells inked place plane at) all_cells
ink_full plane level side inked place at drawn d e all holds =
    same_on level _ _ _ (drawn_ink plane level inked place at drawn d)
    (stamp_full drawn place at level side e all
    (subst (λ (s : Cell). HoldsBlock (box_at place s) (record { level = level; at = at }))
    (sym d.size) holds))

-- two drawings that agree in the block
pub ink_agrees : (i j level side : ℕ) (a b : Inked) (place at : Cell) (c d : Drawn)
    → DrawsPlane i a c → DrawsPlane j b d → side ≡ block_side level → Agree c d place at side
    → SameIn level (ink_cells a place i at) (ink_cells b place j at)
ink_agrees i j level side a b place at c d dc dd e agree =
    same_on level _ _ _ (drawn_ink i level a place at c dc)
    (same_on level _ _ _ stamped (same_back level _ _ (drawn_ink j level b place at d dd)))
  where
    stamped : SameIn level (cells_from at (is_stamped c place)) (cells_from at (is_stamped d place))
    stamped = record {
      each = λ x y z p q r.
          let t : Cell = cell_at (at.x + x) (at.y + y) (at.z + z) in
          both_when (is_in_box (box_at place c.size) t) _ _
          (agree.each x y z (omega (arith, p, e)) (omega (arith, q, e)) (omega (arith, r, e)))
          ∙ ap
          (λ (s : Cell). is_in_box (box_at place s) t
          && drawn_cells d (less t place)) agree.size;
    }

-- ---- a block as a whole

stays : (b t v : Bool) → b ≡ false → (if b then t else v) ≡ v
stays true t v e = absurd cc
stays false t v e = refl

becomes : (b t v : Bool) → b ≡ true → (if b then t else v) ≡ t
becomes true t v e = refl
becomes false t v e = absurd cc

both : (b t v s : Bool) → t ≡ s → v ≡ s → (if b then t else v) ≡ s
both true t v s p q = p
both false t v s p q = q

-- ink that tells in some plane is ink
some_ink : (plane c : ℕ) → tells plane c ≡ true → tells 0 c ≡ true
some_ink plane zero e = absurd (differ (tells plane 0) e (tells_none plane))
  where
    differ : (b : Bool) → b ≡ true → b ≡ false → ⊥
    differ true p q = cc
    differ false p q = cc
some_ink plane (suc c) e = not_none c

module _ (old : Option Name) (inked : Inked) (place at : Cell) (plane own : ℕ) (base : List Tree)
    (level : ℕ) (cells : Cells) (m : MakesInk old inked place at plane own base level cells) where
  -- there is no ink
  pub none_inked : (whole : Whole) → whole ≡ whole_of_old old
      → SameIn level (ink_cells inked place 0 at) no_cells → IsWhole base level cells whole
  none_inked whole e none =
      subst (λ (w : Whole). IsWhole base level cells w) (sym e)
      (paints_missed base level old false no_cells cells
      (record { each = λ x y z p q r. refl })
      (record {
        tree = m.tree;
        is_old = m.is_old;
        shows = record {
          each = λ x y z p q r.
              m.shows.each x y z p q r ∙ stays _ _ _ (none.each x y z p q r);
        };
      }))

  -- no ink tells, and nothing was there
  pub nothing_kept : old ≡ None → SameIn level (ink_cells inked place plane at) no_cells
      → IsWhole base level cells Nothing
  nothing_kept e none = record {
    each = λ x y z p q r.
        m.shows.each x y z p q r
        ∙ both _ _ _ false (none.each x y z p q r)
        (old_gone base level m.tree old e m.is_old x y z);
  }

  -- no ink tells, and there is ink all through
  pub all_cleared : SameIn level (ink_cells inked place 0 at) all_cells
      → SameIn level (ink_cells inked place plane at) no_cells → IsWhole base level cells Nothing
  all_cleared covers none = record {
    each = λ x y z p q r.
        m.shows.each x y z p q r ∙ becomes _ _ _ (covers.each x y z p q r) ∙ none.each x y z p q r;
  }

  -- the ink tells all through
  pub all_told : SameIn level (ink_cells inked place plane at) all_cells
      → IsWhole base level cells All
  all_told full = record {
    each = λ x y z p q r.
        let t = full.each x y z p q r in
        m.shows.each x y z p q r ∙ becomes _ _ _ (some_ink plane _ t) ∙ t;
  }

-- ---- the task of an octant

if_same : (a a' t t' v v' : Bool) → a ≡ a' → t ≡ t' → v ≡ v'
    → (if a then t else v) ≡ (if a' then t' else v')
if_same a a' t t' v v' p q r = rw (p, q, r) refl

octant_inked : (inked : Inked) (place at : Cell) (plane level : ℕ) (s : Shape) (k : ℕ) → k < 8
    → SameIn level (octant_cells level (cells_inked inked place plane at (has (suc level) s)) k)
    (cells_inked inked place plane
    (cell_at (at.x + block_side level * half_x k) (at.y + block_side level * half_y k)
    (at.z + block_side level * half_z k)) (has level (octant_shape s k)))
octant_inked inked place at plane level s k lt = record {
  each = λ x y z p q r.
      if_same _ _ _ _ _ _
      ((placed_octant level at (λ c. tells 0 (ink_at inked place c)) k).each x y z p q r)
      ((placed_octant level at (λ c. tells plane (ink_at inked place c)) k).each x y z p q r)
      (has-in_octant level s k x y z lt p q r);
}

pub ink_octant : (base : List Tree) (level own : ℕ) (old child : Option Name) (inked : Inked)
    (place at : Cell) (plane : ℕ) (cells : Cells) (k : ℕ) → 1 ≤ level → k < 8
    → (m : MakesInk old inked place at plane own base level cells)
    → child ≡ root_of (child_of m.tree k)
    → MakesInk child inked place (octant_of (record { level = level; at = at }) k).at plane
    (level - 1) base (level - 1) (octant_cells (level - 1) cells k)
ink_octant base level own old child inked place at plane cells k one lt m e =
    let up : level ≡ suc (level - 1) = omega arith in
    let s : Shape = shape_of m.tree in
    let shows = subst (λ (l : ℕ). SameIn l cells (cells_inked inked place plane at (has l s))) up
    m.shows in
    record {
      same = refl;
      small = omega (arith, m.small);
      some = m.some;
      inside = octant_lies level at k one lt m.inside;
      stands = m.stands;
      tree = child_of m.tree k;
      is_old = old_child base level m.tree old child k one m.is_old e;
      shows = subst (λ (t : Shape). SameIn (level - 1) (octant_cells (level - 1) cells k)
          (cells_inked inked place plane (octant_of (record { level = level; at = at }) k).at
          (has (level - 1) t))) (sym (shape_of-child m.tree k))
          (same_on (level - 1) _ _ _ (octant_same (level - 1) _ _ k lt shows)
          (octant_inked inked place at plane (level - 1) s k lt));
    }

-- ---- the bits of a leaf

pub ink_bits : (base : List Tree) (old : Option Name) (inked : Inked) (place at : Cell)
    (plane own : ℕ) (cells : Cells) (c d : Drawn) (was ink told bits : ℕ)
    → (m : MakesInk old inked place at plane own base 0 cells) → DrawsPlane 0 inked c
    → DrawsPlane plane inked d → was ≡ bits_of (shape_of m.tree)
    → LeafShows ink (record { level = 0; at = at }) (is_stamped c place)
    → LeafShows told (record { level = 0; at = at }) (is_stamped d place)
    → ((b : ℕ) → b < 64 → (bit_at bits b == 1)
    ≡ (if bit_at ink b == 1 then bit_at told b == 1 else bit_at was b == 1))
    → SameIn 0 (has 0 (Leaf bits)) cells
unfolding has
ink_bits base old inked place at plane own cells c d was ink told bits m dc dd e hi ht hb = record {
  each = λ x y z p q r.
      let i : ℕ = bit_number x y z in
      hb i (omega arith)
      ∙ if_same _ _ _ _ _ _
      (hi.each x y z p q r ∙ inked_here 0 inked place c _ dc)
      (ht.each x y z p q r ∙ inked_here plane inked place d _ dd)
      (ap (λ (n : ℕ). bit_at n i == 1) e)
      ∙ sym (m.shows.each x y z p q r);
}

-- where nothing was before, ink that tells is all that is set
new_only : (plane c : ℕ) (v : Bool) → v ≡ false
    → tells plane c ≡ (if tells 0 c then tells plane c else v)
new_only plane zero v e = tells_none plane ∙ sym e
new_only plane (suc c) v e = sym (becomes _ _ _ (not_none c))

pub new_bits : (base : List Tree) (old : Option Name) (inked : Inked) (place at : Cell)
    (plane own : ℕ) (cells : Cells) (d : Drawn) (was told : ℕ)
    → (m : MakesInk old inked place at plane own base 0 cells) → DrawsPlane plane inked d
    → was ≡ bits_of (shape_of m.tree) → was ≡ 0
    → LeafShows told (record { level = 0; at = at }) (is_stamped d place)
    → SameIn 0 (has 0 (Leaf told)) cells
unfolding has
new_bits base old inked place at plane own cells d was told m dd e none ht = record {
  each = λ x y z p q r.
      let i : ℕ = bit_number x y z in
      ht.each x y z p q r
      ∙ inked_here plane inked place d _ dd
      ∙ new_only plane (ink_at inked place (cell_at (at.x + x) (at.y + y) (at.z + z))) _
      (ap (λ (n : ℕ). bit_at n i == 1) (sym e ∙ none) ∙ tells_none (suc i))
      ∙ sym (m.shows.each x y z p q r);
}

-- the bits of two words, by those of a third
pick_test : (p q r : ℕ) → p < 2 → q < 2 → r < 2
    → (max (min p q) (min r (1 - q)) == 1) ≡ (if q == 1 then p == 1 else r == 1)
pick_test zero zero zero h k l = refl
pick_test zero zero (suc zero) h k l = refl
pick_test zero (suc zero) zero h k l = refl
pick_test zero (suc zero) (suc zero) h k l = refl
pick_test (suc zero) zero zero h k l = refl
pick_test (suc zero) zero (suc zero) h k l = refl
pick_test (suc zero) (suc zero) zero h k l = refl
pick_test (suc zero) (suc zero) (suc zero) h k l = refl
pick_test (suc (suc p)) q r h k l = absurd (omega arith)
pick_test p (suc (suc q)) r h k l = absurd (omega arith)
pick_test p q (suc (suc r)) h k l = absurd (omega arith)

pub pick_bits : (old ink told b : ℕ) → ink < 2 ^ 64 → b < 64
    → (bit_at (bit_or (bit_and told ink) (bit_and old (bit_not w64 ink))) b == 1)
    ≡ (if bit_at ink b == 1 then bit_at told b == 1 else bit_at old b == 1)
pick_bits old ink told b small lt =
    ap (λ (n : ℕ). n == 1)
    (bit_at_or (bit_and told ink) (bit_and old (bit_not w64 ink)) b
    ∙ ap (λ (n : ℕ). max n (bit_at (bit_and old (bit_not w64 ink)) b)) (bit_at_and told ink b)
    ∙ ap (max (min (bit_at told b) (bit_at ink b)))
    (bit_at_and old (bit_not w64 ink) b
    ∙ ap (min (bit_at old b)) (bit_at_not w64 ink b small lt)))
    ∙ pick_test (bit_at told b) (bit_at ink b) (bit_at old b) (bit_at-lt told b) (bit_at-lt ink b)
    (bit_at-lt old b)

-- ---- tasks that make the same

pub ink_alike : (old other : Option Name) (a b : Inked) (place there at far : Cell)
    (i j own same : ℕ) → own ≡ same → old ≡ other → at ≡ far → place ≡ there
    → SameIn own (ink_cells a place 0 at) (ink_cells b place 0 at)
    → SameIn own (ink_cells a place i at) (ink_cells b place j at)
    → MakeAlike (MakesInk old a place at i own) (MakesInk other b there far j same)
ink_alike old other a b place there at far i j own same el eo ea ep ink told base level p q m n =
    let n' = subst (λ (c : Cell). MakesInk other b c at j same base level q) (sym ep)
    (subst (λ (c : Cell). MakesInk other b there c j same base level q) (sym ea) n) in
    let tree : m.tree ≡ n'.tree =
    old_same base level m.tree n'.tree old other eo m.is_old n'.is_old in
    record {
      each = λ x y z k l h.
          let lx = subst (λ (v : ℕ). x < block_side v) m.same k in
          let ly = subst (λ (v : ℕ). y < block_side v) m.same l in
          let lz = subst (λ (v : ℕ). z < block_side v) m.same h in
          m.shows.each x y z k l h
          ∙ if_same _ _ _ _ _ _ (ink.each x y z lx ly lz) (told.each x y z lx ly lz)
          (ap (λ (t : Tree). has level (shape_of t) x y z) tree)
          ∙ sym (n'.shows.each x y z k l h);
    }

-- where nothing was before, what the ink tells is enough
pub new_alike : (old other : Option Name) (a b : Inked) (place there at far : Cell)
    (i j own same : ℕ) → own ≡ same → old ≡ other → old ≡ None → at ≡ far → place ≡ there
    → SameIn own (ink_cells a place i at) (ink_cells b place j at)
    → MakeAlike (MakesInk old a place at i own) (MakesInk other b there far j same)
new_alike old other a b place there at far i j own same el eo none ea ep told base level p q m n =
    let n' = subst (λ (c : Cell). MakesInk other b c at j same base level q) (sym ep)
    (subst (λ (c : Cell). MakesInk other b there c j same base level q) (sym ea) n) in
    record {
      each = λ x y z k l h.
          let lx = subst (λ (v : ℕ). x < block_side v) m.same k in
          let ly = subst (λ (v : ℕ). y < block_side v) m.same l in
          let lz = subst (λ (v : ℕ). z < block_side v) m.same h in
          m.shows.each x y z k l h
          ∙ sym (new_only i _ _ (old_gone base level m.tree old none m.is_old x y z))
          ∙ told.each x y z lx ly lz
          ∙ new_only j _ _
          (old_gone base level n'.tree other (sym eo ∙ none) n'.is_old x y z)
          ∙ sym (n'.shows.each x y z k l h);
    }

-- ---- the planes of a store

from_first : (inked : Inked) (place : Cell) (plane level : ℕ) (cells : Cells)
    → SameIn level (λ x y z. ink_edit (ink_at inked place) plane (cell_at x y z) (cells x y z))
    (cells_inked inked place plane (cell_at 0 0 0) cells)
from_first inked place plane level cells = record {
  each = λ x y z p q r. rw (zero-add x, zero-add y, zero-add z) refl;
}

pub ink_planes : (held : List Tree) (side : ℕ) (planes : InkPlanes) → side ≤ 12
    → planes.level ≡ side - 2 - 2
    → (planes.place.now.x ≤ 4096) × (planes.place.now.y ≤ 4096) × (planes.place.now.z ≤ 4096)
    → MakesPlanes ink_task makes_ink planes held (side - 2 - 2)
    (ink_edit (ink_at planes.stencil.now planes.place.now))
ink_planes held side planes small level stands =
    record {
      each = λ k t old cells lt o shows. record {
        same = sym level;
        small = omega arith;
        some = lt;
        inside = world_lies (side - 2 - 2) (omega arith);
        stands = stands;
        tree = t;
        is_old = o;
        shows = same_on (side - 2 - 2) _ _ _ shows
            (from_first planes.stencil.now planes.place.now k (side - 2 - 2)
            (has (side - 2 - 2) (shape_of t)));
      };
    }
