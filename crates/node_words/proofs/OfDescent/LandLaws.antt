-- What stands where a way down to a cell ends.
use Rattle.std.proofs.Common.{◌≡◌, ℕ, zero, suc, ◌+◌, ◌-◌, ◌*◌, ◌/◌, ◌%◌, ◌<◌, ◌≤◌, Bool, true, false, Some, None, Option, List, refl, sym, ap, subst, ◌∙◌, arith}
use Rattle.std.specs.Prelude.{◌==◌, IsSome}
use Rattle.std.specs.Option.{is_some}
use Rattle.std.specs.Int.{bit_at}
use Rattle.vw_cell.specs.declared.cells.Cell.{Cell}
use Rattle.vw_cell.specs.declared.boxes.Boxed.{Boxed}
use Rattle.vw_cell.specs.Places.{block_side, IsInWorld, half_x, half_y, half_z}
use Rattle.vw_cell.specs.Counts.{cell_at}
use Rattle.node_words.specs.declared.shapes.names.Name.{Name}
use Rattle.node_words.specs.shapes.Shape.{Shape, bits_of, bit_number}
use Rattle.node_words.specs.shapes.Tree.{Tree, shape_of, child_of}
use Rattle.node_words.proofs.OfShapes.ShapeLaws.{has-clear}
use Rattle.node_words.proofs.OfShapes.TreeLaws.{shape_of-child}
use Rattle.node_words.specs.descent.Roots.{IsBlockOf, IsOctantOf, HasBlock, cells_of}
use Rattle.node_words.specs.descent.Parts.{placed}
use Rattle.node_words.specs.descent.Looks.{IsClearRound}
use Rattle.node_words.specs.descent.Landings.{IsAtMost, IsStepDown, LandsAt, corner_of, land_of, from_place, inner_place}
use Rattle.node_words.specs.declared.descent.landings.Landing.{Landing}
use Rattle.node_words.proofs.OfDescent.BlockLaws.{clear_block}
use Rattle.node_words.proofs.OfDescent.LookLaws.{twice, placed_set, same_cell, told_leaf, block_still, halves_join}
use Rattle.node_words.specs.Held.{StoreState}
use Rattle.std.proofs.Math.Arith.{mod-mul}
use lib.Pow.{pow_pos}
use native.Mathlib.Nat.{mod-eq_of_lt}
use Rattle.std.proofs.Math.Nat.{mod-le, mod-lt}

-- the way begins at the block itself
pub lands_first : (held : List Tree) (level : ℕ) (block : Option Name) (c : Cell) (t : Tree)
    → IsBlockOf held level block t
    → LandsAt held level c (record { level = level; block = block; inner = c }) t
lands_first held level block c t o = record {
  tree = t;
  is_block = o;
  ends = record { x = omega arith; y = omega arith; z = omega arith };
  shows = λ p i. ap (cells_of level (shape_of t))
      (sym (same_cell p _ _ _ (omega arith) (omega arith) (omega arith)));
}

-- a half of a stretch ends where the whole does, or before
half_ends : (half i inner out c top side : ℕ) → i < 2 → side ≡ 2 * half → inner ≡ i * half + out
    → inner ≤ c → c - inner + side ≤ top → c - out + half ≤ top
half_ends half zero inner out c top side lt d e at ends = omega arith
half_ends half (suc zero) inner out c top side lt d e at ends = omega arith
half_ends half (suc (suc i)) inner out c top side lt d e at ends = absurd (omega arith)

half_inside : (half i p side : ℕ) → i < 2 → side ≡ 2 * half → p < half → i * half + p < side
half_inside half zero p side lt d below = omega arith
half_inside half (suc zero) p side lt d below = omega arith
half_inside half (suc (suc i)) p side lt d below = absurd (omega arith)

octant_cells : (level l : ℕ) (t : Tree) (k : ℕ) (p : Cell) → l ≡ level - 1 → 1 ≤ level → k < 8
    → IsInWorld (block_side l) p
    → cells_of level (shape_of t) (placed (block_side l) k p) ≡ cells_of l
    (shape_of (child_of t k)) p
octant_cells level l t k p e h lt i =
    let P : ℕ → Type 0 =
    λ n. IsInWorld (block_side n) p → cells_of level (shape_of t) (placed (block_side n) k p)
    ≡ cells_of n (shape_of (child_of t k)) p in
    let one : P (level - 1) =
    λ j. placed_set level (shape_of t) k p h lt j
    ∙ ap (λ (s : Shape). cells_of (level - 1) s p) (sym (shape_of-child t k)) in
    subst P (sym e) one i

pub lands_next : (held : List Tree) (top : ℕ) (c : Cell) (at next : Landing) (t : Tree)
    → 1 ≤ at.level → IsAtMost at.inner c → IsStepDown held at next → LandsAt held top c at t
    → LandsAt held top c next t
lands_next held top c at next t h m b l =
    let half = block_side next.level in
    let k = b.octant in
    let side : block_side at.level ≡ 2 * half =
    twice at.level h ∙ ap (λ (n : ℕ). 2 * block_side n) (sym b.level) in
    let px : at.inner.x ≡ half_x k * half + next.inner.x = ap (λ (p : Cell). p.x) b.place in
    let py : at.inner.y ≡ half_y k * half + next.inner.y = ap (λ (p : Cell). p.y) b.place in
    let pz : at.inner.z ≡ half_z k * half + next.inner.z = ap (λ (p : Cell). p.z) b.place in
    let mx = m.x in
    let my = m.y in
    let mz = m.z in
    record {
      tree = child_of l.tree k;
      is_block = subst (λ (n : ℕ). IsBlockOf held n next.block (child_of l.tree k)) (sym b.level)
          (b.block l.tree l.is_block);
      ends = record {
        x = half_ends half (half_x k) at.inner.x next.inner.x c.x (block_side top)
            (block_side at.level) (omega arith) side px mx l.ends.x;
        y = half_ends half (half_y k) at.inner.y next.inner.y c.y (block_side top)
            (block_side at.level) (omega arith) side py my l.ends.y;
        z = half_ends half (half_z k) at.inner.z next.inner.z c.z (block_side top)
            (block_side at.level) (omega arith) side pz mz l.ends.z;
      };
      shows = λ p i.
          let q : Cell = placed half k p in
          let within : IsInWorld (block_side at.level) q =
          record {
            x = half_inside half (half_x k) p.x (block_side at.level)
                (omega arith) side i.x;
            y = half_inside half (half_y k) p.y (block_side at.level)
                (omega arith) side i.y;
            z = half_inside half (half_z k) p.z
                (block_side at.level) (omega arith) side i.z;
          } in
          let same : from_place (corner_of c next) p ≡ from_place (corner_of c at) q =
          same_cell (from_place (corner_of c next) p) _ _ _ (omega (arith, px, mx))
          (omega (arith, py, my)) (omega (arith, pz, mz)) in
          ap (cells_of top (shape_of t)) same ∙ l.shows q within
          ∙ octant_cells at.level next.level l.tree k p b.level h b.is i;
    }

-- the cell is no nearer to the corner of the lower block
pub has_below : (held : List Tree) (at next : Landing) → IsStepDown held at next
    → HasBlock held at.level at.block → HasBlock held next.level next.block
has_below held at next b h = record {
  tree = child_of h.tree b.octant;
  is_block = subst (λ (n : ℕ). IsBlockOf held n next.block (child_of h.tree b.octant))
      (sym b.level) (b.block h.tree h.is_block);
}

-- the place of a cell in a block of a level, among the places of the next one
half_place : (n side half h i : ℕ) → 1 ≤ half → side ≡ 2 * half → h ≡ half → i ≡ n / h % 2
    → n % side ≡ i * half + n % half
half_place n side half h i some e f g =
    let high : i ≡ n / half % 2 = g ∙ ap (λ (d : ℕ). n / d % 2) f in
    let join : n % (2 * half) ≡ (n / half % 2) * half + n % half =
    mod-mul n {m = 2} {c = half} (omega arith) some in
    ap (λ (s : ℕ). n % s) e ∙ join ∙ ap (λ (d : ℕ). d * half + n % half) (sym high)

pub octant_place : (level h i j k : ℕ) (c : Cell) → 1 ≤ level → h ≡ block_side (level - 1) → 1 ≤ h
    → i < 2 → j < 2 → k < 2 → i ≡ c.x / h % 2 → j ≡ c.y / h % 2 → k ≡ c.z / h % 2
    → inner_place level c ≡ placed (block_side (level - 1)) (i + 2 * j + 4 * k)
    (inner_place (level - 1) c)
octant_place level h i j k c above e some p q r ex ey ez =
    let half = block_side (level - 1) in
    let wide = twice level above in
    let one : 1 ≤ half = omega (arith, e, some) in
    halves_join half i j k (inner_place level c) (inner_place (level - 1) c) p q r
    (half_place c.x (block_side level) half h i one wide e ex)
    (half_place c.y (block_side level) half h j one wide e ey)
    (half_place c.z (block_side level) half h k one wide e ez)

-- a cell of a block has its place there
place_small : (level : ℕ) (c : Cell) → IsInWorld (block_side level) c → c ≡ inner_place level c
place_small level c i =
    same_cell c _ _ _ (sym (mod-eq_of_lt i.x)) (sym (mod-eq_of_lt i.y)) (sym (mod-eq_of_lt i.z))

place_inside : (level : ℕ) (c : Cell) → IsInWorld (block_side level) (inner_place level c)
place_inside level c =
    let some : 0 < block_side level = (let power = pow_pos level in omega (arith, power)) in
    record { x = mod-lt c.x some; y = mod-lt c.y some; z = mod-lt c.z some }

place_at_most : (level : ℕ) (c : Cell) → IsAtMost (inner_place level c) c
place_at_most level c =
    record {
      x = mod-le c.x (block_side level);
      y = mod-le c.y (block_side level);
      z = mod-le c.z
          (block_side level);
    }

-- the name of what stands in a block of a level, and a landing there
abbrev pub at_level : ℕ → Name → Name
at_level level n = record { bucket = n.bucket; level = level; slot = n.slot }

abbrev pub landing_at : ℕ → Option Name → Cell → Landing
landing_at level block c = record { level = level; block = block; inner = inner_place level c }

named_at : (held : List Tree) (level : ℕ) (n : Name) (t : Tree) → IsBlockOf held level (Some n) t
    → n ≡ at_level level n
named_at held level n t o = ap (λ (l : ℕ). at_level l n) (o.of_level n refl)

pub has_named : (held : List Tree) (level : ℕ) (n : Name) → HasBlock held level (Some n)
    → HasBlock held level (Some (at_level level n))
has_named held level n h =
    subst (λ (m : Name). HasBlock held level (Some m)) (named_at held level n h.tree h.is_block) h

-- the way begins at the node itself
pub lands_from : (held : List Tree) (level : ℕ) (n : Name) (c : Cell) (t : Tree)
    → IsInWorld (block_side level) c → IsBlockOf held level (Some n) t
    → LandsAt held level c (landing_at level (Some (at_level level n)) c) t
lands_from held level n c t i o =
    let first = lands_first held level (Some n) c t o in
    let there =
    subst (λ (p : Cell). LandsAt held level c
    (record { level = level; block = Some n; inner = p }) t)
    (place_small level c i) first in
    subst (λ (m : Name). LandsAt held level c (landing_at level (Some m) c) t)
    (named_at held level n t o) there

-- one level further down stands this child, or none
step_down : (a b : StoreState) (level k : ℕ) (n : Name) (child next : Option Name) (c : Cell) → b ≡ a
    → k < 8 → inner_place level c ≡ placed (block_side (level - 1)) k (inner_place (level - 1) c)
    → IsOctantOf b.held level (Some n) k child → child ≡ next
    → IsStepDown a.held (landing_at level (Some n) c) (landing_at (level - 1) next c)
step_down a b level k n child next c same lt place octant is = record {
  octant = k;
  is = lt;
  level = refl;
  block = subst (λ (m : Option Name). IsOctantOf a.held level (Some n) k m) is
      (subst (λ (s : StoreState). IsOctantOf s.held level (Some n) k child) same octant);
  inner = place_inside (level - 1) c;
  place = place;
}

child_named : (a b : StoreState) (level k : ℕ) (n m : Name) (child : Option Name) → b ≡ a
    → HasBlock a.held level (Some n) → IsOctantOf b.held level (Some n) k child → child ≡ Some m
    → m ≡ at_level (level - 1) m
child_named a b level k n m child same has octant is =
    let below =
    subst (λ (d : Option Name). IsOctantOf a.held level (Some n) k d) is
    (subst (λ (s : StoreState). IsOctantOf s.held level (Some n) k child) same octant) in
    named_at a.held (level - 1) m (child_of has.tree k) (below has.tree has.is_block)

pub step_to : (a b : StoreState) (level k : ℕ) (n m : Name) (child : Option Name) (c : Cell) → b ≡ a
    → k < 8 → inner_place level c ≡ placed (block_side (level - 1)) k (inner_place (level - 1) c)
    → HasBlock a.held level (Some n) → IsOctantOf b.held level (Some n) k child → child ≡ Some m
    → IsStepDown a.held (landing_at level (Some n) c)
    (landing_at (level - 1) (Some (at_level (level - 1) m)) c)
step_to a b level k n m child c same lt place has octant is =
    step_down a b level k n child _ c same lt place octant
    (is ∙ ap (λ (d : Name). Some d) (child_named a b level k n m child same has octant is))

pub lands_below : (held : List Tree) (top level : ℕ) (n : Name) (next : Option Name) (c : Cell)
    (t : Tree) → 1 ≤ level
    → IsStepDown held (landing_at level (Some n) c) (landing_at (level - 1) next c)
    → LandsAt held top c (landing_at level (Some n) c) t
    → LandsAt held top c (landing_at (level - 1) next c) t
lands_below held top level n next c t above step l =
    lands_next held top c (landing_at level (Some n) c) (landing_at (level - 1) next c) t above
    (place_at_most level c) step l

-- where there is no child, the way ends
pub lands_nothing : (a b : StoreState) (top level k : ℕ) (n : Name) (child : Option Name) (c inner : Cell)
    (t : Tree) → b ≡ a → 1 ≤ level → k < 8
    → inner_place level c ≡ placed (block_side (level - 1)) k (inner_place (level - 1) c)
    → IsOctantOf b.held level (Some n) k child → child ≡ None → inner ≡ inner_place (level - 1) c
    → LandsAt a.held top c (landing_at level (Some n) c) t
    → LandsAt a.held top c (record { level = level - 1; block = None; inner = inner }) t
lands_nothing a b top level k n child c inner t same above lt place octant is e l =
    subst (λ (p : Cell). LandsAt a.held top c
    (record { level = level - 1; block = None; inner = p }) t) (sym e)
    (lands_below a.held top level n None c t above
    (step_down a b level k n child None c same lt place octant is) l)

-- or at a leaf
pub lands_leaf : (held : List Tree) (top level : ℕ) (n : Name) (c inner : Cell) (t : Tree)
    → level ≡ 0 → inner ≡ inner_place 0 c
    → LandsAt held top c (landing_at level (Some (at_level level n)) c) t
    → LandsAt held top c (record { level = 0; block = Some (at_level 0 n); inner = inner }) t
lands_leaf held top level n c inner t z e l =
    subst (λ (p : Cell). LandsAt held top c
    (record { level = 0; block = Some (at_level 0 n); inner = p }) t) (sym e)
    (subst (λ (d : ℕ). LandsAt held top c (landing_at d (Some (at_level d n)) c) t) z l)

-- what the landing's block has of the cell
pub lands_cell : (held : List Tree) (top : ℕ) (c : Cell) (at : Landing) (t : Tree)
    (l : LandsAt held top c at t) → IsAtMost at.inner c → IsInWorld (block_side at.level) at.inner
    → cells_of top (shape_of t) c ≡ cells_of at.level (shape_of l.tree) at.inner
lands_cell held top c at t l m i =
    let mx = m.x in
    let my = m.y in
    let mz = m.z in
    ap (cells_of top (shape_of t)) (same_cell c _ _ _ (omega arith) (omega arith) (omega arith))
    ∙ l.shows at.inner i

pub lands_clear : (held : List Tree) (top : ℕ) (c : Cell) (at : Landing) (t : Tree)
    → at.block ≡ None → LandsAt held top c at t → (p : Cell) → IsInWorld (block_side at.level) p
    → cells_of top (shape_of t) (from_place (corner_of c at) p) ≡ false
lands_clear held top c at t e l p i =
    l.shows p i ∙ ap (λ (s : Shape). cells_of at.level s p)
    (clear_block held at.level l.tree
    (subst (λ (n : Option Name). IsBlockOf held at.level n l.tree) e l.is_block))
    ∙ has-clear at.level p.x p.y p.z

pub lands_unset : (held : List Tree) (top : ℕ) (c : Cell) (at : Landing) (t : Tree)
    → at.block ≡ None → LandsAt held top c at t → IsAtMost at.inner c
    → IsInWorld (block_side at.level) at.inner → cells_of top (shape_of t) c ≡ false
lands_unset held top c at t e l m i =
    let mx = m.x in
    let my = m.y in
    let mz = m.z in
    ap (cells_of top (shape_of t)) (same_cell c _ _ _ (omega arith) (omega arith) (omega arith))
    ∙ lands_clear held top c at t e l at.inner i

-- the landing's block is clear round the cell
pub clear_land : (held : List Tree) (top : ℕ) (c : Cell) (at : Landing) (b : Boxed) (t : Tree)
    → at.block ≡ None → b ≡ land_of c at → IsAtMost at.inner c
    → IsInWorld (block_side at.level) at.inner → LandsAt held top c at t
    → IsClearRound (block_side top) (cells_of top (shape_of t)) c b
clear_land held top c at b t e is m i l =
    let mx = m.x in
    let my = m.y in
    let mz = m.z in
    let ix = i.x in
    let iy = i.y in
    let iz = i.z in
    let round : IsClearRound (block_side top) (cells_of top (shape_of t)) c (land_of c at) =
    record {
      ends = l.ends;
      around = record {
        x = (omega arith, omega arith);
        y = (omega arith, omega arith);
        z =
            (omega arith, omega arith);
      };
      clear = λ p j.
          let jx = j.x in
          let jy = j.y in
          let jz = j.z in
          let q : Cell =
          cell_at (p.x - (c.x - at.inner.x)) (p.y - (c.y - at.inner.y))
          (p.z - (c.z - at.inner.z)) in
          let within : IsInWorld (block_side at.level) q =
          record { x = omega arith; y = omega arith; z = omega arith } in
          ap (cells_of top (shape_of t))
          (same_cell p _ _ _ (omega arith) (omega arith) (omega arith))
          ∙ lands_clear held top c at t e l q within;
    } in
    subst (λ (v : Boxed). IsClearRound (block_side top) (cells_of top (shape_of t)) c v)
    (sym is) round

-- a cell alone
pub clear_alone : (side : ℕ) (cells : Cell → Bool) (c : Cell) (b : Boxed)
    → b ≡ record { at = c; size = cell_at 1 1 1 } → IsInWorld side c → cells c ≡ false
    → IsClearRound side cells c b
clear_alone side cells c b is i e =
    let ix = i.x in
    let iy = i.y in
    let iz = i.z in
    let round : IsClearRound side cells c (record { at = c; size = cell_at 1 1 1 }) = record {
      ends = record { x = omega arith; y = omega arith; z = omega arith };
      around = record {
        x = (omega arith, omega arith);
        y = (omega arith, omega arith);
        z =
            (omega arith, omega arith);
      };
      clear = λ p q.
          let qx = q.x in
          let qy = q.y in
          let qz = q.z in
          let same : p ≡ c = same_cell p c.x c.y c.z (omega arith) (omega arith) (omega arith) in
          ap cells same ∙ e;
    } in
    subst (λ (v : Boxed). IsClearRound side cells c v) (sym is) round

-- the bit of the landing's leaf tells the cell
pub leaf_cell_is : (a b : StoreState) (top : ℕ) (c : Cell) (at : Landing) (t : Tree) (bits : ℕ)
    (set is : Bool) → b ≡ a → at.level ≡ 0 → IsAtMost at.inner c
    → IsInWorld (block_side at.level) at.inner
    → ((t : Tree) → IsBlockOf b.held 0 at.block t → bits ≡ bits_of (shape_of t))
    → set ≡ (bit_at bits (bit_number at.inner.x at.inner.y at.inner.z) == 1) → set ≡ is
    → LandsAt a.held top c at t → cells_of top (shape_of t) c ≡ is
leaf_cell_is a b top c at t bits set is same z m i told e f l =
    lands_cell a.held top c at t l m i
    ∙ told_leaf b.held at.level at.block bits at.inner set is z told e f l.tree
    (block_still a b at.level at.block l.tree same l.is_block)

pub is_something : (block : Option Name) → is_some block ≡ true → IsSome block
is_something None e = cc
is_something (Some n) e = e
