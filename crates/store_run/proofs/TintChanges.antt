-- Where the tints of two worlds differ: in the cells that differ in some plane of a bit.
use Rattle.std.proofs.Common.{◌≡◌, ℕ, zero, suc, ◌+◌, ◌-◌, ◌*◌, ◌^◌, ◌<◌, ◌≤◌, ◌==◌, ◌⊎◌, inl, inr, Bool, true, false, not, Option, Some, None, List, refl, sym, ◌∙◌, ap, subst, arith}
use Rattle.std.specs.Prelude.{◌||◌}
use Rattle.std.proofs.lemmas.Bool.{cases_eq, eq-eqb, ne_eqb, or_cases, or_left, or_right, or_from, not_from_false, false_from_ne_true}
use Rattle.vw_cell.specs.Sums.{one_if}
use Rattle.vw_cell.specs.declared.boxes.Boxed.{Boxed}
use Rattle.vw_cell.specs.declared.cells.Cell.{Cell}
use Rattle.vw_cell.specs.Counts.{cell_at}
use Rattle.vw_cell.specs.Extents.{HoldsAll, LiesWithin, IsLeastBox, IsExtent}
use Rattle.vw_cell.specs.Places.{IsInBox, IsInWorld, block_side}
use Rattle.history_model.specs.Tints.{Tints}
use Rattle.history_model.specs.Worlds.{World}
use Rattle.node_words.specs.declared.shapes.names.Name.{Name}
use Rattle.node_words.specs.shapes.Tree.{Tree, child_of, shape_of}
use Rattle.node_words.specs.Held.{StoreState}
use Rattle.node_words.specs.contents.CellShapes.{bits_below}
use Rattle.node_words.specs.descent.Parts.{EndsBy}
use Rattle.node_words.specs.descent.Roots.{IsBlockOf, IsOctantOf, HasBlock, HoldsRoot, ForBlock, ForWorld, cells_of}
use Rattle.node_words.proofs.OfContents.LeafBits.{bits_below-small}
use Rattle.node_words.proofs.OfDescent.BlockLaws.{root_block}
use Rattle.node_words.proofs.OfDescent.LookLaws.{root_side}
use Rattle.measure.specs.Changes.{is_other, differs}
use Rattle.measure.specs.Widening.{EndsInside}
use Rattle.core_laws.specs.contents.Versions.{SameWorld}
use Rattle.core_laws.specs.tints.Planes.{tint_in}
use Rattle.colour.specs.Layers.{ForRoot, bit_cells}
use Rattle.colour.proofs.LayerLaws.{tint_read}
use Rattle.colour.proofs.Quarters.{quarter_bounds}
use Rattle.act_rebuilds.proofs.OfQuestions.SameTells.{extent_same}
use Rattle.store_run.specs.TintChanges.{tints_differ, in_some, HasBoth, IsJoined, IsStretchOf}

-- ---- one plane

-- what stands in the plane of a bit
pub plane_block : (a b : StoreState) (side level bit : ℕ) (root name half block : Option Name)
    → 4 ≤ side → level ≡ side - 2 → name ≡ root → b ≡ a
    → IsOctantOf a.held level name 1 half → IsOctantOf b.held (level - 1) half bit block
    → ForRoot a.held side root
    (λ t. IsBlockOf a.held (side - 2 - 2) block (child_of (child_of t 1) bit))
plane_block a b side level bit root name half block large is_level n same first second t o =
    let top : IsBlockOf a.held level name t =
    subst (λ (l : ℕ). IsBlockOf a.held l name t) (sym is_level)
    (subst (λ (m : Option Name). IsBlockOf a.held (side - 2) m t) (sym n) o) in
    let low : IsBlockOf b.held (level - 1 - 1) block (child_of (child_of t 1) bit) =
    second (child_of t 1)
    (subst (λ (s : StoreState). IsBlockOf s.held (level - 1) half (child_of t 1)) (sym same)
    (first t top)) in
    let down : level - 1 - 1 ≡ side - 2 - 2 = omega arith in
    subst (λ (s : StoreState). IsBlockOf s.held (side - 2 - 2) block (child_of (child_of t 1) bit))
    same (subst (λ (l : ℕ). IsBlockOf b.held l block (child_of (child_of t 1) bit)) down low)

pub plane_held : (a c : StoreState) (side level bit : ℕ) (root plane : Option Name)
    → level ≡ side - 2 → c ≡ a → HoldsRoot a.held side root
    → ForRoot a.held side root
    (λ t. IsBlockOf a.held (side - 2 - 2) plane (child_of (child_of t 1) bit))
    → HasBlock c.held (level - 2) plane
plane_held a c side level bit root plane is_level same holds of_plane =
    let there = root_block a.held side root holds in
    subst (λ (s : StoreState). HasBlock s.held (level - 2) plane) (sym same)
    (subst (λ (l : ℕ). HasBlock a.held (l - 2) plane) (sym is_level) (record {
      tree = child_of (child_of there.tree 1) bit;
      is_block = of_plane there.tree there.is_block;
    }))

pub plane_changes : (a b c : StoreState) (side level bit : ℕ) (before after old new : Option Name)
    (found : Option Boxed) → 4 ≤ side → level ≡ side - 2 → b ≡ a → c ≡ b
    → ForRoot a.held side before
    (λ s. IsBlockOf a.held (side - 2 - 2) old (child_of (child_of s 1) bit))
    → ForRoot b.held side after
    (λ t. IsBlockOf b.held (side - 2 - 2) new (child_of (child_of t 1) bit))
    → ForBlock c.held (level - 2) old (λ s. ForBlock c.held (level - 2) new (λ u.
    IsExtent (block_side (level - 2)) (differs (cells_of (level - 2) s) (cells_of (level - 2) u))
    found))
    → ForRoot a.held side before (λ s. ForRoot a.held side after (λ t.
    IsExtent (2 ^ (side - 2)) (differs (bit_cells side s bit) (bit_cells side t bit)) found))
plane_changes a b c side level bit before after old new found large is_level same again of_old of_new
    told s o t p =
    let low : ℕ = side - 2 - 2 in
    let inner : Tree → Tree = λ u. child_of (child_of u 1) bit in
    let first : IsBlockOf c.held low old (inner s) =
    subst (λ (z : StoreState). IsBlockOf z.held low old (inner s)) (sym (again ∙ same)) (of_old s o) in
    let second : IsBlockOf c.held low new (inner t) =
    subst (λ (z : StoreState). IsBlockOf z.held low new (inner t)) (sym again)
    (of_new t (subst (λ (z : StoreState). IsBlockOf z.held (side - 2) after t) (sym same) p)) in
    let told_low : ForBlock c.held low old (λ x. ForBlock c.held low new (λ y.
    IsExtent (block_side low) (differs (cells_of low x) (cells_of low y)) found)) =
    subst (λ (l : ℕ). ForBlock c.held (l - 2) old (λ x. ForBlock c.held (l - 2) new (λ y.
    IsExtent (block_side (l - 2)) (differs (cells_of (l - 2) x) (cells_of (l - 2) y)) found)))
    is_level told in
    subst (λ (n : ℕ). IsExtent n (differs (bit_cells side s bit) (bit_cells side t bit)) found)
    (sym (root_side low (side - 2) refl (omega (arith, large))))
    (told_low (inner s) first (inner t) second)

-- ---- boxes joined

whole_holds : (n : ℕ) (p : World)
    → HoldsAll n p (record { at = cell_at 0 0 0; size = cell_at n n n })
whole_holds n p = record {
  each = λ c i set. record {
    x = (omega arith, omega (arith, i.x));
    y = (omega arith, omega (arith, i.y));
    z = (omega arith, omega (arith, i.z));
  };
}

-- a least box ends where the world does
pub extent_ends : (n : ℕ) (p : World) (found : Option Boxed) → n ≤ 4096 → IsExtent n p found
    → EndsInside found
extent_ends n p None small e = tt
extent_ends n p (Some b) small e =
    let l = e.least (record { at = cell_at 0 0 0; size = cell_at n n n }) (whole_holds n p) in
    record {
      x = omega (arith, l.x.1, small);
      y = omega (arith, l.y.1, small);
      z = omega (arith, l.z.1, small);
    }

in_first : (a b least : Boxed) (c : Cell) → HasBoth a b least → IsInBox a c → IsInBox least c
in_first a b least c h i = record {
  x = (omega (arith, h.x.begins, i.x.0), omega (arith, h.x.begins, h.x.ends, i.x.1));
  y = (omega (arith, h.y.begins, i.y.0), omega (arith, h.y.begins, h.y.ends, i.y.1));
  z = (omega (arith, h.z.begins, i.z.0), omega (arith, h.z.begins, h.z.ends, i.z.1));
}

in_second : (a b least : Boxed) (c : Cell) → HasBoth a b least → IsInBox b c → IsInBox least c
in_second a b least c h i = record {
  x = (omega (arith, h.x.begins, i.x.0), omega (arith, h.x.begins, h.x.ends, i.x.1));
  y = (omega (arith, h.y.begins, i.y.0), omega (arith, h.y.begins, h.y.ends, i.y.1));
  z = (omega (arith, h.z.begins, i.z.0), omega (arith, h.z.begins, h.z.ends, i.z.1));
}

both_within : (a b least d : Boxed) → HasBoth a b least → LiesWithin a d → LiesWithin b d
    → LiesWithin least d
both_within a b least d h p q = record {
  x = (omega (arith, h.x.begins, p.x.0, q.x.0), omega (arith, h.x.ends, p.x.1, q.x.1));
  y = (omega (arith, h.y.begins, p.y.0, q.y.0), omega (arith, h.y.ends, p.y.1, q.y.1));
  z = (omega (arith, h.z.begins, p.z.0, q.z.0), omega (arith, h.z.ends, p.z.1, q.z.1));
}

module _ (n : ℕ) (p q : World) where
  abbrev either : World
  either c = q c || p c

  both_least : (a b least : Boxed) → HasBoth a b least → IsLeastBox n p a → IsLeastBox n q b
      → IsLeastBox n either least
  both_least a b least h e f = record {
    some = e.some;
    inside = e.inside;
    set = or_right (q e.some) (p e.some) e.set;
    holds = record {
      each = λ c i set. elim (or_cases (q c) (p c) set) [
        | inl second ↦ in_second a b least c h (f.holds.each c i second)
        | inr first ↦ in_first a b least c h (e.holds.each c i first)
      ];
    };
    least = λ d all. both_within a b least d h
        (e.least d (record { each = λ c i set. all.each c i (or_right (q c) (p c) set) }))
        (f.least d (record { each = λ c i set. all.each c i (or_left (q c) (p c) set) }));
  }

  none_else : (x y : Bool) → y ≡ false → x ≡ (x || y)
  none_else true y e = refl
  none_else false y e = sym e

  -- what counts in either has the joined box as its least one
  pub joined_extent : (a b least : Option Boxed) → IsJoined a b least → IsExtent n p a
      → IsExtent n q b → IsExtent n either least
  joined_extent None b least is e f =
      subst (λ (r : Option Boxed). IsExtent n either r) (sym is)
      (extent_same n q either (record { each = λ c i. none_else (q c) (p c) (e c i) }) b f)
  joined_extent (Some a) None least is e f =
      subst (λ (r : Option Boxed). IsExtent n either r) (sym is)
      (extent_same n p either
      (record { each = λ c i. ap (λ (x : Bool). x || p c) (sym (f c i)) }) (Some a) e)
  joined_extent (Some a) (Some b) None is e f = absurd is
  joined_extent (Some a) (Some b) (Some least) h e f = both_least a b least h e f

-- ---- bits and numbers

-- one bit more
one_more : (a b : Bool) (m x y : ℕ) (d : Bool) → x < m → y < m → d ≡ not (x == y)
    → (is_other a b || d) ≡ not (one_if a * m + x == one_if b * m + y)
one_more true true m x y d lx ly e = elim (cases_eq x y) [
  | inl same ↦ e ∙ ap not (eq-eqb x y same
      ∙ sym (eq-eqb (1 * m + x) (1 * m + y) (omega (arith, same))))
  | inr other ↦ e ∙ ap not (ne_eqb x y other
      ∙ sym (ne_eqb (1 * m + x) (1 * m + y) (λ z. other (omega (arith, z)))))
]
one_more false false m x y d lx ly e = elim (cases_eq x y) [
  | inl same ↦ e ∙ ap not (eq-eqb x y same
      ∙ sym (eq-eqb (0 * m + x) (0 * m + y) (omega (arith, same))))
  | inr other ↦ e ∙ ap not (ne_eqb x y other
      ∙ sym (ne_eqb (0 * m + x) (0 * m + y) (λ z. other (omega (arith, z)))))
]
one_more true false m x y d lx ly e =
    ap not (sym (ne_eqb (1 * m + x) (0 * m + y) (λ z. omega (arith, z, ly))))
one_more false true m x y d lx ly e =
    ap not (sym (ne_eqb (0 * m + x) (1 * m + y) (λ z. omega (arith, z, lx))))

-- numbers differ where some bit does
pub numbers_differ : (f g : ℕ → Cell → Bool) (c : Cell) (n : ℕ)
    → in_some (λ k. differs (f k) (g k)) n c
    ≡ not (bits_below (λ k. f k c) n == bits_below (λ k. g k c) n)
unfolding bits_below
numbers_differ f g c zero = refl
numbers_differ f g c (suc n) =
    one_more (f n c) (g n c) (2 ^ n) (bits_below (λ k. f k c) n) (bits_below (λ k. g k c) n)
    (in_some (λ k. differs (f k) (g k)) n c) (bits_below-small (λ k. f k c) n)
    (bits_below-small (λ k. g k c) n) (numbers_differ f g c n)

-- the extents of the first planes, one after another
abbrev pub plane_differs : ℕ → Tree → Tree → ℕ → World
plane_differs side s t bit = differs (bit_cells side s bit) (bit_cells side t bit)

pub none_yet : (n side : ℕ) (s t : Tree) → IsExtent n (in_some (plane_differs side s t) 0) None
none_yet n side s t = λ c i. refl

pub more_planes : (n side bit : ℕ) (s t : Tree) (found more least : Option Boxed)
    → IsExtent n (in_some (plane_differs side s t) bit) found
    → IsExtent n (plane_differs side s t bit) more → IsJoined found more least
    → IsExtent n (in_some (plane_differs side s t) (bit + 1)) least
more_planes n side bit s t found more least so_far here joins =
    let next : suc bit ≡ bit + 1 = omega arith in
    subst (λ (k : ℕ). IsExtent n (in_some (plane_differs side s t) k) least) next
    (joined_extent n (in_some (plane_differs side s t) bit) (plane_differs side s t bit) found more
    least joins so_far here)

-- all eight tell where the tints differ
pub all_planes : (side : ℕ) (s t : Tree) (found : Option Boxed) → 4 ≤ side
    → IsExtent (2 ^ (side - 2)) (in_some (plane_differs side s t) 8) found
    → IsExtent (2 ^ (side - 2))
    (tints_differ (tint_in (2 ^ (side - 2)) (cells_of (side - 2) (shape_of s)))
    (tint_in (2 ^ (side - 2)) (cells_of (side - 2) (shape_of t)))) found
all_planes side s t found large e =
    extent_same (2 ^ (side - 2)) (in_some (plane_differs side s t) 8)
    (tints_differ (tint_in (2 ^ (side - 2)) (cells_of (side - 2) (shape_of s)))
    (tint_in (2 ^ (side - 2)) (cells_of (side - 2) (shape_of t))))
    (record {
      each = λ c i.
          numbers_differ (bit_cells side s) (bit_cells side t) c 8
          ∙ ap (λ (x : ℕ). not (x == bits_below (λ bit. bit_cells side t bit c) 8))
          (tint_read side s c _ large i refl)
          ∙ ap (λ (x : ℕ). not (tint_in (2 ^ (side - 2)) (cells_of (side - 2) (shape_of s)) c == x))
          (tint_read side t c _ large i refl);
    }) found e

-- a plane isn't greater than the greatest world
pub small_plane : (side exponent : ℕ) → 4 ≤ side → exponent ≡ side → exponent ≤ 12
    → 2 ^ (side - 2) ≤ 4096
small_plane side exponent large is small =
    let b = quarter_bounds side large (omega (arith, is, small)) in
    omega (arith, b.1)
