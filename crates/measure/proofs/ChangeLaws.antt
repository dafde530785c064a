-- What differs in a block, of nothing, of a leaf, of an octant and of a world.
use Rattle.std.proofs.Common.{◌≡◌, ℕ, zero, suc, ◌+◌, ◌-◌, ◌%◌, ◌^◌, ◌<◌, ◌≤◌, Bool, true, false, Some, None, Option, List, refl, sym, ap, subst, ◌∙◌, arith}
use Rattle.std.specs.Prelude.{◌==◌, bit_xor}
use Rattle.std.specs.Int.{bit_at}
use Rattle.std.proofs.lemmas.Nat.Bits.{bit_at_xor, bit_at-lt}
use Rattle.vw_cell.specs.declared.cells.Cell.{Cell}
use Rattle.vw_cell.specs.declared.boxes.Boxed.{Boxed}
use Rattle.vw_cell.specs.Counts.{cell_at}
use Rattle.vw_cell.specs.Extents.{IsExtent}
use Rattle.vw_cell.specs.Places.{block_side}
use Rattle.node_words.specs.declared.shapes.names.Name.{Name}
use Rattle.node_words.specs.shapes.Shape.{Shape, bits_of, bit_number}
use Rattle.node_words.specs.shapes.Tree.{Tree, shape_of, child_of}
use Rattle.node_words.proofs.OfShapes.ShapeLaws.{has-clear}
use Rattle.node_words.proofs.OfShapes.TreeLaws.{shape_of-child}
use Rattle.node_words.specs.Held.{StoreState, AreTrees}
use Rattle.node_words.specs.descent.Roots.{IsBlockOf, IsOctantOf, HasBlock, ForBlock, ForWorld, cells_of}
use Rattle.node_words.specs.descent.Parts.{placed}
use Rattle.node_words.proofs.OfDescent.BlockLaws.{clear_block}
use Rattle.node_words.proofs.OfDescent.LookLaws.{block_still, leaf_tells, placed_set, root_side}
use Rattle.node_words.proofs.OfDescent.PartLaws.{placed_in}
use Rattle.measure.specs.Leaves.{BitsPassTest}
use Rattle.measure.specs.Tallies.{in_octant, PassesNone}
use Rattle.measure.specs.Widening.{Widens, IsSetIn, ShowsPassed}
use Rattle.measure.specs.Changes.{is_other, differs, AreNamed, PassesChanged}
use Rattle.measure.proofs.WideningLaws.{root_extent, shown_root}

never_other : (b : Bool) → is_other b b ≡ false
never_other true = refl
never_other false = refl

-- one name has one shape
same_shape : (held : List Tree) (level : ℕ) (name : Option Name) (t u : Tree) → AreNamed held
    → IsBlockOf held level name t → IsBlockOf held level name u → shape_of t ≡ shape_of u
same_shape held level None t u named o p = clear_block held level t o ∙ sym (clear_block held level u p)
same_shape held level (Some n) t u named o p =
    ap shape_of (named.one t u (o.reached n refl) (p.reached n refl) (o.root ∙ sym p.root))

pub nothing_changed : (held : List Tree) (level : ℕ) (before after : Option Name)
    (test : Cell → Bool) → before ≡ after → PassesChanged held level before after test
    → PassesNone level test
nothing_changed held level before after test e p =
    let there : IsBlockOf held level before p.new =
    subst (λ (n : Option Name). IsBlockOf held level n p.new) (sym e) p.is_after in
    let same : shape_of p.old ≡ shape_of p.new =
    same_shape held level before p.old p.new p.named p.is_before there in
    record {
      each = λ c i. p.shows c i
          ∙ ap (λ (s : Shape). is_other (cells_of level s c) (cells_of level (shape_of p.new) c)) same
          ∙ never_other (cells_of level (shape_of p.new) c);
    }

-- the bits that differ
other_bits : (a b : ℕ) → a < 2 → b < 2 → ((a + b) % 2 == 1) ≡ is_other (a == 1) (b == 1)
other_bits zero zero p q = refl
other_bits zero (suc zero) p q = refl
other_bits (suc zero) zero p q = refl
other_bits (suc zero) (suc zero) p q = refl
other_bits (suc (suc a)) b p q = absurd (omega arith)
other_bits a (suc (suc b)) p q = absurd (omega arith)

pub leaf_changed : (a b : StoreState) (before after : Option Name) (bits bits' : ℕ) (test : Cell → Bool)
    → b ≡ a → ForBlock a.held 0 before (λ s. bits ≡ bits_of s)
    → ForBlock b.held 0 after (λ s. bits' ≡ bits_of s) → PassesChanged a.held 0 before after test
    → BitsPassTest (bit_xor bits bits') test
leaf_changed a b before after bits bits' test e told told' p =
    let old = told p.old p.is_before in
    let new = told' p.new (block_still a b 0 after p.new e p.is_after) in
    record {
      each = λ x y z lx ly lz.
          let n : ℕ = bit_number x y z in
          let c : Cell = cell_at x y z in
          ap (λ (v : ℕ). v == 1) (bit_at_xor bits bits' n)
          ∙ other_bits (bit_at bits n) (bit_at bits' n) (bit_at-lt bits n) (bit_at-lt bits' n)
          ∙ ap (λ (v : Bool). is_other v (bit_at bits' n == 1)) (leaf_tells (shape_of p.old) bits c old)
          ∙ ap (λ (v : Bool). is_other (cells_of 0 (shape_of p.old) c) v)
          (leaf_tells (shape_of p.new) bits' c new)
          ∙ sym (p.shows c (record { x = lx; y = ly; z = lz }));
    }

pub octant_changed : (a b : StoreState) (level k : ℕ) (before after child child' : Option Name)
    (test : Cell → Bool) → b ≡ a → 1 ≤ level → k < 8 → IsOctantOf a.held level before k child
    → IsOctantOf b.held level after k child' → PassesChanged a.held level before after test
    → PassesChanged a.held (level - 1) child child' (in_octant level k test)
octant_changed a b level k before after child child' test e h lt octant octant' p =
    let there = octant' p.new (block_still a b level after p.new e p.is_after) in
    record {
      named = p.named;
      old = child_of p.old k;
      is_before = octant p.old p.is_before;
      new = child_of p.new k;
      is_after = block_still b a (level - 1) child' (child_of p.new k) (sym e) there;
      shows = λ c i. p.shows (placed (block_side (level - 1)) k c) (placed_in level k c h lt i)
          ∙ ap (λ (v : Bool). is_other v
          (cells_of level (shape_of p.new) (placed (block_side (level - 1)) k c)))
          (placed_set level (shape_of p.old) k c h lt i
          ∙ ap (λ (s : Shape). cells_of (level - 1) s c) (sym (shape_of-child p.old k)))
          ∙ ap (λ (v : Bool). is_other (cells_of (level - 1) (shape_of (child_of p.old k)) c) v)
          (placed_set level (shape_of p.new) k c h lt i
          ∙ ap (λ (s : Shape). cells_of (level - 1) s c) (sym (shape_of-child p.new k)));
    }

-- what is told where a node was read
pub are_named : (side : ℕ) (held : List Tree) → AreTrees side held → AreNamed held
are_named side held trees = record { one = trees.named }

-- what differs in a block
block_changed : (held : List Tree) (level : ℕ) (before after : Option Name) (t u : Tree)
    → AreNamed held → IsBlockOf held level before t → IsBlockOf held level after u
    → PassesChanged held level before after
    (differs (cells_of level (shape_of t)) (cells_of level (shape_of u)))
block_changed held level before after t u named o p = record {
  named = named;
  old = t;
  is_before = o;
  new = u;
  is_after = p;
  shows = λ c _. refl;
}

pub some_changed : (a b : StoreState) (level : ℕ) (before after : Option Name) → b ≡ a
    → AreNamed a.held → HasBlock a.held level before → HasBlock a.held level after
    → (test : Cell → Bool) × PassesChanged b.held level before after test
some_changed a b level before after e named h k =
    let test : Cell → Bool =
    differs (cells_of level (shape_of h.tree)) (cells_of level (shape_of k.tree)) in (
      test,
      subst (λ (s : StoreState). PassesChanged s.held level before after test) (sym e)
          (block_changed a.held level before after h.tree k.tree named h.is_block k.is_block),
    )

pub changed_extent : (a b : StoreState) (level : ℕ) (before after : Option Name) (new : Option Boxed)
    → b ≡ a → AreNamed a.held
    → ((cells test : Cell → Bool) → PassesChanged b.held level before after test
    → ShowsPassed (record { level = level; at = cell_at 0 0 0 }) test cells
    → Widens (IsSetIn (record { level = level; at = cell_at 0 0 0 }) cells)
    (IsSetIn (record { level = level; at = cell_at 0 0 0 }) cells) None new)
    → ForBlock a.held level before
    (λ s. ForBlock a.held level after
    (λ u. IsExtent (block_side level) (differs (cells_of level s) (cells_of level u)) new))
changed_extent a b level before after new e named widens t o u p =
    let test : Cell → Bool = differs (cells_of level (shape_of t)) (cells_of level (shape_of u)) in
    let passed : PassesChanged b.held level before after test =
    subst (λ (s : StoreState). PassesChanged s.held level before after test) (sym e)
    (block_changed a.held level before after t u named o p) in
    root_extent (block_side level) level test new refl
    (widens test test passed (shown_root level test))

-- where nothing stood before, all that stands there now differs
pub all_changed : (a b : StoreState) (level : ℕ) (before after : Option Name) (new : Option Boxed)
    → b ≡ a → before ≡ None
    → ForBlock b.held level after (λ u. IsExtent (block_side level) (cells_of level u) new)
    → ForBlock a.held level before
    (λ s. ForBlock a.held level after
    (λ u. IsExtent (block_side level) (differs (cells_of level s) (cells_of level u)) new))
all_changed a b level before after new e none extent t o u p =
    let clear = clear_block a.held level t
    (subst (λ (n : Option Name). IsBlockOf a.held level n t) none o) in
    let each : (c : Cell) → cells_of level (shape_of u) c
    ≡ differs (cells_of level (shape_of t)) (cells_of level (shape_of u)) c =
    λ c. sym (ap (λ (v : Bool). is_other v (cells_of level (shape_of u) c))
    (ap (λ (s : Shape). cells_of level s c) clear ∙ has-clear level c.x c.y c.z)) in
    let same : cells_of level (shape_of u)
    ≡ differs (cells_of level (shape_of t)) (cells_of level (shape_of u)) =
    λ i c. each c i in
    subst (λ (cells : Cell → Bool). IsExtent (block_side level) cells new) same
    (extent u (block_still a b level after u e p))

-- what differs between two roots' blocks differs between their worlds
pub world_changed : (held : List Tree) (level side : ℕ) (before after name name' : Option Name)
    (new : Option Boxed) → level ≡ side - 2 → 2 ≤ side → name ≡ before → name' ≡ after
    → ForBlock held level name
    (λ s. ForBlock held level name'
    (λ u. IsExtent (block_side level) (differs (cells_of level s) (cells_of level u)) new))
    → ForWorld held side before
    (λ old. ForWorld held side after (λ cells. IsExtent (2 ^ side) (differs old cells) new))
world_changed held level side before after name name' new e h n n' extent t o u p =
    let there =
    subst (λ (m : Option Name). IsBlockOf held level m t) (sym n)
    (subst (λ (l : ℕ). IsBlockOf held l before t) (sym e) o) in
    let there' =
    subst (λ (m : Option Name). IsBlockOf held level m u) (sym n')
    (subst (λ (l : ℕ). IsBlockOf held l after u) (sym e) p) in
    let all =
    subst
    (λ (s : ℕ). IsExtent s (differs (cells_of level (shape_of t)) (cells_of level (shape_of u))) new)
    (sym (root_side level side e h)) (extent t there u there') in
    subst
    (λ (l : ℕ). IsExtent (2 ^ side) (differs (cells_of l (shape_of t)) (cells_of l (shape_of u))) new)
    e all
