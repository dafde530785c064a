-- Laws of what is held, and of what is reached from it.
use Rattle.std.proofs.Common.{◌≡◌, ℕ, zero, suc, ◌+◌, ◌-◌, ◌<◌, ◌≤◌, Some, None, Option, List, refl, sym, ◌∙◌, ap, subst, arith}
use Rattle.node_words.specs.declared.shapes.names.Name.{Name}
use Rattle.node_words.specs.shapes.Shape.{IsCanonical, branch_of}
use Rattle.node_words.specs.shapes.Tree.{Tree, Gone, root_of, child_of, shape_of, IsSubtree, LeafAt, NodeAt, itself, below, IsTreeAt}
use Rattle.node_words.specs.shapes.Weights.{weigh, number_of_trees}
use Rattle.node_words.proofs.OfShapes.ShapeLaws.{branch_canonical, clear_canonical}
use Rattle.node_words.proofs.OfShapes.WeightLaws.{weight_of-there, weight_below-part}
use Rattle.node_words.proofs.OfShapes.TreeLaws.{stands_child, level_of, IsTreeAt-child, IsTreeAt-below, child_of-gone, gone_from_root, shape_of-some, shape_of-gone}
use Rattle.node_words.specs.Held.{SameHeld, StoreState, IsHeld, IsReached, HoldsName, ReachesName, Gains, OnlyHeldChanges, AreTrees, AreCanonical, AreHeld, AreBelow, HasChild, name_in}

-- all that a holds, b holds too, as often
pub record Keeps (a b : List Tree) : Type 0 where
  pub weighs : (f : Tree → ℕ) → weigh f a ≤ weigh f b

pub keeps_itself : (a : List Tree) → Keeps a a
keeps_itself a = record { weighs = λ f. omega arith }

pub keeps_on : (a b c : List Tree) → Keeps a b → Keeps b c → Keeps a c
keeps_on a b c p q = record { weighs = λ f. omega (arith, p.weighs f, q.weighs f) }

pub gains_keeps : (old : List Tree) (t : Tree) (new : List Tree) → Gains old t new → Keeps old new
gains_keeps old t new g = record { weighs = λ f. omega (arith, g.weighs f) }

pub held_more : (a b : List Tree) (t : Tree) → Keeps a b → IsHeld a t → IsHeld b t
held_more a b t k h = record { weighs = λ f. omega (arith, k.weighs f, h.weighs f) }

pub reached_more : (a b : List Tree) (t : Tree) → Keeps a b → IsReached a t → IsReached b t
reached_more a b t k r =
    record { over = r.over; is_held = held_more a b r.over k r.is_held; stands = r.stands }

pub reaches_more : (a b : List Tree) (n : Name) → Keeps a b → ReachesName a n → ReachesName b n
reaches_more a b n k r =
    record { tree = r.tree; reached = reached_more a b r.tree k r.reached; root = r.root }

pub gains_held : (old : List Tree) (t : Tree) (new : List Tree) → Gains old t new → IsHeld new t
gains_held old t new g = record { weighs = λ f. omega (arith, g.weighs f) }

pub gains_number : (old : List Tree) (t : Tree) (new : List Tree) → Gains old t new
    → number_of_trees new ≡ number_of_trees old + 1
gains_number old t new g = omega (arith, g.weighs (λ _. 1))

-- something is held, so the number isn't 0
pub held_number : (held : List Tree) (t : Tree) → IsHeld held t → 1 ≤ number_of_trees held
held_number held t h = h.weighs (λ _. 1)

pub held_reached : (held : List Tree) (t : Tree) → IsHeld held t → IsReached held t
held_reached held t h = record { over = t; is_held = h; stands = itself }

pub holds_reaches : (held : List Tree) (n : Name) → HoldsName held n → ReachesName held n
holds_reaches held n h =
    record { tree = h.tree; reached = held_reached held h.tree h.is_held; root = h.root }

-- the octants of what is reached are reached
pub reached_child : (held : List Tree) (t : Tree) (k : ℕ) → IsReached held t
    → IsReached held (child_of t k)
reached_child held t k r =
    record { over = r.over; is_held = r.is_held; stands = stands_child k r.stands }

pub reaches_child : (held : List Tree) (t : Tree) (k : ℕ) (n : Name) → IsReached held t
    → root_of (child_of t k) ≡ Some n → ReachesName held n
reaches_child held t k n r e =
    record { tree = child_of t k; reached = reached_child held t k r; root = e }

pub only_nothing : (a : StoreState) → OnlyHeldChanges a a
only_nothing a = record { plan = refl; made = refl; met = refl }

pub only_on : (a b c : StoreState) → OnlyHeldChanges a b → OnlyHeldChanges b c → OnlyHeldChanges a c
only_on a b c p q = record { plan = q.plan ∙ p.plan; made = q.made ∙ p.made; met = q.met ∙ p.met }

-- nothing stands below a leaf
leaf_octants : (t : Tree) (k : ℕ) → IsTreeAt 0 t → child_of t k ≡ Gone
unfolding IsTreeAt
leaf_octants Gone k h = child_of-gone k
leaf_octants (LeafAt n b) zero h = refl
leaf_octants (LeafAt n b) (suc k) h = refl
leaf_octants (NodeAt n a b c d e f g i) k h = absurd h

in_gone : {u t : Tree} → IsSubtree u t → t ≡ Gone → u ≡ Gone
in_gone itself e = e
in_gone (below k s) e = in_gone s (ap (λ t. child_of t k) e ∙ child_of-gone k)

-- u's name is one of the world's, and u has the levels of its depths
pub record Stands (side : ℕ) (u : Tree) (n : Name) : Type 0 where
  pub levels : IsTreeAt n.level u
  pub in_world : n.level + 2 ≤ side

stands_levels : (side level : ℕ) (u t : Tree) (n : Name) → level + 2 ≤ side → IsTreeAt level t
    → IsSubtree u t → root_of u ≡ Some n → Stands side u n
stands_levels side level u t n h a itself e =
    let q = level_of level t n a e in record
    { levels = subst (λ (l : ℕ). IsTreeAt l t) (sym q) a; in_world = omega arith }
stands_levels side zero u t n h a (below k s) e =
    let g = in_gone s (leaf_octants t k a) in let none : None ≡ Some n = ap root_of (sym g)
    ∙ e in cc
stands_levels side (suc level) u t n h a (below k s) e =
    stands_levels side level u (child_of t k) n (omega arith) (IsTreeAt-child level t k a) s e

-- whatever is reached has the levels of its depths
pub reached_levels : (side : ℕ) (held : List Tree) (u : Tree) (n : Name) → AreTrees side held
    → IsReached held u → root_of u ≡ Some n → Stands side u n
reached_levels side held u n a r e =
    let t = a.each r.over r.is_held in stands_levels side t.name.level u r.over n t.in_world t.levels r.stands e

-- a child's level is the one below
pub child_level : (side : ℕ) (held : List Tree) (t : Tree) (k : ℕ) (n m : Name) → AreTrees side held
    → IsReached held t → root_of t ≡ Some n → root_of (child_of t k) ≡ Some m → 1 ≤ n.level
    → m.level + 1 ≡ n.level
child_level side held t k n m a r e q h =
    let s = reached_levels side held t n a r e in
    omega (arith, level_of (n.level - 1) (child_of t k) m (IsTreeAt-below n.level t k h s.levels) q)

-- what came is held under its name
pub gains_holds : (old : List Tree) (t : Tree) (new : List Tree) (n : Name) → Gains old t new
    → root_of t ≡ Some n → HoldsName new n
gains_holds old t new n g e = record { tree = t; is_held = gains_held old t new g; root = e }

-- what came and went
pub came_and_went : (old mid new : List Tree) (t : Tree) → Gains old t mid → Gains new t mid
    → SameHeld old new
came_and_went old mid new t g h = record { weighs = λ f. omega (arith, g.weighs f, h.weighs f) }

pub same_on : (a b c : List Tree) → SameHeld a b → SameHeld b c → SameHeld a c
same_on a b c p q = record { weighs = λ f. omega (arith, p.weighs f, q.weighs f) }

pub same_number : (a b : List Tree) → SameHeld a b → number_of_trees b ≡ number_of_trees a
same_number a b p = p.weighs (λ _. 1)

-- a child of a row that is held
pub row_held : (held : List Tree) (children : List (Option Name)) (row : ℕ → Tree) (k : ℕ)
    (n : Name) → AreHeld held children row → k < 8 → root_of (row k) ≡ Some n → IsHeld held (row k)
row_held held children row k n a lt e =
    record {
      weighs = λ f. omega
          (arith, a.weighs f, weight_below-part f row k 8 lt, weight_of-there f (row k) n e);
    }

octant_canonical : (held : List Tree) (level : ℕ) (t : Tree) (child : Option Name)
    → AreCanonical held → root_of t ≡ child
    → ((n : Name) → child ≡ Some n → IsHeld held t × (n.level ≡ level))
    → IsCanonical level (shape_of t)
octant_canonical held level t None c e h =
    rw (gone_from_root t e, shape_of-gone) (clear_canonical level)
octant_canonical held level t (Some n) c e h =
    let (there, at) = h n refl in subst (λ (l : ℕ). IsCanonical l (shape_of t)) at
    (c.each t n there e)

-- a node over children that are held has a canonical shape
pub children_canonical : (level : ℕ) (held : List Tree) (children : List (Option Name))
    (row : ℕ → Tree) → AreCanonical held → 1 ≤ level → HasChild children → AreBelow level children
    → AreHeld held children row → IsCanonical level (branch_of (λ k. shape_of (row k)))
children_canonical zero held children row c above some low a = absurd (omega arith)
children_canonical (suc level) held children row c above some low a =
    branch_canonical level (λ k. shape_of (row k)) some.octant some.below
    (shape_of-some (row some.octant) (λ e. some.there (sym (a.names some.octant some.below) ∙ e)))
    (λ k lt. octant_canonical held level (row k) (name_in children k) c (a.names k lt) (λ n e.
    (row_held held children row k n a lt (a.names k lt ∙ e), omega (arith, low.each k n lt e))))
