-- Laws of gathering the octants of a block: one more octant, all of them in a node, and all given
-- back.
use Rattle.std.proofs.Common.{◌≡◌, ◌≢◌, ℕ, suc, ◌+◌, ◌-◌, ◌<◌, ◌≤◌, Some, None, Option, List, ◌∷◌, length, set, refl, sym, ◌∙◌, ap, subst, arith, inl, inr, add-one, get_or-set_other, get_or-set_same}
use Rattle.std.proofs.lemmas.Bool.{cases_eq}
use Rattle.node_words.specs.declared.shapes.names.Name.{Name}
use Rattle.node_words.specs.shapes.Shape.{Shape, Clear, octant_shape, branch_of, IsPart, whole, within}
use Rattle.node_words.specs.shapes.Tree.{Tree, Gone, LeafAt, node_at, root_of, child_of, shape_of}
use Rattle.node_words.specs.shapes.Weights.{weigh, number_of_trees, put_row}
use Rattle.node_words.specs.shapes.Shape as shape
use Rattle.node_words.proofs.OfShapes.TreeLaws.{root_from_child, IsTreeAt-below, level_of, gone_at, leaf_at, node_levels, shape_of-leaf, shape_of-node}
use Rattle.node_words.proofs.OfShapes.WeightLaws.{weight_of-gone, weight_of-there, weight_below-part, weight_below-put, weight_below-one, put_row-same, put_row-other}
use Rattle.node_words.specs.Plans.{Layout}
use Rattle.node_words.specs.Held.{StoreState, IsSought, AreHeld, AreBelow, Gains, Joins, Grants, OnlyHeldChanges, OnlyMeets, name_in}
use Rattle.node_words.specs.Gathering.{IsTreeOf, GainsShare, MayHold, Loses, LosesAll, Grew, unchanged, one, Grows, Fails, Gathered}
use Rattle.node_words.proofs.HeldLaws.{Keeps, reached_more, reached_child}

-- a tree of a block stays one where more is held
pub tree_of-more : (a b : List Tree) (level : ℕ) (t : Tree) (name : Option Name) → Keeps a b
    → IsTreeOf a level t name → IsTreeOf b level t name
tree_of-more a b level t name h r =
    record {
      root = r.root;
      reached = λ n e. reached_more a b t h
          (r.reached n e);
      levels = r.levels;
    }

-- the octant of a tree of a block is one of the block's octant
pub tree_of-child : (held : List Tree) (level : ℕ) (t : Tree) (name : Option Name) (k : ℕ)
    → 1 ≤ level → IsTreeOf held level t name
    → IsTreeOf held (level - 1) (child_of t k) (root_of (child_of t k))
tree_of-child held level t name k h r = record {
  root = refl;
  reached = λ n e. let (m, q) = root_from_child t k n e in reached_child held t k
      (r.reached m (sym r.root ∙ q));
  levels = IsTreeAt-below level t k h r.levels;
}

-- a share that came is held
pub comes_held : (old new : List Tree) (level : ℕ) (s : Shape) (name : Option Name)
    → (c : GainsShare old level s name new) → MayHold new c.tree
comes_held old new level s name c = record { weighs = λ f. omega (arith, c.weighs f) }

pub leaf_comes : (old new : List Tree) (bits : ℕ) (n : Name) → n.level ≡ 0
    → Gains old (LeafAt n bits) new → GainsShare old 0 (shape.Leaf bits) (Some n) new
leaf_comes old new bits n e g =
    record { tree = LeafAt n bits; root = refl; levels = leaf_at n bits e; shape = shape_of-leaf n bits; weighs = λ f. omega (arith, g.weighs f, weight_of-there f (LeafAt n bits) n refl) }

pub none_gathered : (old : List Tree) (level : ℕ) (target : Shape) (children : List (Option Name))
    → ((k : ℕ) → name_in children k ≡ None) → Gathered old level target children 0 old
none_gathered old level target children h = record {
  row = λ k. Gone;
  names = λ k. sym (h k);
  levels = λ k. gone_at level;
  shapes = λ k lt. absurd (omega arith);
  gone = λ k le. refl;
  weighs = λ f. omega (arith, weight_of-gone f Gone refl);
}

-- one more octant
pub one_gathered : (old mid new : List Tree) (level : ℕ) (target : Shape)
    (cs ds : List (Option Name)) (k : ℕ) (name : Option Name) → k < 8 → length cs ≡ 8
    → Gathered old level target cs k mid → GainsShare mid level (octant_shape target k) name new
    → ds ≡ set cs k name → Gathered old level target ds (k + 1) new
one_gathered old mid new level target cs ds k name lt e a c d =
    let inside : k < length cs = omega arith in
    record {
      row = put_row a.row k c.tree;
      names = λ j. elim (cases_eq j k) [
        | inl q ↦ rw (q, d, get_or-set_same cs k name None inside)
            (rw (put_row-same a.row k c.tree) c.root)
        | inr q ↦ rw (d, get_or-set_other cs k j name None q)
            (rw (put_row-other a.row k c.tree j q) (a.names j))
      ];
      levels = λ j. elim (cases_eq j k) [
        | inl q ↦ rw (q, put_row-same a.row k c.tree) c.levels
        | inr q ↦ rw (put_row-other a.row k c.tree j q) (a.levels j)
      ];
      shapes = λ j h. elim (cases_eq j k) [
        | inl q ↦ rw (q, put_row-same a.row k c.tree) c.shape
        | inr q ↦ rw (put_row-other a.row k c.tree j q) (a.shapes j (omega arith))
      ];
      gone = λ j h. let ne : j ≢ k = omega arith in rw (put_row-other a.row k c.tree j ne)
          (a.gone j (omega arith));
      weighs = λ f. omega (
        arith,
        a.weighs f,
        c.weighs f,
        weight_below-put f a.row k c.tree 8 lt,
        weight_of-gone f
            (a.row k) (ap root_of (a.gone k (omega arith))),
      );
    }

pub gathered_held : (old mid new : List Tree) (level : ℕ) (target : Shape) (cs : List (Option Name))
    (n : ℕ) → (a : Gathered old level target cs n mid) → Keeps mid new → AreHeld new cs a.row
gathered_held old mid new level target cs n a h =
    record { names = λ k lt. a.names k; weighs = λ f. omega (arith, a.weighs f, h.weighs f) }

pub gathered_number : (old mid : List Tree) (level : ℕ) (target : Shape) (cs : List (Option Name))
    (n : ℕ) → Gathered old level target cs n mid → number_of_trees mid ≤ number_of_trees old + 8
gathered_number old mid level target cs n a =
    omega (arith, a.weighs (λ _. 1), weight_below-one a.row 8)

pub gathered_below : (old mid : List Tree) (level : ℕ) (target : Shape) (cs : List (Option Name))
    (n : ℕ) → Gathered old level target cs n mid → AreBelow (suc level) cs
gathered_below old mid level target cs n a =
    record {
      each = λ k n lt e. omega
          (arith, level_of level (a.row k) n (a.levels k) (a.names k ∙ e));
    }

branch-same : (row other : ℕ → Shape) → ((k : ℕ) → k < 8 → row k ≡ other k)
    → branch_of row ≡ branch_of other
branch-same row other h =
    cc (
      h 0 (omega arith),
      h 1 (omega arith),
      h 2 (omega arith),
      h 3 (omega arith),
      h 4
          (omega arith),
      h 5 (omega arith),
      h 6 (omega arith),
      h 7 (omega arith),
    )

-- what was gathered is the target
pub gathered_shape : (old mid : List Tree) (level : ℕ) (target : Shape) (cs : List (Option Name))
    → branch_of (λ k. octant_shape target k) ≡ target → (a : Gathered old level target cs 8 mid)
    → branch_of (λ k. shape_of (a.row k)) ≡ target
gathered_shape old mid level target cs e a =
    branch-same (λ k. shape_of (a.row k)) (λ k. octant_shape target k) a.shapes ∙ e

-- all octants went into a node
pub node_comes : (old mid new : List Tree) (level : ℕ) (target : Shape) (cs : List (Option Name))
    (n : Name) → branch_of (λ k. octant_shape target k) ≡ target → n.level ≡ suc level
    → (a : Gathered old level target cs 8 mid) → Joins mid a.row n new
    → GainsShare old (suc level) target (Some n) new
node_comes old mid new level target cs n e l a j = record {
  tree = node_at n a.row;
  root = refl;
  levels = node_levels level n a.row l (λ k lt. a.levels k);
  shape = shape_of-node n a.row ∙ gathered_shape old mid level target cs e a;
  weighs = λ f. omega (arith, j.weighs f, a.weighs f, weight_of-there f (node_at n a.row) n refl);
}

pub lose_none : (held : List Tree) (row : ℕ → Tree) → LosesAll held row 0 held
lose_none held row = record { weighs = λ f. omega arith }

pub lose_more : (old mid new : List Tree) (row : ℕ → Tree) (k : ℕ) → LosesAll old row k mid
    → Loses mid (row k) new → LosesAll old row (k + 1) new
lose_more old mid new row k a b =
    rw add-one (record { weighs = λ f. omega (arith, a.weighs f, b.weighs f) })

-- what is left of a row is held
pub may_next : (old mid : List Tree) (children : List (Option Name)) (row : ℕ → Tree) (k : ℕ)
    → AreHeld old children row → k < 8 → LosesAll old row k mid → MayHold mid (row k)
may_next old mid children row k a h b =
    record { weighs = λ f. omega (arith, a.weighs f, b.weighs f, weight_below-part f row k 8 h) }

pub fewer : (old mid : List Tree) (row : ℕ → Tree) (k : ℕ) → LosesAll old row k mid
    → number_of_trees mid ≤ number_of_trees old
fewer old mid row k b = omega (arith, b.weighs (λ _. 1))

-- a share given back
pub back_loses : (old new : List Tree) (t : Tree) (n : Name) → root_of t ≡ Some n → Gains new t old
    → Loses old t new
back_loses old new t n e g =
    record { weighs = λ f. omega (arith, g.weighs f, weight_of-there f t n e) }

pub none_loses : (held : List Tree) (t : Tree) → root_of t ≡ None → Loses held t held
none_loses held t e = record { weighs = λ f. omega (arith, weight_of-gone f t e) }

pub after_taken : (xs ys : List (Option Name)) (k j : ℕ) → ys ≡ set xs k None → j ≢ k
    → name_in ys j ≡ name_in xs j
after_taken xs ys k j e ne = rw e (get_or-set_other xs k j None None ne)

pub none_taken : (xs ys : List (Option Name)) (k : ℕ) → ys ≡ set xs k None → k < length xs
    → name_in ys k ≡ None
none_taken xs ys k e h = rw e (get_or-set_same xs k None None h)

pub grew_more : {A : Type 0} {P : A → Type 0} {a b c : List A} → Grew P a b → Grew P b c
    → Grew P a c
grew_more p unchanged = p
grew_more p (one x q) = one x (grew_more p q)

pub grew_into : {A : Type 0} {P Q : A → Type 0} {a b : List A} → ((x : A) → P x → Q x) → Grew P a b
    → Grew Q a b
grew_into h unchanged = unchanged
grew_into h (one x q) = one (h _ x) (grew_into h q)

pub grows_none : (target : Shape) (a : StoreState) → Grows target a a
grows_none target a = record { plan = refl; made = unchanged; met = refl }

pub grows_held : (target : Shape) (a b c : StoreState) → Grows target a b → OnlyHeldChanges b c
    → Grows target a c
grows_held target a b c p q =
    record {
      plan = q.plan
          ∙ p.plan;
      made = subst (λ m. Grew (λ x. IsPart x target) a.made m)
          (sym q.made) p.made;
      met = q.met ∙ p.met;
    }

-- an octant grew
pub grows_octant : (target : Shape) (k : ℕ) (a b c : StoreState) → Grows target a b
    → Grows (octant_shape target k) b c → Grows target a c
grows_octant target k a b c p q =
    record {
      plan = q.plan
          ∙ p.plan;
      made = grew_more p.made (grew_into (λ x h. within k h) q.made);
      met = q.met
          ∙ p.met;
    }

-- the target itself was granted
pub grows_granted : (target made : Shape) (a b c : StoreState) → made ≢ Clear → made ≡ target
    → Grows target a b → Grants b made c → Grows target a c
grows_granted target made a b c ne e g m = record {
  plan = m.plan ∙ g.plan;
  made = elim m.made [
    | inl q ↦ subst (λ xs. Grew (λ p. IsPart p target) a.made xs) (sym q) g.made
    | inr q ↦ subst (λ xs. Grew (λ p. IsPart p target) a.made xs) (sym q)
        (one (subst (λ p. IsPart made p) e (whole ne)) g.made)
  ];
  met = m.met ∙ g.met;
}

-- an octant met a full bucket, and what was gathered went back
pub octant_fails : (target : Shape) (k level bucket : ℕ) (a b c d : StoreState) (l n : ℕ)
    (cs : List (Option Name)) → Grows target a b → Fails (octant_shape target k) level bucket b c
    → OnlyHeldChanges c d → (g : Gathered a.held l target cs n b.held)
    → LosesAll c.held g.row 8 d.held → Fails target level bucket a d
octant_fails target k level bucket a b c d l n cs p q o g r = record {
  plan = o.plan ∙ q.plan ∙ p.plan;
  made = subst (λ m. Grew (λ x. IsPart x target) a.made m) (sym o.made)
      (grew_more p.made (grew_into (λ x h. within k h) q.made));
  wanted = q.wanted;
  is_part = within k q.is_part;
  sought = subst
      (λ (p : Layout). IsSought p
      (record { level = level; bucket = bucket; shape = q.wanted })) p.plan q.sought;
  met = o.met ∙ q.met
      ∙ ap (λ m. record { level = level; bucket = bucket; shape = q.wanted } ∷ m) p.met;
  held = λ f. omega (arith, r.weighs f, q.held f, g.weighs f);
}

-- the node met a full bucket, and its octants went back
pub node_fails : (target wanted : Shape) (level bucket l n : ℕ) (a b c d : StoreState)
    (cs : List (Option Name)) → wanted ≡ target → Grows target a b
    → OnlyMeets b level bucket wanted c → OnlyHeldChanges c d
    → (g : Gathered a.held l target cs n b.held) → LosesAll c.held g.row 8 d.held
    → Fails target level bucket a d
node_fails target wanted level bucket l n a b c d cs e p q o g r = record {
  plan = o.plan ∙ q.plan ∙ p.plan;
  made = subst (λ m. Grew (λ x. IsPart x target) a.made m) (sym (o.made ∙ q.made)) p.made;
  wanted = wanted;
  is_part = subst (λ x. IsPart wanted x) e (whole q.sought.some);
  sought = subst
      (λ (p : Layout). IsSought p
      (record { level = level; bucket = bucket; shape = wanted })) p.plan q.sought;
  met = o.met ∙ q.met
      ∙ ap (λ m. record { level = level; bucket = bucket; shape = wanted } ∷ m) p.met;
  held = λ f. omega (arith, r.weighs f, ap (weigh f) q.held, g.weighs f);
}

-- the leaf met a full bucket
pub leaf_fails : (level bucket bits : ℕ) (a b : StoreState) → OnlyMeets a level bucket (shape.Leaf bits) b
    → Fails (shape.Leaf bits) level bucket a b
leaf_fails level bucket bits a b q = record {
  plan = q.plan;
  made = subst (λ m. Grew (λ x. IsPart x (shape.Leaf bits)) a.made m) (sym q.made) unchanged;
  wanted = shape.Leaf bits;
  is_part = whole q.sought.some;
  sought = q.sought;
  met = q.met;
  held = λ f. ap (weigh f) q.held;
}
