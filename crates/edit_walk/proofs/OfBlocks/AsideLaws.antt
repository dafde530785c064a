-- What is held besides a full block that is kept aside.
use Rattle.std.proofs.Common.{◌≡◌, ◌≢◌, ℕ, zero, suc, ◌+◌, ◌-◌, ◌^◌, ◌≤◌, Some, None, Option, List, ◌∷◌, set, length, refl, sym, ◌∙◌, ap, subst, arith, inl, inr, get_or-set_other, get_or-set_same}
use Rattle.std.proofs.lemmas.Bool.{cases_eq}
use Rattle.edit_walk.specs.declared.blocks.full_blocks.FullBlocks.{FullBlocks}
use Rattle.node_words.specs.declared.shapes.names.Name.{Name}
use Rattle.node_words.specs.shapes.Shape.{Shape, Clear, Leaf, octant_shape, IsPart, whole}
use Rattle.node_words.specs.shapes.Tree.{Tree, Gone, LeafAt, root_of, child_of, shape_of, IsTreeAt}
use Rattle.node_words.specs.shapes.Weights.{weight_of, number_of_trees}
use Rattle.node_words.proofs.OfShapes.TreeLaws.{gone_at, leaf_at, shape_of-leaf, shape_of-gone, shape_of-child, gone_from_root, level_of, IsTreeAt-below}
use Rattle.node_words.proofs.OfShapes.WeightLaws.{weigh-cons, weight_of-there, weight_of-gone, weight_below-one}
use Rattle.node_words.specs.Held.{StoreState, IsHeld, HoldsName, ReachesName, Gains, Grants, OnlyMeets, name_in}
use Rattle.node_words.specs.Gathering.{IsTreeOf, Grew, unchanged, Grows}
use Rattle.node_words.proofs.HeldLaws.{Keeps, held_reached, reached_child}
use Rattle.node_words.proofs.GatherLaws.{grows_none, grows_granted}
use Rattle.node_words.specs.contents.CellShapes.{leaf_shape, full_shape}
use Rattle.edit_walk.specs.blocks.Blocks.{IsFullBlock, Aside, GainedShare, RefusesBlock, first_below, no_full_blocks}
use Rattle.node_words.proofs.OfContents.LeafBits.{leaf_shape-some}
use Rattle.node_words.proofs.OfContents.FullShapes.{full_octant, full_leaf}

one_at_most : (t : Tree) → weight_of (λ _. 1) t ≤ 1
one_at_most t = let h = weight_below-one (λ k. t) 1 in omega arith

-- how much is held, and how much of it is the rest
pub record Numbers (held rest : List Tree) : Type 0 where
  pub most : number_of_trees held ≤ number_of_trees rest + 1
  pub least : number_of_trees rest ≤ number_of_trees held

pub aside_numbers : (held rest : List Tree) (full : FullBlocks) → Aside held full rest
    → Numbers held rest
aside_numbers held rest full a =
    record {
      most = omega (arith, a.weighs (λ _. 1), one_at_most a.tree);
      least = omega
          (arith, a.weighs (λ _. 1));
    }

pub aside_keeps : (held rest : List Tree) (full : FullBlocks) → Aside held full rest
    → Keeps rest held
aside_keeps held rest full a = record { weighs = λ f. omega (arith, a.weighs f) }

-- the rest alone
pub none_aside : (held : List Tree) → Aside held no_full_blocks held
none_aside held =
    record {
      tree = Gone;
      root = refl;
      levels = λ n e. gone_at n.level;
      shape = λ n e. cc;
      names = λ n e. cc;
      weighs =
          λ f. omega (arith, weight_of-gone f Gone refl);
    }

pub aside_gains : (held new rest : List Tree) (full : FullBlocks) (t : Tree) → Aside held full rest
    → Gains held t new → Aside new full (t ∷ rest)
aside_gains held new rest full t a g =
    record {
      tree = a.tree;
      root = a.root;
      levels = a.levels;
      shape = a.shape;
      names = a.names;
      weighs = λ f. omega
          (arith, a.weighs f, g.weighs f, weigh-cons f t rest);
    }

pub came_gains : (held new rest : List Tree) (full : FullBlocks) (level : ℕ) (target : Shape)
    (t : Tree) (n : Name) → Aside held full rest → Gains held t new → root_of t ≡ Some n
    → IsTreeAt level t → shape_of t ≡ target → GainedShare rest level target (Some n) new full
came_gains held new rest full level target t n a g r l s = record {
  now = t ∷ rest;
  comes = record {
    tree = t;
    root = r;
    levels = l;
    shape = s;
    weighs = λ f. omega
        (arith, weigh-cons f t rest, weight_of-there f t n r);
  };
  aside = aside_gains held new rest full t a g;
}

pub came_none : (held rest : List Tree) (full : FullBlocks) (level : ℕ) (target : Shape)
    → Aside held full rest → target ≡ Clear → GainedShare rest level target None held full
came_none held rest full level target a e = record {
  now = rest;
  comes = record {
    tree = Gone;
    root = refl;
    levels = gone_at level;
    shape = shape_of-gone
        ∙ sym e;
    weighs = λ f. omega (arith, weight_of-gone f Gone refl);
  };
  aside = a;
}

pub leaf_came : (held new rest : List Tree) (full : FullBlocks) (bits : ℕ) (n : Name) → bits ≢ 0
    → n.level ≡ 0 → Gains held (LeafAt n bits) new → Aside held full rest
    → GainedShare rest 0 (leaf_shape bits) (Some n) new full
leaf_came held new rest full bits n ne e g a =
    came_gains held new rest full 0 (leaf_shape bits) (LeafAt n bits) n a g refl (leaf_at n bits e)
    (shape_of-leaf n bits ∙ sym (leaf_shape-some bits ne))

pub leaf_grows : (bits : ℕ) (old new : StoreState) → bits ≢ 0 → Grants old (Leaf bits) new
    → Grows (leaf_shape bits) old new
leaf_grows bits old new ne g =
    grows_granted (leaf_shape bits) (Leaf bits) old old new (λ e. cc)
    (sym (leaf_shape-some bits ne)) (grows_none _ old) g

-- the tree of the full block that is aside
pub aside_full : (held rest : List Tree) (full : FullBlocks) (n : Name) → full.share ≡ Some n
    → (a : Aside held full rest) → IsFullBlock held a.tree n
aside_full held rest full n e a = record {
  root = a.root ∙ e;
  reached = held_reached held a.tree
      (record { weighs = λ f. omega (arith, a.weighs f, weight_of-there f a.tree n (a.root ∙ e)) });
  levels = a.levels n e;
  shape = a.shape n e;
}

pub full_held : (held rest : List Tree) (full : FullBlocks) (n : Name) → full.share ≡ Some n
    → (a : Aside held full rest) → IsHeld held a.tree
full_held held rest full n e a =
    record { weighs = λ f. omega (arith, a.weighs f, weight_of-there f a.tree n (a.root ∙ e)) }

pub full_holds : (held rest : List Tree) (full : FullBlocks) (n : Name) → full.share ≡ Some n
    → Aside held full rest → HoldsName held n
full_holds held rest full n e a =
    record { tree = a.tree; is_held = full_held held rest full n e a; root = a.root ∙ e }

pub full_reaches : (held : List Tree) (t : Tree) (n : Name) → IsFullBlock held t n
    → ReachesName held n
full_reaches held t n f = record { tree = t; reached = f.reached; root = f.root }

-- the first octant of a full block is one
pub full_below : (held : List Tree) (t : Tree) (n m : Name) → IsFullBlock held t n → 1 ≤ n.level
    → root_of (child_of t 0) ≡ Some m → (m.level + 1 ≡ n.level) × IsFullBlock held (child_of t 0) m
full_below held t n m f h e =
    let l = IsTreeAt-below n.level t 0 h f.levels in
    let q : m.level ≡ n.level - 1 = level_of (n.level - 1) (child_of t 0) m l e in
    let up : n.level ≡ suc (n.level - 1) = omega arith in
    let s : shape_of (child_of t 0) ≡ full_shape (n.level - 1) =
    shape_of-child t 0 ∙ ap (λ u. octant_shape u 0) (f.shape ∙ ap full_shape up)
    ∙ full_octant (n.level - 1) 0 (omega arith) in (
      omega arith,
      record {
        root = e;
        reached = reached_child held t 0 f.reached;
        levels = subst (λ (k : ℕ). IsTreeAt k (child_of t 0)) (sym q) l;
        shape = s ∙ ap full_shape (sym q);
      },
    )

full_not_clear : (level : ℕ) → full_shape level ≢ Clear
unfolding full_shape
full_not_clear zero = λ e. cc
full_not_clear (suc level) = λ e. cc

pub full_child_there : (held : List Tree) (t : Tree) (n : Name) → IsFullBlock held t n → 1 ≤ n.level
    → root_of (child_of t 0) ≡ None → ⊥
full_child_there held t n f h e =
    let up : n.level ≡ suc (n.level - 1) = omega arith in
    full_not_clear (n.level - 1)
    (sym (full_octant (n.level - 1) 0 (omega arith))
    ∙ sym (ap (λ u. octant_shape u 0) (f.shape ∙ ap full_shape up))
    ∙ sym (shape_of-child t 0) ∙ ap shape_of (gone_from_root (child_of t 0) e)
    ∙ shape_of-gone)

-- a full block that stands first in another, so many levels below
pub record FirstBlock (held : List Tree) (t : Tree) (level d : ℕ) : Type 0 where
  pub name : Name
  pub falls : name.level + d ≡ level
  pub block : IsFullBlock held (first_below d t) name

first_there_below : (held : List Tree) (t : Tree) (level d : ℕ) → FirstBlock held t level d
    → suc d ≤ level → (o : Option Name) → root_of (child_of (first_below d t) 0) ≡ o
    → FirstBlock held t level (suc d)
unfolding first_below
first_there_below held t level d up h None e =
    absurd (full_child_there held (first_below d t) up.name up.block (omega (arith, h, up.falls)) e)
first_there_below held t level d up h (Some m) e =
    let (falls, block) =
    full_below held (first_below d t) up.name m up.block (omega (arith, h, up.falls)) e in
    record { name = m; falls = omega (arith, falls, up.falls); block = block }

pub first_full : (held : List Tree) (t : Tree) (n : Name) (d : ℕ) → IsFullBlock held t n
    → d ≤ n.level → FirstBlock held t n.level d
unfolding first_below
first_full held t n zero f h = record { name = n; falls = omega arith; block = f }
first_full held t n (suc d) f h =
    first_there_below held t n.level d (first_full held t n d f (omega (arith, h))) h
    (root_of (child_of (first_below d t) 0)) refl

-- the names of the first blocks are read from the greatest down
pub first_itself : (held : List Tree) (t : Tree) (n : Name) → IsFullBlock held t n
    → IsFullBlock held (first_below (n.level - n.level) t) n
unfolding first_below
first_itself held t n f =
    let e : n.level - n.level ≡ 0 = omega arith in
    subst (λ (d : ℕ). IsFullBlock held (first_below d t) n) (sym e) f

pub first_name : (held : List Tree) (t : Tree) (n : Name) (names : List (Option Name))
    → IsFullBlock held t n → length names ≡ 11 → n.level ≤ 10 → (k : ℕ) → n.level ≤ k → k ≤ n.level
    → name_in (set names n.level (Some n)) k ≡ root_of (first_below (n.level - k) t)
unfolding first_below
first_name held t n names f len small k low high =
    let e : k ≡ n.level = omega (arith, low, high) in
    let d : n.level - k ≡ 0 = omega (arith, e) in
    ap (λ (i : ℕ). name_in (set names n.level (Some n)) i) e
    ∙ get_or-set_same names n.level (Some n) None (omega (arith, len, small))
    ∙ sym f.root ∙ ap (λ (x : ℕ). root_of (first_below x t)) (sym d)

-- the next one
pub record FirstStep (held : List Tree) (n at below : Name) (t : Tree) : Type 0 where
  pub falls : below.level + 1 ≡ at.level
  pub block : IsFullBlock held (first_below (n.level - below.level) t) below

pub first_step : (held : List Tree) (n at below : Name) (t : Tree) → at.level ≤ n.level
    → 1 ≤ at.level → IsFullBlock held (first_below (n.level - at.level) t) at
    → root_of (child_of (first_below (n.level - at.level) t) 0) ≡ Some below
    → FirstStep held n at below t
unfolding first_below
first_step held n at below t low one f e =
    let (falls, block) =
    full_below held (first_below (n.level - at.level) t) at below f one e in
    let s : n.level - below.level ≡ suc (n.level - at.level) = omega (arith, falls, low, one) in
    record {
      falls = falls;
      block = subst (λ (d : ℕ). IsFullBlock held (first_below d t) below) (sym s) block;
    }

pub next_name : (held : List Tree) (n at below : Name) (t : Tree) (names : List (Option Name))
    → length names ≡ 11 → n.level ≤ 10 → at.level ≤ n.level → FirstStep held n at below t
    → ((k : ℕ) → at.level ≤ k → k ≤ n.level
    → name_in names k ≡ root_of (first_below (n.level - k) t))
    → (k : ℕ) → below.level ≤ k → k ≤ n.level
    → name_in (set names below.level (Some below)) k ≡ root_of (first_below (n.level - k) t)
next_name held n at below t names len small low s were k from to =
    elim (cases_eq k below.level) [
      | inl same ↦
          ap (λ (i : ℕ). name_in (set names below.level (Some below)) i) same
          ∙ get_or-set_same names below.level (Some below) None
          (omega (arith, len, small, low, s.falls))
          ∙ sym s.block.root ∙ ap (λ (i : ℕ). root_of (first_below (n.level - i) t)) (sym same)
      | inr other ↦
          get_or-set_other names below.level k (Some below) None other
          ∙ were k (omega (arith, from, other, s.falls)) to
    ]

-- the block that a name of this level names, of those that stand first in the one aside
pub record HeldFirst (held : List Tree) (level : ℕ) (m : Name) (t : Tree) : Type 0 where
  pub block : IsFullBlock held t m
  pub falls : m.level ≡ level

first_named : (held rest : List Tree) (full : FullBlocks) (n : Name) (level : ℕ)
    → full.share ≡ Some n → level ≤ n.level → (a : Aside held full rest) → (o : Option Name)
    → name_in full.names level ≡ o → FirstBlock held a.tree n.level (n.level - level)
    → (m : Name) → (o ≡ Some m) → HeldFirst held level m (first_below (n.level - level) a.tree)
first_named held rest full n level e l a o is f m q =
    let w : f.name ≡ m = (let s : Some f.name ≡ Some m =
    sym f.block.root ∙ sym (a.names n e level l) ∙ is ∙ q in cc) in
    record {
      block = subst (λ (k : Name). IsFullBlock held (first_below (n.level - level) a.tree) k) w f.block;
      falls = ap (λ (k : Name). k.level) (sym w) ∙ omega (arith, f.falls, l);
    }

pub first_held : (held rest : List Tree) (full : FullBlocks) (n : Name) (level : ℕ) (m : Name)
    → full.share ≡ Some n → level ≤ n.level → (a : Aside held full rest)
    → name_in full.names level ≡ Some m
    → HeldFirst held level m (first_below (n.level - level) a.tree)
first_held held rest full n level m e l a is =
    first_named held rest full n level e l a (Some m) is
    (first_full held a.tree n (n.level - level) (aside_full held rest full n e a) (omega arith)) m
    refl

pub first_there : (held rest : List Tree) (full : FullBlocks) (n : Name) (level : ℕ)
    → full.share ≡ Some n → level ≤ n.level → (a : Aside held full rest)
    → name_in full.names level ≡ None → ⊥
first_there held rest full n level e l a is =
    let f =
    first_full held a.tree n (n.level - level) (aside_full held rest full n e a) (omega arith) in
    let s : Some f.name ≡ None = sym f.block.root ∙ sym (a.names n e level l) ∙ is in cc

pub keep_came : (held new rest : List Tree) (full : FullBlocks) (level : ℕ) (u : Tree)
    (m k : Name) → Aside held full rest → IsFullBlock held u m → m.level ≡ level → k ≡ m
    → Gains held u new → GainedShare rest level (full_shape level) (Some k) new full
keep_came held new rest full level u m k a f e r g =
    came_gains held new rest full level (full_shape level) u k a g
    (f.root ∙ ap Some (sym r)) (subst (λ (l : ℕ). IsTreeAt l u) e f.levels)
    (f.shape ∙ ap full_shape e)

-- a share of the full leaf
pub first_aside : (old new : List Tree) (rest : List Tree) (full : FullBlocks) (n : Name)
    (bits : ℕ) (names : List (Option Name)) → bits ≡ 2 ^ 64 - 1 → full.share ≡ None
    → n.level ≡ 0 → name_in names 0 ≡ Some n → Gains old (LeafAt n bits) new
    → Aside old full rest
    → Aside new (record { share = Some n; names = names }) rest
unfolding first_below
first_aside old new rest full n bits names e none l is g a = record {
  tree = LeafAt n bits;
  root = refl;
  levels = λ m q. let w : n
      ≡ m = cc in subst (λ (k : Name). IsTreeAt k.level (LeafAt n bits)) w
      (subst (λ (j : ℕ). IsTreeAt j (LeafAt n bits)) (sym l) (leaf_at n bits l));
  shape = λ m q. let w : n ≡ m = cc in shape_of-leaf n bits ∙ ap Leaf e ∙ sym full_leaf
      ∙ ap full_shape (sym l) ∙ ap (λ (k : Name). full_shape k.level) w;
  names = λ m q k h. let w : n ≡ m = cc in
      let z : k ≡ 0 = omega (arith, h, l, ap (λ (x : Name). x.level) w) in
      let d : m.level - k ≡ 0 = omega (arith, l, ap (λ (x : Name). x.level) w) in
      ap (λ (i : ℕ). name_in names i) z ∙ is
      ∙ ap (λ (x : ℕ). root_of (first_below x (LeafAt n bits))) (sym d);
  weighs = λ f. omega (
    arith,
    g.weighs f,
    a.weighs f,
    weight_of-gone f a.tree (a.root ∙ none),
    weight_of-there f
        (LeafAt n bits) n refl,
  );
}

pub first_grows : (old new : StoreState) (bits : ℕ) → bits ≡ 2 ^ 64 - 1 → Grants old (Leaf bits) new
    → Grows (full_shape 0) old new
first_grows old new bits e g =
    grows_granted (full_shape 0) (Leaf bits) old old new (λ q. cc) (ap Leaf e ∙ sym full_leaf)
    (grows_none _ old) g

pub meets_refuses : (target wanted : Shape) (level bucket : ℕ) (old new : StoreState) → wanted ≡ target
    → OnlyMeets old level bucket wanted new → RefusesBlock target level bucket old new
meets_refuses target wanted level bucket old new e m = record {
  plan = m.plan;
  made = subst (λ xs. Grew (λ p. IsPart p target) old.made xs) (sym m.made) unchanged;
  wanted = wanted;
  is_part = subst (λ p. IsPart wanted p) e (whole m.sought.some);
  sought = m.sought;
  met = m.met;
}

pub aside_same : (old new : List Tree) (full : FullBlocks) (rest : List Tree) → new ≡ old
    → Aside old full rest → Aside new full rest
aside_same old new full rest e a = subst (λ (h : List Tree). Aside h full rest) (sym e) a

pub more_came : (held new rest : List Tree) (full : FullBlocks) (n m k : Name)
    → full.share ≡ Some n → full.share ≡ Some m → k ≡ m → (a : Aside held full rest) → Gains held a.tree new
    → GainedShare rest n.level (full_shape n.level) (Some k) new full
more_came held new rest full n m k e q r a g =
    let w : m ≡ n = let s : Some m ≡ Some n = sym q ∙ e in cc in
    came_gains held new rest full n.level (full_shape n.level) a.tree k a g
    (a.root ∙ q ∙ ap Some (sym r)) (a.levels n e) (a.shape n e)

-- one more share of a block that the rest reaches
pub again_came : (held new rest : List Tree) (full : FullBlocks) (level : ℕ) (t : Tree)
    (n m : Name) → m ≡ n → Aside held full rest → IsTreeOf rest level t (Some n) → Gains held t new
    → GainedShare rest level (shape_of t) (Some m) new full
again_came held new rest full level t n m e a o g =
    came_gains held new rest full level (shape_of t) t m a g
    (o.root ∙ ap Some (sym e)) o.levels refl

pub again_none : (held rest : List Tree) (full : FullBlocks) (level : ℕ) (t : Tree)
    → Aside held full rest → IsTreeOf rest level t None
    → GainedShare rest level (shape_of t) None held full
again_none held rest full level t a o =
    came_none held rest full level (shape_of t) a
    (ap shape_of (gone_from_root t o.root) ∙ shape_of-gone)
