-- Shares gathered besides a full block that is kept aside, and the node over them.
use Rattle.std.proofs.Common.{◌≡◌, ◌≢◌, ℕ, zero, suc, ◌+◌, ◌-◌, ◌<◌, ◌≤◌, Some, None, Option, List, [], ◌∷◌, set, length, refl, sym, ◌∙◌, ap, subst, arith, add-one}
use Rattle.edit_walk.specs.declared.blocks.full_blocks.FullBlocks.{FullBlocks}
use Rattle.node_words.specs.declared.shapes.names.Name.{Name}
use Rattle.node_words.specs.shapes.Shape.{Shape, Clear, octant_shape, branch_of, IsCanonical, IsPart, within}
use Rattle.node_words.specs.shapes.Tree.{Tree, Gone, LeafAt, NodeAt, node_at, root_of, shape_of, IsTreeAt}
use Rattle.node_words.specs.shapes.Weights.{weigh, weight_below, number_of_trees}
use Rattle.node_words.proofs.OfShapes.TreeLaws.{gone_at, node_levels, shape_of-gone, shape_of-node, gone_from_root, level_of}
use Rattle.node_words.proofs.OfShapes.WeightLaws.{weigh-cons, weight_of-there, weight_of-gone}
use Rattle.node_words.specs.Held.{StoreState, IsSought, Joins, Grants, OnlyHeldChanges, OnlyMeets, AreHeld, AreBelow, HasChild, name_in}
use Rattle.node_words.specs.Plans.{Layout}
use Rattle.node_words.specs.Gathering.{LosesAll, Grew, Grows}
use Rattle.node_words.proofs.HeldLaws.{Keeps, held_reached, keeps_on}
use Rattle.node_words.proofs.GatherLaws.{grows_none, grows_granted, grew_more, grew_into, none_gathered, one_gathered, gathered_held, gathered_number, gathered_below, gathered_shape}
use Rattle.node_words.specs.contents.CellShapes.{full_shape}
use Rattle.edit_walk.specs.blocks.Blocks.{Aside, AreFirstNames, GainedShare, Gathers, IsFullBlock, RefusesBlock, no_full_blocks}
use Rattle.node_words.proofs.OfContents.FullShapes.{full_octant}
use Rattle.node_words.proofs.OfContents.OctantShapes.{octants_join, octants_clear}
use Rattle.edit_walk.proofs.OfBlocks.AsideLaws.{aside_numbers, aside_keeps, none_aside, meets_refuses}

pub nones : (k : ℕ) → name_in (None ∷ None ∷ None ∷ None ∷ None ∷ None ∷ None ∷ None ∷ []) k ≡ None
nones zero = refl
nones (suc zero) = refl
nones (suc (suc zero)) = refl
nones (suc (suc (suc zero))) = refl
nones (suc (suc (suc (suc zero)))) = refl
nones (suc (suc (suc (suc (suc zero))))) = refl
nones (suc (suc (suc (suc (suc (suc zero)))))) = refl
nones (suc (suc (suc (suc (suc (suc (suc zero))))))) = refl
nones (suc (suc (suc (suc (suc (suc (suc (suc k)))))))) = refl

abbrev pub gathers_none : (held rest : List Tree) (full : FullBlocks) (level : ℕ) (target : Shape)
    → Aside held full rest
    → Gathers rest level target
    (None ∷ None ∷ None ∷ None ∷ None ∷ None ∷ None ∷ None ∷ []) 0 held full
gathers_none held rest full level target a =
    record { now = rest; gathered = none_gathered rest level target _ nones; aside = a }

abbrev pub gathers_one : (rest held new : List Tree) (full other : FullBlocks) (level : ℕ)
    (target : Shape) (cs ds : List (Option Name)) (k : ℕ) (name : Option Name) → k < 8
    → length cs ≡ 8 → (a : Gathers rest level target cs k held full)
    → GainedShare a.now level (octant_shape target k) name new other → ds ≡ set cs k name
    → Gathers rest level target ds (k + 1) new other
gathers_one rest held new full other level target cs ds k name lt e a c d =
    record { now = c.now; gathered = one_gathered rest a.now c.now level target cs ds k name lt e a.gathered c.comes d; aside = c.aside }

pub gathers_empty : (rest held : List Tree) (full : FullBlocks) (level : ℕ) (target : Shape)
    (cs : List (Option Name)) (n k : ℕ) → n ≤ k → Gathers rest level target cs n held full
    → name_in cs k ≡ None
gathers_empty rest held full level target cs n k h a =
    sym (a.gathered.names k) ∙ ap root_of (a.gathered.gone k h)

pub gathers_held : (rest held new : List Tree) (full : FullBlocks) (level : ℕ) (target : Shape)
    (cs : List (Option Name)) (n : ℕ) → (a : Gathers rest level target cs n held full)
    → Keeps held new → AreHeld new cs a.gathered.row
gathers_held rest held new full level target cs n a k =
    gathered_held rest a.now new level target cs n a.gathered
    (keeps_on _ held _ (aside_keeps held a.now full a.aside) k)

pub gathers_number : (rest held : List Tree) (full : FullBlocks) (level : ℕ) (target : Shape)
    (cs : List (Option Name)) (n : ℕ) → Gathers rest level target cs n held full
    → number_of_trees held ≤ number_of_trees rest + 9
gathers_number rest held full level target cs n a =
    omega (
      arith,
      gathered_number rest a.now level target cs n a.gathered,
      (aside_numbers held a.now full a.aside).most,
    )

full_octant_up : (level k : ℕ) → k < 8 → octant_shape (full_shape (level + 1)) k ≡ full_shape level
full_octant_up level k h = rw add-one (full_octant level k h)

-- one more share of a full block, as an octant of the next one
pub full_gathers : (rest held new : List Tree) (full other : FullBlocks) (level : ℕ)
    (cs ds : List (Option Name)) (k : ℕ) (name : Option Name) → k < 8 → length cs ≡ 8
    → (a : Gathers rest level (full_shape (level + 1)) cs k held full)
    → GainedShare a.now level (full_shape level) name new other → ds ≡ set cs k name
    → Gathers rest level (full_shape (level + 1)) ds (k + 1) new other
full_gathers rest held new full other level cs ds k name lt e a c d =
    gathers_one rest held new full other level (full_shape (level + 1)) cs ds k name lt e a
    (subst (λ s. GainedShare a.now level s name new other) (sym (full_octant_up level k lt)) c) d

-- the full block that was aside, as a share that came
pub aside_came : (held rest : List Tree) (full : FullBlocks) (n : Name)
    → full.share ≡ Some n → Aside held full rest
    → GainedShare rest n.level (full_shape n.level) full.share held no_full_blocks
aside_came held rest full n e a = record {
  now = held;
  comes = record { tree = a.tree; root = a.root; levels = a.levels n e; shape = a.shape n e; weighs = a.weighs };
  aside = none_aside held;
}

pub canonical_up : (level : ℕ) (s : Shape) → 1 ≤ level → IsCanonical level s
    → IsCanonical (suc (level - 1)) s
canonical_up level s h c =
    let e : level ≡ suc (level - 1) = omega arith in subst (λ (l : ℕ). IsCanonical l s) e c

pub gone_weigh : (f : Tree → ℕ) (row : ℕ → Tree) (n : ℕ) → ((k : ℕ) → k < n → row k ≡ Gone)
    → weight_below f row n ≡ 0
gone_weigh f row zero h = refl
gone_weigh f row (suc n) h =
    omega (
      arith,
      gone_weigh f row n (λ k l. h k (omega arith)),
      weight_of-gone f (row n)
          (ap root_of (h n (omega arith))),
    )

-- no octant has a share
abbrev pub join_none : (rest held : List Tree) (full : FullBlocks) (level : ℕ) (target : Shape)
    (cs : List (Option Name)) → 1 ≤ level → IsCanonical level target
    → Gathers rest (level - 1) target cs 8 held full → ((k : ℕ) → k < 8 → name_in cs k ≡ None)
    → GainedShare rest level target None held full
join_none rest held full level target cs h c a none =
    let gone : (k : ℕ) → k < 8 → a.gathered.row k ≡ Gone =
    λ k lt. gone_from_root (a.gathered.row k) (a.gathered.names k ∙ none k lt) in
    let clear : target ≡ Clear =
    octants_clear (level - 1) target (canonical_up level target h c)
    (λ k lt. sym (a.gathered.shapes k lt) ∙ ap shape_of (gone k lt) ∙ shape_of-gone) in
    record {
      now = a.now;
      comes = record {
        tree = Gone;
        root = refl;
        levels = gone_at level;
        shape = shape_of-gone
            ∙ sym clear;
        weighs = λ f. omega
            (arith, a.gathered.weighs f, gone_weigh f a.gathered.row 8 gone, weight_of-gone f Gone refl);
      };
      aside = a.aside;
    }

clear_gone : (t : Tree) → shape_of t ≡ Clear → root_of t ≡ None
unfolding shape_of
clear_gone Gone e = refl
clear_gone (LeafAt n b) e = cc
clear_gone (NodeAt m a b c d e f g h) q = cc

-- where some octant has a share, the target is the branch of what was gathered
pub join_branch : (rest held : List Tree) (full : FullBlocks) (level : ℕ) (target : Shape)
    (cs : List (Option Name)) → 1 ≤ level → IsCanonical level target → HasChild cs
    → (a : Gathers rest (level - 1) target cs 8 held full)
    → branch_of (λ k. shape_of (a.gathered.row k)) ≡ target
join_branch rest held full level target cs h c some a =
    let k : ℕ = some.octant in
    let ne : octant_shape target k ≢ Clear =
    λ e. some.there
    (sym (a.gathered.names k)
    ∙ clear_gone (a.gathered.row k) (a.gathered.shapes k some.below ∙ e)) in
    gathered_shape rest a.now (level - 1) target cs
    (octants_join (level - 1) target k (canonical_up level target h c) ne) a.gathered

abbrev pub join_some : (rest held new : List Tree) (full : FullBlocks) (level : ℕ) (target : Shape)
    (cs : List (Option Name)) (n : Name) → 1 ≤ level → IsCanonical level target → HasChild cs
    → n.level ≡ level → (a : Gathers rest (level - 1) target cs 8 held full)
    → Joins held a.gathered.row n new → GainedShare rest level target (Some n) new full
join_some rest held new full level target cs n h c some l a j =
    let e : suc (level - 1) ≡ level = omega arith in
    let row : ℕ → Tree = a.gathered.row in
    let t : Tree = node_at n row in
    record {
      now = t ∷ rest;
      comes = record {
        tree = t;
        root = refl;
        levels = subst (λ (m : ℕ). IsTreeAt m t) e
            (node_levels (level - 1) n row (l ∙ sym e) (λ k lt. a.gathered.levels k));
        shape = shape_of-node n row ∙ join_branch rest held full level target cs h c some a;
        weighs = λ f. omega (arith, weigh-cons f t rest, weight_of-there f t n refl);
      };
      aside = record {
        tree = a.aside.tree;
        root = a.aside.root;
        levels = a.aside.levels;
        shape = a.aside.shape;
        names = a.aside.names;
        weighs = λ f. omega
            (arith, j.weighs f, a.aside.weighs f, a.gathered.weighs f, weigh-cons f t rest);
      };
    }

pub join_grows : (rest held : List Tree) (full : FullBlocks) (level : ℕ) (target : Shape)
    (cs : List (Option Name)) (old new : StoreState) → 1 ≤ level → IsCanonical level target → HasChild cs
    → (a : Gathers rest (level - 1) target cs 8 held full)
    → Grants old (branch_of (λ k. shape_of (a.gathered.row k))) new → Grows target old new
join_grows rest held full level target cs old new h c some a g =
    grows_granted target _ old old new (λ e. cc)
    (join_branch rest held full level target cs h c some a) (grows_none target old) g

pub refuses_held : (target : Shape) (level bucket : ℕ) (a b c : StoreState)
    → RefusesBlock target level bucket a b → OnlyHeldChanges b c
    → RefusesBlock target level bucket a c
refuses_held target level bucket a b c r o = record {
  plan = o.plan ∙ r.plan;
  made = subst (λ xs. Grew (λ p. IsPart p target) a.made xs) (sym o.made) r.made;
  wanted = r.wanted;
  is_part = r.is_part;
  sought = r.sought;
  met = o.met ∙ r.met;
}

pub refuses_after : (target : Shape) (level bucket : ℕ) (a b c : StoreState) → Grows target a b
    → RefusesBlock target level bucket b c → RefusesBlock target level bucket a c
refuses_after target level bucket a b c g r = record {
  plan = r.plan ∙ g.plan;
  made = grew_more g.made r.made;
  wanted = r.wanted;
  is_part = r.is_part;
  sought = subst
      (λ (p : Layout). IsSought p
      (record { level = level; bucket = bucket; shape = r.wanted })) g.plan r.sought;
  met = r.met ∙ ap (λ m. record { level = level; bucket = bucket; shape = r.wanted } ∷ m) g.met;
}

pub refuses_octant : (target : Shape) (k level bucket : ℕ) (a b : StoreState)
    → RefusesBlock (octant_shape target k) level bucket a b → RefusesBlock target level bucket a b
refuses_octant target k level bucket a b r = record {
  plan = r.plan;
  made = grew_into (λ x h. within k h) r.made;
  wanted = r.wanted;
  is_part = within k r.is_part;
  sought = r.sought;
  met = r.met;
}

pub grows_on : (target : Shape) (a b c : StoreState) → Grows target a b → Grows target b c
    → Grows target a c
grows_on target a b c p q =
    record { plan = q.plan ∙ p.plan; made = grew_more p.made q.made; met = q.met ∙ p.met }

pub grows_in : (target : Shape) (k : ℕ) (a b : StoreState) → Grows (octant_shape target k) a b
    → Grows target a b
grows_in target k a b p =
    record { plan = p.plan; made = grew_into (λ x h. within k h) p.made; met = p.met }

-- the octants that were gathered went back
pub back_aside : (rest held met new : List Tree) (full : FullBlocks) (level : ℕ) (target : Shape)
    (cs : List (Option Name)) (n : ℕ) → (a : Gathers rest level target cs n held full)
    → ((f : Tree → ℕ) → weigh f met ≡ weigh f held) → LosesAll met a.gathered.row 8 new
    → Aside new full rest
back_aside rest held met new full level target cs n a e l = record {
  tree = a.aside.tree;
  root = a.aside.root;
  levels = a.aside.levels;
  shape = a.aside.shape;
  names = a.aside.names;
  weighs = λ f. omega (arith, a.aside.weighs f, a.gathered.weighs f, l.weighs f, e f);
}

pub join_refuses : (rest held : List Tree) (full : FullBlocks) (level at bucket : ℕ)
    (target : Shape) (cs : List (Option Name)) (old mid new : StoreState) → 1 ≤ level
    → IsCanonical level target → HasChild cs → (a : Gathers rest (level - 1) target cs 8 held full)
    → OnlyMeets old at bucket (branch_of (λ k. shape_of (a.gathered.row k))) mid
    → OnlyHeldChanges mid new → RefusesBlock target at bucket old new
join_refuses rest held full level at bucket target cs old mid new h c some a m o =
    refuses_held target at bucket old mid new
    (meets_refuses target _ at bucket old mid
    (join_branch rest held full level target cs h c some a) m) o

pub join_below : (rest held : List Tree) (full : FullBlocks) (level : ℕ) (target : Shape)
    (cs : List (Option Name)) → 1 ≤ level → Gathers rest (level - 1) target cs 8 held full
    → AreBelow level cs
join_below rest held full level target cs h a =
    let e : suc (level - 1) ≡ level = omega arith in subst (λ (l : ℕ). AreBelow l cs) e
    (gathered_below rest a.now (level - 1) target cs 8 a.gathered)

full_down : (level : ℕ) → 1 ≤ level → octant_shape (full_shape level) 0 ≡ full_shape (level - 1)
full_down level h =
    let e : level ≡ suc (level - 1) = omega arith in ap (λ (l : ℕ). octant_shape (full_shape l) 0) e
    ∙ full_octant (level - 1) 0 (omega arith)

pub full_grows : (level : ℕ) (a b : StoreState) → 1 ≤ level → Grows (full_shape (level - 1)) a b
    → Grows (full_shape level) a b
full_grows level a b h g =
    grows_in (full_shape level) 0 a b (subst (λ s. Grows s a b) (sym (full_down level h)) g)

pub full_refuses : (level at bucket : ℕ) (a b : StoreState) → 1 ≤ level
    → RefusesBlock (full_shape (level - 1)) at bucket a b
    → RefusesBlock (full_shape level) at bucket a b
full_refuses level at bucket a b h r =
    refuses_octant (full_shape level) 0 at bucket a b
    (subst (λ s. RefusesBlock s at bucket a b) (sym (full_down level h)) r)

full_some : (level : ℕ) → full_shape level ≢ Clear
unfolding full_shape
full_some zero = λ e. cc
full_some (suc level) = λ e. cc

-- the next full block came
pub record NextFull (held : List Tree) (level : ℕ) (share : Option Name) (t : Tree) : Type 0 where
  pub name : Name
  pub is : share ≡ Some name
  pub at : name.level ≡ level
  pub block : IsFullBlock held t name

named : (t : Tree) (level : ℕ) (o : Option Name) → root_of t ≡ o → shape_of t ≡ full_shape level
    → (n : Name) × (o ≡ Some n)
unfolding shape_of
named Gone level o r e = absurd (full_some level (sym e))
named (LeafAt n b) level o r e = (n, sym r)
named (NodeAt n a b c d f g h i) level o r e = (n, sym r)

pub next_full : (rest held : List Tree) (level : ℕ) (share : Option Name)
    → (c : GainedShare rest level (full_shape level) share held no_full_blocks)
    → NextFull held level share c.comes.tree
next_full rest held level share c =
    let t : Tree = c.comes.tree in
    let (n, e) = named t level share c.comes.root c.comes.shape in
    let l : n.level ≡ level = level_of level t n c.comes.levels (c.comes.root ∙ e) in
    record {
      name = n;
      is = e;
      at = l;
      block = record {
        root = c.comes.root ∙ e;
        reached = held_reached held t (record {
          weighs = λ f. omega
              (arith, c.aside.weighs f, c.comes.weighs f, weight_of-there f t n (c.comes.root ∙ e));
        });
        levels = subst (λ (j : ℕ). IsTreeAt j t) (sym l) c.comes.levels;
        shape = c.comes.shape ∙ ap full_shape (sym l);
      };
    }

-- whatever its name is called
pub full_of : {held : List Tree} {level : ℕ} {share : Option Name} {t : Tree}
    → NextFull held level share t → (m : Name) → share ≡ Some m → IsFullBlock held t m
full_of {held} {level} {share} {t} q m e =
    let w : q.name ≡ m = let s : Some q.name ≡ Some m = sym q.is ∙ e in cc in
    subst (λ (k : Name). IsFullBlock held t k) w q.block

pub level_full : {held : List Tree} {level : ℕ} {share : Option Name} {t : Tree}
    → NextFull held level share t → (m : Name) → share ≡ Some m → m.level ≡ level
level_full {held} {level} {share} {t} q m e =
    let w : q.name ≡ m = let s : Some q.name ≡ Some m = sym q.is ∙ e in cc in
    ap (λ (k : Name). k.level) (sym w) ∙ q.at

-- and is set aside
pub next_aside : (rest held : List Tree) (level : ℕ) (share : Option Name)
    (names : List (Option Name))
    → (c : GainedShare rest level (full_shape level) share held no_full_blocks)
    → ((n : Name) → share ≡ Some n → AreFirstNames names n c.comes.tree)
    → Aside held (record { share = share; names = names }) rest
next_aside rest held level share names c first =
    let t : Tree = c.comes.tree in
    let q = next_full rest held level share c in
    record {
      tree = t;
      root = c.comes.root;
      levels = λ m p. subst (λ (k : Name). IsTreeAt k.level t) (same q.name m (sym q.is ∙ p))
          q.block.levels;
      shape = λ m p. q.block.shape
          ∙ ap (λ (k : Name). full_shape k.level) (same q.name m (sym q.is ∙ p));
      names = first;
      weighs = λ f. omega
          (arith, c.aside.weighs f, c.comes.weighs f, weight_of-gone f c.aside.tree c.aside.root);
    }
  where
    same : (n m : Name) → Some n ≡ Some m → n ≡ m
    same n m p = cc

-- eight shares of the full block below are the octants of the full block
pub eight_gathers : (rest held : List Tree) (cs : List (Option Name)) (below level : ℕ)
    → below + 1 ≡ level → Gathers rest below (full_shape (below + 1)) cs 8 held no_full_blocks
    → Gathers rest (level - 1) (full_shape level) cs 8 held no_full_blocks
eight_gathers rest held cs below level e a =
    let b : below ≡ level - 1 = omega arith in
    let x = subst (λ (l : ℕ). Gathers rest below (full_shape l) cs 8 held no_full_blocks) e a in
    subst (λ (l : ℕ). Gathers rest l (full_shape level) cs 8 held no_full_blocks) b x

pub only_grows : (target : Shape) (a b c : StoreState) → OnlyHeldChanges a b → Grows target b c
    → Grows target a c
only_grows target a b c o g =
    record {
      plan = g.plan
          ∙ o.plan;
      made = subst
          (λ xs. Grew (λ p. IsPart p target) xs c.made) o.made g.made;
      met = g.met ∙ o.met;
    }

pub only_refuses : (target : Shape) (level bucket : ℕ) (a b c : StoreState) → OnlyHeldChanges a b
    → RefusesBlock target level bucket b c → RefusesBlock target level bucket a c
only_refuses target level bucket a b c o r = record {
  plan = r.plan ∙ o.plan;
  made = subst (λ xs. Grew (λ p. IsPart p target) xs c.made) o.made r.made;
  wanted = r.wanted;
  is_part = r.is_part;
  sought = subst
      (λ (p : Layout). IsSought p
      (record { level = level; bucket = bucket; shape = r.wanted })) o.plan r.sought;
  met = r.met ∙ ap (λ m. record { level = level; bucket = bucket; shape = r.wanted } ∷ m) o.met;
}
