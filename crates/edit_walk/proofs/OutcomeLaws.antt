-- A block that stands is reached while the rest is held, and octants that stand get their shares
-- once the block is known to change.
use Rattle.std.proofs.Common.{◌≡◌, ◌≢◌, ℕ, suc, ◌+◌, ◌-◌, ◌<◌, ◌≤◌, Some, None, Option, List, ◌∷◌, set, length, refl, sym, ◌∙◌, ap, subst, arith, inl, inr, get_or-set_other, get_or-set_same}
use Rattle.std.proofs.lemmas.Bool.{cases_eq}
use Rattle.std.proofs.lemmas.List.{length-set}
use Rattle.edit_walk.specs.declared.blocks.full_blocks.FullBlocks.{FullBlocks}
use Rattle.node_words.specs.declared.shapes.names.Name.{Name}
use Rattle.node_words.specs.shapes.Shape.{Shape, Clear, Leaf, Branch, octant_shape, branch_of, bits_of, IsCanonical}
use Rattle.node_words.specs.shapes.Tree.{Tree, Gone, root_of, child_of, shape_of}
use Rattle.node_words.specs.shapes.Weights.{weigh, number_of_trees, put_row}
use Rattle.node_words.proofs.OfShapes.TreeLaws.{gone_at, gone_from_root, root_from_child, shape_of-child, shape_of-gone}
use Rattle.node_words.proofs.OfShapes.ShapeLaws.{octant_shape-clear}
use Rattle.node_words.proofs.OfShapes.WeightLaws.{weigh-cons, weight_of-gone, weight_of-there, weight_of-one, weight_below-put, weight_below-one, put_row-same, put_row-other}
use Rattle.node_words.specs.Held.{StoreState, AreHeld, Gains, IsReached, ReachesName, name_in}
use Rattle.node_words.specs.Gathering.{LosesAll}
use Rattle.node_words.specs.descent.Roots.{IsBlockOf}
use Rattle.node_words.proofs.HeldLaws.{Keeps, keeps_on, reached_child, reached_more}
use Rattle.node_words.proofs.GatherLaws.{tree_of-more}
use Rattle.node_words.specs.contents.CellShapes.{leaf_shape}
use Rattle.node_words.proofs.OfContents.LeafBits.{leaf_shape-some}
use Rattle.node_words.proofs.OfContents.OctantShapes.{octants_clear, octants_join}
use Rattle.edit_walk.specs.declared.outcomes.WalkedBlock.{WalkedBlock}
use Rattle.edit_walk.specs.declared.outcomes.WalkedBlock.TheVariants.{Stands, Made}
use Rattle.edit_walk.specs.cells.Tasks.{OneEach}
use Rattle.edit_walk.specs.blocks.Blocks.{AgainBeside, Aside, GainedShare, Gathers, HasTree, Joined, ReachesAll}
use Rattle.edit_walk.specs.Outcomes.{Comes, FindsOctants, Fills, FillsIn, FoundBeside, HasOctantNames, InHand, IsLaid, IsStanding, TakesUp, ToCome}
use Rattle.edit_walk.proofs.OfBlocks.AsideLaws.{aside_keeps, aside_numbers}
use Rattle.edit_walk.proofs.OfBlocks.JoinLaws.{canonical_up, gone_weigh}
use Rattle.edit_walk.proofs.OfBlocks.ReachLaws.{came_keeps, keeps_reaches}

-- ---- a block that was found

pub standing_more : (a b : List Tree) (level : ℕ) (target : Shape) (name : Option Name) → Keeps a b
    → IsStanding a level target name → IsStanding b level target name
standing_more a b level target name k s =
    record { tree = s.tree; of = tree_of-more a b level s.tree name k s.of; shape = s.shape }

-- what stands by no name is clear
pub standing_clear : (held : List Tree) (level : ℕ) (target : Shape) (name : Option Name)
    → name ≡ None → IsStanding held level target name → target ≡ Clear
standing_clear held level target name e s =
    sym s.shape ∙ ap shape_of (gone_from_root s.tree (s.of.root ∙ e)) ∙ shape_of-gone

pub standing_none : (held : List Tree) (level : ℕ) (target : Shape) → target ≡ Clear
    → IsStanding held level target None
standing_none held level target e =
    record {
      tree = Gone;
      of = record { root = refl; reached = λ n q. cc; levels = gone_at level };
      shape = shape_of-gone ∙ sym e;
    }

pub comes_keeps : (rest now : List Tree) (level : ℕ) (target : Shape) (block : WalkedBlock)
    → Comes rest level target block now → Keeps rest now
comes_keeps rest now level target (Stands name) c =
    record { weighs = λ f. omega (arith, ap (λ (ts : List Tree). weigh f ts) c.same) }
comes_keeps rest now level target (Made name) c = record { weighs = λ f. omega (arith, c.weighs f) }

abbrev pub found_standing : (rest held : List Tree) (full : FullBlocks) (level : ℕ) (target : Shape)
    (name : Option Name) → Aside held full rest → IsStanding rest level target name
    → FoundBeside rest level target (Stands name) held full
found_standing rest held full level target name a s =
    record { now = rest; comes = record { same = refl; standing = s }; aside = a }

abbrev pub found_share : (rest held : List Tree) (full : FullBlocks) (level : ℕ) (target : Shape)
    (name : Option Name) → GainedShare rest level target name held full
    → FoundBeside rest level target (Made name) held full
found_share rest held full level target name c =
    record { now = c.now; comes = c.comes; aside = c.aside }

comes_number : (rest now : List Tree) (level : ℕ) (target : Shape) (block : WalkedBlock)
    → Comes rest level target block now → number_of_trees now ≤ number_of_trees rest + 1
comes_number rest now level target (Stands name) c =
    omega (arith, ap (λ (ts : List Tree). number_of_trees ts) c.same)
comes_number rest now level target (Made name) c =
    omega (arith, c.weighs (λ _. 1), weight_of-one c.tree)

pub found_number : (rest held : List Tree) (level : ℕ) (target : Shape) (block : WalkedBlock)
    (full : FullBlocks) → FoundBeside rest level target block held full
    → number_of_trees held ≤ number_of_trees rest + 2
found_number rest held level target block full c =
    omega (
      arith,
      (aside_numbers held c.now full c.aside).most,
      comes_number rest c.now level target block c.comes,
    )

-- a share taken of what stands
pub taken_standing : (rest held new : List Tree) (full : FullBlocks) (level : ℕ) (target : Shape)
    (name share : Option Name) → (a : FoundBeside rest level target (Stands name) held full)
    → (GainedShare a.now level (shape_of a.comes.standing.tree) share new full)
    → Joined rest a.now level target share new full
taken_standing rest held new full level target name share a g =
    let s = a.comes.standing in
    let x =
    subst (λ (u : Shape). GainedShare a.now level u share new full) s.shape g in
    let y =
    subst (λ (r : List Tree). GainedShare r level target share new full) a.comes.same x in
    record {
      came = y;
      reaches = keeps_reaches a.now y.now
          (keeps_on a.now rest y.now
          (record { weighs = λ f. omega (arith, ap (λ (ts : List Tree). weigh f ts) a.comes.same) })
          (came_keeps rest new level target share full y));
    }

-- ---- the octants of a block

abbrev pub finds_none : (rest held : List Tree) (full : FullBlocks) (level : ℕ) (target : Shape)
    (cs ws : List (Option Name)) → ((k : ℕ) → name_in cs k ≡ None)
    → ((k : ℕ) → name_in ws k ≡ None) → Aside held full rest
    → FindsOctants rest level target cs ws 0 0 held full
finds_none rest held full level target cs ws h w a = record {
  now = rest;
  row = λ k. Gone;
  names = λ k. sym (h k);
  levels = λ k. gone_at level;
  each = λ k lt. absurd (omega arith);
  gone = λ k le. refl;
  unnamed = λ k le. w k;
  weighs = λ f. omega (arith, weight_of-gone f Gone refl);
  aside = a;
}

pub finds_empty : (rest held : List Tree) (full : FullBlocks) (level : ℕ) (target : Shape)
    (cs ws : List (Option Name)) (from n k : ℕ) → n ≤ k
    → FindsOctants rest level target cs ws from n held full → name_in cs k ≡ None
finds_empty rest held full level target cs ws from n k h a =
    sym (a.names k) ∙ ap root_of (a.gone k h)

pub finds_held : (rest held new : List Tree) (full : FullBlocks) (level : ℕ) (target : Shape)
    (cs ws : List (Option Name)) (from n : ℕ)
    → (a : FindsOctants rest level target cs ws from n held full) → Keeps held new
    → AreHeld new cs a.row
finds_held rest held new full level target cs ws from n a k = record {
  names = λ j lt. a.names j;
  weighs = λ f. omega (arith, a.weighs f, (aside_keeps held a.now full a.aside).weighs f, k.weighs f);
}

pub finds_number : (rest held : List Tree) (full : FullBlocks) (level : ℕ) (target : Shape)
    (cs ws : List (Option Name)) (from n : ℕ)
    → FindsOctants rest level target cs ws from n held full
    → number_of_trees held ≤ number_of_trees rest + 9
finds_number rest held full level target cs ws from n a =
    omega (
      arith,
      (aside_numbers held a.now full a.aside).most,
      a.weighs (λ _. 1),
      weight_below-one a.row 8,
    )

pub finds_keeps : (rest held : List Tree) (full : FullBlocks) (level : ℕ) (target : Shape)
    (cs ws : List (Option Name)) (from n : ℕ)
    → (a : FindsOctants rest level target cs ws from n held full) → Keeps rest a.now
finds_keeps rest held full level target cs ws from n a =
    record { weighs = λ f. omega (arith, a.weighs f) }

-- where a full bucket was met on the way to the next octant
abbrev pub met_finds : (rest held met : List Tree) (full other : FullBlocks) (level : ℕ)
    (target : Shape) (cs ws : List (Option Name)) (from n : ℕ)
    → (a : FindsOctants rest level target cs ws from n held full) → Aside met other a.now
    → FindsOctants rest level target cs ws from n met other
met_finds rest held met full other level target cs ws from n a m =
    record {
      now = a.now;
      row = a.row;
      names = a.names;
      levels = a.levels;
      each = a.each;
      gone = a.gone;
      unnamed = a.unnamed;
      weighs = a.weighs;
      aside = m;
    }

-- shares in hand went back
pub finds_back : (rest held met new : List Tree) (full : FullBlocks) (level : ℕ) (target : Shape)
    (cs ws : List (Option Name)) (from n : ℕ)
    → (a : FindsOctants rest level target cs ws from n held full)
    → ((f : Tree → ℕ) → weigh f met ≡ weigh f held) → LosesAll met a.row 8 new
    → Aside new full rest
finds_back rest held met new full level target cs ws from n a e l = record {
  tree = a.aside.tree;
  root = a.aside.root;
  levels = a.aside.levels;
  shape = a.aside.shape;
  names = a.aside.names;
  weighs = λ f. omega (arith, a.aside.weighs f, a.weighs f, l.weighs f, e f);
}

-- an octant of before, while more is held
in_hand_on : (mine other : Tree) (target : Shape) (k from next : ℕ) (name again : Option Name)
    → other ≡ mine → again ≡ name → from ≤ next → InHand mine target k from name
    → InHand other target k next again
in_hand_on mine other target k from next name again e q le h =
    record { shape = ap shape_of e ∙ h.shape; unnamed = λ l. q ∙ h.unnamed (omega (arith, le, l)) }

to_come_on : (a b : List Tree) (level : ℕ) (mine other : Tree) (target : Shape) (k from next : ℕ)
    (name again : Option Name) → Keeps a b → other ≡ mine → again ≡ name → next ≤ k
    → ToCome a level mine target k from name → ToCome b level other target k next again
to_come_on a b level mine other target k from next name again h e q le t =
    record {
      later = le;
      none = e ∙ t.none;
      standing = subst (λ (n : Option Name). IsStanding b level target n) (sym q)
          (standing_more a b level target name h t.standing);
    }

-- one more octant: a share of it came
finds_made : (rest held new : List Tree) (full other : FullBlocks) (level : ℕ) (target : Shape)
    (cs ds ws vs : List (Option Name)) (k : ℕ) (name : Option Name) → k < 8 → length cs ≡ 8
    → (a : FindsOctants rest level target cs ws 0 k held full)
    → (c : FoundBeside a.now level (octant_shape target k) (Made name) new other)
    → ds ≡ set cs k name → vs ≡ ws
    → FindsOctants rest level target ds vs 0 (k + 1) new other
finds_made rest held new full other level target cs ds ws vs k name lt e a c d w =
    let inside : k < length cs = omega arith in
    let t : Tree = c.comes.tree in
    let more : Keeps a.now c.now = record { weighs = λ f. omega (arith, c.comes.weighs f) } in
    let same : (j : ℕ) → name_in vs j ≡ name_in ws j = λ j. rw w refl in
    record {
      now = c.now;
      row = put_row a.row k t;
      names = λ j. elim (cases_eq j k) [
        | inl q ↦ rw (q, d, get_or-set_same cs k name None inside)
            (rw (put_row-same a.row k t) c.comes.root)
        | inr q ↦ rw (d, get_or-set_other cs k j name None q)
            (rw (put_row-other a.row k t j q) (a.names j))
      ];
      levels = λ j. elim (cases_eq j k) [
        | inl q ↦ rw (q, put_row-same a.row k t) c.comes.levels
        | inr q ↦ rw (put_row-other a.row k t j q) (a.levels j)
      ];
      each = λ j h. elim (cases_eq j k) [
        | inl q ↦ inl (record {
          shape = rw (q, put_row-same a.row k t) c.comes.shape;
          unnamed = λ l. same j ∙ a.unnamed j (omega arith);
        })
        | inr q ↦ elim (a.each j (omega arith)) [
          | inl x ↦ inl (in_hand_on (a.row j) (put_row a.row k t j) (octant_shape target j) j 0 0 (name_in ws j)
              (name_in vs j) (put_row-other a.row k t j q) (same j) (omega arith) x)
          | inr x ↦ inr (to_come_on a.now c.now level (a.row j) (put_row a.row k t j) (octant_shape target j) j 0
              0 (name_in ws j) (name_in vs j) more (put_row-other a.row k t j q) (same j) (omega arith) x)
        ]
      ];
      gone = λ j h. let ne : j ≢ k = omega arith in put_row-other a.row k t j ne
          ∙ a.gone j (omega arith);
      unnamed = λ j h. same j ∙ a.unnamed j (omega arith);
      weighs = λ f. omega (
        arith,
        a.weighs f,
        c.comes.weighs f,
        weight_below-put f a.row k t 8 lt,
        weight_of-gone f (a.row k) (ap root_of (a.gone k (omega arith))),
      );
      aside = c.aside;
    }

-- it stands
finds_stands : (rest held new : List Tree) (full other : FullBlocks) (level : ℕ) (target : Shape)
    (cs ds ws vs : List (Option Name)) (k : ℕ) (name : Option Name) → k < 8 → length ws ≡ 8
    → (a : FindsOctants rest level target cs ws 0 k held full)
    → (c : FoundBeside a.now level (octant_shape target k) (Stands name) new other)
    → ds ≡ cs → vs ≡ set ws k name
    → FindsOctants rest level target ds vs 0 (k + 1) new other
finds_stands rest held new full other level target cs ds ws vs k name lt e a c d w =
    let inside : k < length ws = omega arith in
    let more : Keeps a.now c.now = comes_keeps a.now c.now level (octant_shape target k) (Stands name) c.comes in
    let here : name_in vs k ≡ name = rw w (get_or-set_same ws k name None inside) in
    let there : (j : ℕ) → j ≢ k → name_in vs j ≡ name_in ws j =
    λ j ne. rw w (get_or-set_other ws k j name None ne) in
    record {
      now = c.now;
      row = a.row;
      names = λ j. rw d (a.names j);
      levels = a.levels;
      each = λ j h. elim (cases_eq j k) [
        | inl q ↦ inr (record {
          later = omega arith;
          none = a.gone j (omega arith);
          standing = rw q
              (subst (λ (n : Option Name). IsStanding c.now level (octant_shape target k) n) (sym here)
              (standing_more a.now c.now level (octant_shape target k) name more c.comes.standing));
        })
        | inr q ↦ elim (a.each j (omega arith)) [
          | inl x ↦ inl (in_hand_on (a.row j) (a.row j) (octant_shape target j) j 0 0 (name_in ws j)
              (name_in vs j) refl (there j q) (omega arith) x)
          | inr x ↦ inr (to_come_on a.now c.now level (a.row j) (a.row j) (octant_shape target j) j 0 0
              (name_in ws j) (name_in vs j) more refl (there j q) (omega arith) x)
        ]
      ];
      gone = λ j h. a.gone j (omega arith);
      unnamed = λ j h. let ne : j ≢ k = omega arith in there j ne ∙ a.unnamed j (omega arith);
      weighs = λ f. omega (arith, a.weighs f, ap (λ (ts : List Tree). weigh f ts) c.comes.same);
      aside = c.aside;
    }

pub finds_one : (rest held new : List Tree) (full other : FullBlocks) (level : ℕ) (target : Shape)
    (cs ds ws vs : List (Option Name)) (k : ℕ) (block : WalkedBlock) → k < 8 → length cs ≡ 8
    → length ws ≡ 8 → (a : FindsOctants rest level target cs ws 0 k held full)
    → (c : FoundBeside a.now level (octant_shape target k) block new other)
    → IsLaid block k cs ws ds vs
    → (b : FindsOctants rest level target ds vs 0 (k + 1) new other) × (b.now ≡ c.now)
unfolding finds_made finds_stands
finds_one rest held new full other level target cs ds ws vs k (Stands name) lt e l a c (d, w) =
    (finds_stands rest held new full other level target cs ds ws vs k name lt l a c d w, refl)
finds_one rest held new full other level target cs ds ws vs k (Made name) lt e l a c (d, w) =
    (finds_made rest held new full other level target cs ds ws vs k name lt e a c d w, refl)

-- ---- shares of those that stand

-- an octant that has a name is yet to come
pub to_come : (rest held : List Tree) (full : FullBlocks) (level : ℕ) (target : Shape)
    (cs ws : List (Option Name)) (k : ℕ) (n : Name) → k < 8
    → (a : FindsOctants rest level target cs ws k 8 held full) → name_in ws k ≡ Some n
    → ToCome a.now level (a.row k) (octant_shape target k) k k (name_in ws k)
to_come rest held full level target cs ws k n lt a e = elim (a.each k lt) [
  | inl x ↦ absurd (let w : None ≡ Some n = sym (x.unnamed (omega arith)) ∙ e in cc)
  | inr x ↦ x
]

-- one of them that has no name
pub fill_none : (rest held : List Tree) (full : FullBlocks) (level : ℕ) (target : Shape)
    (cs ws : List (Option Name)) (k : ℕ) → name_in ws k ≡ None
    → FindsOctants rest level target cs ws k 8 held full
    → FindsOctants rest level target cs ws (k + 1) 8 held full
fill_none rest held full level target cs ws k e a = record {
  now = a.now;
  row = a.row;
  names = a.names;
  levels = a.levels;
  each = λ j h. elim (a.each j h) [
    | inl x ↦ inl (in_hand_on (a.row j) (a.row j) (octant_shape target j) j k (k + 1) (name_in ws j)
        (name_in ws j) refl refl (omega arith) x)
    | inr x ↦ elim (cases_eq j k) [
      | inl q ↦ inl (record {
        shape = ap shape_of x.none ∙ shape_of-gone
            ∙ sym (standing_clear a.now level (octant_shape target j) (name_in ws j) (rw q e) x.standing);
        unnamed = λ l. absurd (omega arith);
      })
      | inr q ↦ inr (record { later = omega (arith, x.later); none = x.none; standing = x.standing })
    ]
  ];
  gone = a.gone;
  unnamed = a.unnamed;
  weighs = a.weighs;
  aside = a.aside;
}

-- one more share
pub fill_one : (rest held new : List Tree) (full : FullBlocks) (level : ℕ) (target : Shape)
    (cs ds ws : List (Option Name)) (k : ℕ) (n m : Name) → (lt : k < 8) → length cs ≡ 8
    → (a : FindsOctants rest level target cs ws k 8 held full) → (e : name_in ws k ≡ Some n)
    → m ≡ n → Gains held (to_come rest held full level target cs ws k n lt a e).standing.tree new
    → ds ≡ set cs k (Some m)
    → FindsOctants rest level target ds ws (k + 1) 8 new full
fill_one rest held new full level target cs ds ws k n m lt len a e r g d =
    let x = to_come rest held full level target cs ws k n lt a e in
    let t : Tree = x.standing.tree in
    let root : root_of t ≡ Some n = x.standing.of.root ∙ e in
    let inside : k < length cs = omega arith in
    let more : Keeps a.now (t ∷ a.now) =
    record { weighs = λ f. omega (arith, weigh-cons f t a.now) } in
    record {
      now = t ∷ a.now;
      row = put_row a.row k t;
      names = λ j. elim (cases_eq j k) [
        | inl q ↦ rw (q, d, get_or-set_same cs k (Some m) None inside)
            (rw (put_row-same a.row k t) (root ∙ ap Some (sym r)))
        | inr q ↦ rw (d, get_or-set_other cs k j (Some m) None q)
            (rw (put_row-other a.row k t j q) (a.names j))
      ];
      levels = λ j. elim (cases_eq j k) [
        | inl q ↦ rw (q, put_row-same a.row k t) x.standing.of.levels
        | inr q ↦ rw (put_row-other a.row k t j q) (a.levels j)
      ];
      each = λ j h. elim (cases_eq j k) [
        | inl q ↦ inl (record {
          shape = rw (q, put_row-same a.row k t) x.standing.shape;
          unnamed = λ l. absurd (omega arith);
        })
        | inr q ↦ elim (a.each j h) [
          | inl y ↦ inl (in_hand_on (a.row j) (put_row a.row k t j) (octant_shape target j) j k (k + 1)
              (name_in ws j) (name_in ws j) (put_row-other a.row k t j q) refl (omega arith) y)
          | inr y ↦ inr (to_come_on a.now (t ∷ a.now) level (a.row j) (put_row a.row k t j)
              (octant_shape target j) j k (k + 1) (name_in ws j) (name_in ws j) more
              (put_row-other a.row k t j q) refl (omega (arith, y.later)) y)
        ]
      ];
      gone = λ j h. let ne : j ≢ k = omega arith in put_row-other a.row k t j ne ∙ a.gone j h;
      unnamed = a.unnamed;
      weighs = λ f. omega (
        arith,
        a.weighs f,
        weigh-cons f t a.now,
        weight_below-put f a.row k t 8 lt,
        weight_of-there f t n root,
        weight_of-gone f (a.row k) (ap root_of x.none),
      );
      aside = record {
        tree = a.aside.tree;
        root = a.aside.root;
        levels = a.aside.levels;
        shape = a.aside.shape;
        names = a.aside.names;
        weighs = λ f. omega (arith, a.aside.weighs f, g.weighs f, weigh-cons f t a.now);
      };
    }

pub now_filled : (rest held : List Tree) (full : FullBlocks) (level : ℕ) (target : Shape)
    (cs ws : List (Option Name)) (k : ℕ) → 8 ≤ k
    → (a : FindsOctants rest level target cs ws k 8 held full)
    → (g : Gathers rest level target cs 8 held full) × (g.now ≡ a.now)
now_filled rest held full level target cs ws k le a = (
  record {
    now = a.now;
    gathered = record {
      row = a.row;
      names = a.names;
      levels = a.levels;
      shapes = λ j h. elim (a.each j h) [
        | inl x ↦ x.shape
        | inr x ↦ absurd (omega (arith, x.later))
      ];
      gone = a.gone;
      weighs = a.weighs;
    };
    aside = a.aside;
  },
  refl,
)

-- ---- the block of octants that all stand

abbrev none_weigh : (rest held : List Tree) (full : FullBlocks) (level : ℕ) (target : Shape)
    (cs ws : List (Option Name)) → (a : FindsOctants rest level target cs ws 0 8 held full)
    → ((k : ℕ) → k < 8 → name_in cs k ≡ None) → (f : Tree → ℕ) → weigh f a.now ≡ weigh f rest
none_weigh rest held full level target cs ws a none f =
    omega (
      arith,
      a.weighs f,
      gone_weigh f a.row 8 (λ k lt. gone_from_root (a.row k) (a.names k ∙ none k lt)),
    )

pub stays_aside : (rest held : List Tree) (full : FullBlocks) (level : ℕ) (target : Shape)
    (cs ws : List (Option Name)) → FindsOctants rest level target cs ws 0 8 held full
    → ((k : ℕ) → k < 8 → name_in cs k ≡ None) → Aside held full rest
stays_aside rest held full level target cs ws a none = record {
  tree = a.aside.tree;
  root = a.aside.root;
  levels = a.aside.levels;
  shape = a.aside.shape;
  names = a.aside.names;
  weighs = λ f. omega (arith, a.aside.weighs f, none_weigh rest held full level target cs ws a none f);
}

pub stays_reaches : (rest held : List Tree) (full : FullBlocks) (level : ℕ) (target : Shape)
    (cs ws : List (Option Name)) → (a : FindsOctants rest level target cs ws 0 8 held full)
    → ((k : ℕ) → k < 8 → name_in cs k ≡ None) → ReachesAll a.now rest
stays_reaches rest held full level target cs ws a none =
    keeps_reaches a.now rest
    (record { weighs = λ f. omega (arith, none_weigh rest held full level target cs ws a none f) })

-- trees of one name have one shape
named_shape : (held : List Tree) (t u : Tree) (name : Option Name) → OneEach held
    → ((n : Name) → name ≡ Some n → IsReached held t) → ((n : Name) → name ≡ Some n → IsReached held u)
    → root_of t ≡ name → root_of u ≡ name → shape_of t ≡ shape_of u
named_shape held t u None one p q e f =
    ap shape_of (gone_from_root t e ∙ sym (gone_from_root u f))
named_shape held t u (Some n) one p q e f = ap shape_of (one t u (p n refl) (q n refl) (e ∙ sym f))

same_octants : (level : ℕ) (s t : Shape) → IsCanonical (suc level) s → IsCanonical (suc level) t
    → ((k : ℕ) → k < 8 → octant_shape s k ≡ octant_shape t k) → s ≡ t
unfolding IsCanonical
same_octants level Clear t c d e =
    sym (octants_clear level t d (λ k lt. sym (e k lt) ∙ octant_shape-clear k))
same_octants level (Leaf b) t c d e = absurd c.0
same_octants level (Branch a1 a2 a3 a4 a5 a6 a7 a8) t p d e =
    let (k, lt, ne) = p.0 in
    let q = octants_join level t k d (λ x. ne (e k lt ∙ x)) in
    let all : Branch a1 a2 a3 a4 a5 a6 a7 a8 ≡ branch_of (λ j. octant_shape t j) =
    cc (
      e 0 (omega arith),
      e 1 (omega arith),
      e 2 (omega arith),
      e 3 (omega arith),
      e 4 (omega arith),
      e 5 (omega arith),
      e 6 (omega arith),
      e 7 (omega arith),
    ) in
    all ∙ q

octant_stays : (rest held : List Tree) (full : FullBlocks) (level : ℕ) (target : Shape)
    (cs ws : List (Option Name)) (old : Option Name) (t : Tree) (k : ℕ) → k < 8 → OneEach held
    → (a : FindsOctants rest (level - 1) target cs ws 0 8 held full)
    → ((j : ℕ) → j < 8 → name_in cs j ≡ None) → IsBlockOf held level old t
    → root_of (child_of t k) ≡ name_in ws k
    → shape_of (child_of t k) ≡ octant_shape target k
octant_stays rest held full level target cs ws old t k lt one a none b e = elim (a.each k lt) [
  | inl x ↦
      ap shape_of (gone_from_root (child_of t k) (e ∙ x.unnamed (omega arith)))
      ∙ ap shape_of (sym (gone_from_root (a.row k) (a.names k ∙ none k lt)))
      ∙ x.shape
  | inr x ↦
      named_shape held (child_of t k) x.standing.tree (name_in ws k) one
      (λ n q. let (m, r) = root_from_child t k n (e ∙ q) in
      reached_child held t k (b.reached m (sym b.root ∙ r)))
      (λ n q. reached_more a.now held x.standing.tree (aside_keeps held a.now full a.aside)
      (x.standing.of.reached n q)) e x.standing.of.root
      ∙ x.standing.shape
]

-- the old block is the target
pub stays_shape : (rest held : List Tree) (full : FullBlocks) (level : ℕ) (target : Shape)
    (cs ws : List (Option Name)) (old : Option Name) (t : Tree) → 1 ≤ level → OneEach held
    → IsCanonical level target → (a : FindsOctants rest (level - 1) target cs ws 0 8 held full)
    → ((j : ℕ) → j < 8 → name_in cs j ≡ None) → HasOctantNames held level old ws
    → IsBlockOf held level old t → IsCanonical level (shape_of t) → shape_of t ≡ target
stays_shape rest held full level target cs ws old t h one c a none names b d =
    same_octants (level - 1) (shape_of t) target (canonical_up level (shape_of t) h d)
    (canonical_up level target h c)
    (λ k lt. sym (shape_of-child t k)
    ∙ octant_stays rest held full level target cs ws old t k lt one a none b (names t b k lt))

-- ---- leaves

pub leaf_of_bits : (s : Shape) → IsCanonical 0 s → leaf_shape (bits_of s) ≡ s
unfolding IsCanonical
leaf_of_bits Clear c = refl
leaf_of_bits (Leaf b) c = leaf_shape-some b (omega (arith, c.0))
leaf_of_bits (Branch a1 a2 a3 a4 a5 a6 a7 a8) c = absurd c

-- ---- on the way to shares of all

-- those before octant k that stand have their shares, and nothing that was reached is lost
pub record Filling (rest was : List Tree) (level : ℕ) (target : Shape)
    (children standing : List (Option Name)) (k : ℕ) (held : List Tree) (full : FullBlocks)
    : Type 0 where
  pub finds : FindsOctants rest level target children standing k 8 held full
  pub keeps : Keeps was finds.now

pub filling_none : (rest was : List Tree) (level : ℕ) (target : Shape)
    (cs ws : List (Option Name)) (k : ℕ) (held : List Tree) (full : FullBlocks)
    → name_in ws k ≡ None → Filling rest was level target cs ws k held full
    → Filling rest was level target cs ws (k + 1) held full
unfolding fill_none
filling_none rest was level target cs ws k held full e f =
    record { finds = fill_none rest held full level target cs ws k e f.finds; keeps = f.keeps }

pub filling_one : (rest was : List Tree) (level : ℕ) (target : Shape)
    (cs ds ws : List (Option Name)) (k : ℕ) (held new : List Tree) (full : FullBlocks) (n m : Name)
    → k < 8 → length cs ≡ 8 → name_in ws k ≡ Some n → m ≡ n
    → ((t : Tree) → IsReached held t → root_of t ≡ Some n → Gains held t new)
    → ds ≡ set cs k (Some m) → Filling rest was level target cs ws k held full
    → Filling rest was level target ds ws (k + 1) new full
unfolding fill_one
filling_one rest was level target cs ds ws k held new full n m lt len e r gains d f =
    let a = f.finds in
    let x = to_come rest held full level target cs ws k n lt a e in
    let t : Tree = x.standing.tree in
    let reached =
    reached_more a.now held t (aside_keeps held a.now full a.aside) (x.standing.of.reached n e) in
    let g = gains t reached (x.standing.of.root ∙ e) in
    record {
      finds = fill_one rest held new full level target cs ds ws k n m lt len a e r g d;
      keeps = record { weighs = λ h. omega (arith, f.keeps.weighs h, weigh-cons h t a.now) };
    }

pub filling_step : (rest was : List Tree) (level : ℕ) (target : Shape)
    (cs ds ws : List (Option Name)) (k : ℕ) (held new : List Tree) (full : FullBlocks) (name : Option Name)
    → k < 8 → length cs ≡ 8 → name_in ws k ≡ name → FillsIn name k cs ds held new
    → Filling rest was level target cs ws k held full
    → Filling rest was level target ds ws (k + 1) new full
filling_step rest was level target cs ds ws k held new full None lt len e (d, h) f =
    subst (λ (xs : List (Option Name)). Filling rest was level target xs ws (k + 1) new full) (sym d)
    (subst (λ (ts : List Tree). Filling rest was level target cs ws (k + 1) ts full) (sym h)
    (filling_none rest was level target cs ws k held full e f))
filling_step rest was level target cs ds ws k held new full (Some n) lt len e (d, g) f =
    filling_one rest was level target cs ds ws k held new full n n lt len e refl g d f

pub filling_reaches : (rest was : List Tree) (level : ℕ) (target : Shape)
    (cs ws : List (Option Name)) (k : ℕ) (held : List Tree) (full : FullBlocks) (n : Name) → k < 8
    → name_in ws k ≡ Some n → Filling rest was level target cs ws k held full → ReachesName held n
filling_reaches rest was level target cs ws k held full n lt e f =
    let a = f.finds in
    let x = to_come rest held full level target cs ws k n lt a e in
    record {
      tree = x.standing.tree;
      reached = reached_more a.now held x.standing.tree (aside_keeps held a.now full a.aside)
          (x.standing.of.reached n e);
      root = x.standing.of.root ∙ e;
    }

pub filling_empty : (rest was : List Tree) (level : ℕ) (target : Shape)
    (cs ws : List (Option Name)) (k : ℕ) (held : List Tree) (full : FullBlocks) (n : Name) → k < 8
    → name_in ws k ≡ Some n → Filling rest was level target cs ws k held full
    → name_in cs k ≡ None
filling_empty rest was level target cs ws k held full n lt e f =
    let x = to_come rest held full level target cs ws k n lt f.finds e in
    sym (f.finds.names k) ∙ ap root_of x.none

pub all_filled : (rest was : List Tree) (level : ℕ) (target : Shape) (cs ws : List (Option Name))
    (k : ℕ) (held : List Tree) (full : FullBlocks) → 8 ≤ k
    → Filling rest was level target cs ws k held full → Fills rest was level target cs held full
all_filled rest was level target cs ws k held full le f =
    let (g, same) = now_filled rest held full level target cs ws k le f.finds in
    record {
      gathers = g;
      reaches = subst (λ (h : List Tree). ReachesAll was h) (sym same)
          (keeps_reaches was f.finds.now f.keeps);
    }

-- ---- names of octants

pub names_more : (t : Tree) (ws : List (Option Name)) (k : ℕ) (part : Option Name)
    → ((j : ℕ) → j < k → root_of (child_of t j) ≡ name_in ws j) → root_of (child_of t k) ≡ part
    → part ≡ name_in ws k → (j : ℕ) → j < k + 1 → root_of (child_of t j) ≡ name_in ws j
names_more t ws k part h e q j lt = elim (cases_eq j k) [
  | inl same ↦ rw same (e ∙ q)
  | inr ne ↦ h j (omega arith)
]

-- ---- a share of what was found

pub found_there : (rest held : List Tree) (full : FullBlocks) (level : ℕ) (target : Shape)
    (name : Option Name) → FoundBeside rest level target (Stands name) held full
    → HasTree held name
found_there rest held full level target name a = (
  level,
  a.comes.standing.tree,
  tree_of-more rest held level a.comes.standing.tree name
      (keeps_on rest a.now held (comes_keeps rest a.now level target (Stands name) a.comes)
      (aside_keeps held a.now full a.aside)) a.comes.standing.of,
)

pub takes_standing : (name share : Option Name) (old new : StoreState)
    → AgainBeside name share old new → TakesUp (Stands name) share old new
takes_standing name share old new again rest full level target a =
    let k = comes_keeps rest a.now level target (Stands name) a.comes in
    let s = a.comes.standing in
    taken_standing rest old.held new.held full level target name share a
    (again a.now full level s.tree a.aside (tree_of-more rest a.now level s.tree name k s.of))

pub takes_made : (name : Option Name) (seen : StoreState) → TakesUp (Made name) name seen seen
takes_made name seen rest full level target a = record {
  came = record { now = a.now; comes = a.comes; aside = a.aside };
  reaches = record { each = λ t r. r };
}

-- ---- rows stay as long

pub record StayLong (cs ds : List (Option Name)) (ws vs : List (Option Name)) : Type 0 where
  pub children : length ds ≡ length cs
  pub standing : length vs ≡ length ws

pub laid_long : (block : WalkedBlock) (k : ℕ) (cs ds ws vs : List (Option Name))
    → IsLaid block k cs ws ds vs → StayLong cs ds ws vs
laid_long (Stands name) k cs ds ws vs (d, w) =
    record { children = ap length d; standing = ap length w ∙ length-set ws k name }
laid_long (Made name) k cs ds ws vs (d, w) =
    record { children = ap length d ∙ length-set cs k name; standing = ap length w }

pub filled_long : (name : Option Name) (k : ℕ) (cs ds : List (Option Name)) (held new : List Tree)
    → FillsIn name k cs ds held new → length ds ≡ length cs
filled_long None k cs ds held new (d, h) = ap length d
filled_long (Some n) k cs ds held new (d, h) = ap length d ∙ length-set cs k (Some n)
