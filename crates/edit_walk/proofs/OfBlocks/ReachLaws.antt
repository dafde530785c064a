-- What was reached stays reached while shares come and are joined.
use Rattle.std.proofs.Common.{◌≡◌, ℕ, zero, suc, ◌+◌, ◌-◌, ◌<◌, ◌≤◌, Some, None, Option, List, [], ◌∷◌, refl, sym, ◌∙◌, ap, subst, arith, inl, inr}
use Rattle.std.proofs.lemmas.Bool.{cases_lt}
use Rattle.edit_walk.specs.declared.blocks.full_blocks.FullBlocks.{FullBlocks}
use Rattle.node_words.specs.declared.shapes.names.Name.{Name}
use Rattle.node_words.specs.shapes.Shape.{Shape, IsCanonical}
use Rattle.node_words.specs.shapes.Tree.{Tree, Gone, LeafAt, NodeAt, node_at, IsSubtree, below}
use Rattle.node_words.specs.shapes.Weights.{weigh, weight_of, weight_below}
use Rattle.node_words.proofs.OfShapes.TreeLaws.{child_of-node_at}
use Rattle.node_words.proofs.OfShapes.TreeEqual.{same_tree, same_tree-self, same_tree-some}
use Rattle.node_words.proofs.OfShapes.WeightLaws.{weigh-cons, weigh-nil}
use Rattle.node_words.specs.Held.{IsHeld, Joins, HasChild, name_in}
use Rattle.node_words.specs.Gathering.{IsTreeOf}
use Rattle.node_words.proofs.HeldLaws.{Keeps, reached_more}
use Rattle.edit_walk.specs.blocks.Blocks.{GainedShare, Gathers, ReachesAll, Joined}
use Rattle.edit_walk.proofs.OfBlocks.JoinLaws.{join_none, join_some}

-- what is reached stays reached

pub keeps_reaches : (a b : List Tree) → Keeps a b → ReachesAll a b
keeps_reaches a b k = record { each = λ t r. reached_more a b t k r }

weighs_held : (over : Tree) (ts : List Tree) → 1 ≤ weigh (same_tree over) ts → IsHeld ts over
weighs_held over [] h = absurd (omega (arith, weigh-nil (same_tree over)))
weighs_held over (t ∷ ts) h = elim (cases_lt 0 (same_tree over t)) [
  | inl p ↦ let e = same_tree-some over t p in
      record { weighs = λ f. let w : f over ≡ f t = ap f e in omega (arith, w, weigh-cons f t ts) }
  | inr n ↦ let rest = weighs_held over ts (omega (arith, weigh-cons (same_tree over) t ts)) in
      record { weighs = λ f. omega (arith, rest.weighs f, weigh-cons f t ts) }
]

record InRow (over : Tree) (row : ℕ → Tree) (n : ℕ) : Type 0 where
  k : ℕ
  inside : k < n
  is : over ≡ row k

weight_at : (f : Tree → ℕ) (t : Tree) → 1 ≤ weight_of f t → weight_of f t ≡ f t
unfolding weight_of
weight_at f Gone h = absurd (omega arith)
weight_at f (LeafAt n b) h = refl
weight_at f (NodeAt n a b c d e g i j) h = refl

weighs_row : (over : Tree) (row : ℕ → Tree) (n : ℕ) → 1 ≤ weight_below (same_tree over) row n
    → InRow over row n
weighs_row over row zero h = absurd (omega arith)
weighs_row over row (suc n) h = elim (cases_lt 0 (weight_of (same_tree over) (row n))) [
  | inl p ↦ record {
    k = n;
    inside = omega arith;
    is = same_tree-some over (row n)
        (omega (arith, p, weight_at (same_tree over) (row n) p));
  }
  | inr z ↦ let r = weighs_row over row n (omega (arith, h, z)) in
      record { k = r.k; inside = omega (arith, r.inside); is = r.is }
]

-- a tree that stands in a row, or in the rest, stands below the node of the row, or in the rest
joins_reaches : (rest was : List Tree) (row : ℕ → Tree) (n : Name)
    → ((f : Tree → ℕ) → weigh f was ≡ weight_below f row 8 + weigh f rest)
    → ReachesAll was (node_at n row ∷ rest)
joins_reaches rest was row n w = record {
  each = λ t r. elim (cases_lt 0 (weigh (same_tree r.over) rest)) [
    | inl p ↦
        let h = weighs_held r.over rest p in
        record {
          over = r.over;
          is_held = record {
            weighs = λ f. omega
                (arith, h.weighs f, weigh-cons f (node_at n row) rest);
          };
          stands = r.stands;
        }
    | inr z ↦
        let i =
        weighs_row r.over row 8
        (omega (
          arith,
          r.is_held.weighs (same_tree r.over),
          same_tree-self r.over,
          w
              (same_tree r.over),
          z,
        )) in
        record {
          over = node_at n row;
          is_held = record { weighs = λ f. omega (arith, weigh-cons f (node_at n row) rest) };
          stands = below i.k
              (subst (λ (u : Tree). IsSubtree t u)
              (i.is ∙ sym (child_of-node_at n row i.k i.inside)) r.stands);
        }
  ];
}

pub join_none_joined : (rest held : List Tree) (full : FullBlocks) (level : ℕ) (target : Shape)
    (cs : List (Option Name)) → 1 ≤ level → IsCanonical level target
    → (a : Gathers rest (level - 1) target cs 8 held full) → ((k : ℕ) → k < 8 → name_in cs k ≡ None)
    → Joined rest a.now level target None held full
join_none_joined rest held full level target cs h c a none =
    record {
      came = join_none rest held full level target cs h c a none;
      reaches =
          record { each = λ t r. r };
    }

pub join_some_joined : (rest held new : List Tree) (full : FullBlocks) (level : ℕ) (target : Shape)
    (cs : List (Option Name)) (n : Name) → 1 ≤ level → IsCanonical level target → HasChild cs
    → n.level ≡ level → (a : Gathers rest (level - 1) target cs 8 held full)
    → Joins held a.gathered.row n new → Joined rest a.now level target (Some n) new full
join_some_joined rest held new full level target cs n h c some l a j = record {
  came = join_some rest held new full level target cs n h c some l a j;
  reaches = joins_reaches rest a.now a.gathered.row n (λ f. a.gathered.weighs f);
}

pub came_keeps : (rest held : List Tree) (level : ℕ) (target : Shape) (name : Option Name) (full : FullBlocks)
    → (w : GainedShare rest level target name held full) → Keeps rest w.now
came_keeps rest held level target name full w =
    record { weighs = λ f. omega (arith, w.comes.weighs f) }

pub tree_reached : (a b : List Tree) (level : ℕ) (t : Tree) (name : Option Name) → ReachesAll a b
    → IsTreeOf a level t name → IsTreeOf b level t name
tree_reached a b level t name r o =
    record { root = o.root; reached = λ n e. r.each t (o.reached n e); levels = o.levels }
