-- Shares that go back, one after the other and with what only they kept.
use Rattle.std.proofs.Common.{◌≡◌, ℕ, zero, suc, ◌+◌, ◌-◌, ◌*◌, ◌<◌, ◌≤◌, Some, None, Option, List, [], ◌∷◌, ◌++◌, refl, sym, ◌∙◌, ap, subst, inl, inr, arith, length-append}
use Rattle.std.proofs.lemmas.List.Elements.{All-weaker}
use Rattle.node_words.specs.declared.shapes.names.Name.{Name}
use Rattle.node_words.specs.shapes.Shape.{Shape, IsPart, within}
use Rattle.node_words.specs.shapes.Tree.{Tree, root_of, child_of, shape_of}
use Rattle.node_words.specs.shapes.Weights.{weigh, weight_below, number_of_trees}
use Rattle.node_words.proofs.OfShapes.TreeLaws.{shape_of-child}
use Rattle.node_words.proofs.OfShapes.WeightLaws.{weight_of-there, weight_of-gone, weight_below-one}
use Rattle.node_words.specs.Gathering.{Loses, LosesAll, MayHold}
use Rattle.node_words.specs.Held.{AreBelow, AreHeld, Gains, HoldsName, IsHeld, IsUnheldBranch, ReturnsWithin, name_in, most_before_freeing}
use Rattle.node_words.proofs.GatherLaws.{may_next}
use Rattle.node_words.proofs.HeldLaws.{child_level, held_reached, reached_levels}
use Rattle.node_table.specs.ViewFacts.{ViewFacts}
use Rattle.node_table.specs.Views.{SeatView}
use Rattle.node_table.proofs.OnlyShares.{only_held, only_itself, only_on}
use Rattle.node_table.proofs.ReadLaws.{has_no_child}
use Rattle.node_table.specs.Acts.{FreesUnderTurn, LowersUnderTurn}
use Rattle.node_table.specs.Lowers.{AreChildrenIn}
use Rattle.release.specs.Returns.{IsLost, IsPartOfRow, GaveBack, GaveRowBack}
use Rattle.release.proofs.Lost.{lost_none, lost_on, lost_into, freed_stays, freed_lost, node_or_none, no_row}

now_held : (v w : SeatView) (held : List Tree) → w.held ≡ held → (f : Tree → ℕ)
    → weigh f w.held ≡ weigh f held
now_held v w held e f = ap (λ ts. weigh f ts) e

-- another reference is left
pub gave_left : (v w : SeatView) (t : Tree) (n : Name) (steps now : ℕ) → root_of t ≡ Some n
    → LowersUnderTurn v t w → now ≡ steps + 1 → GaveBack v t w steps now
gave_left v w t n steps now root e one =
    let held : w.held ≡ e.held = ap (λ (x : SeatView). x.held) e.is in
    let there = weight_of-there (λ _. 1) t n root in
    record {
      only = only_held v w e.held e.is;
      loses = record {
        weighs = λ f. (let a = e.weighs f in let b = now_held v w e.held held f in
            let c = weight_of-there f t n root in omega arith);
      };
      freed = [];
      lost = lost_none (λ p. IsPart p (shape_of t)) v.held w.held (λ p x. record {
        tree = x.tree;
        is_held = record {
          weighs = λ f. (let a = e.weighs f in let b = now_held v w e.held held f in
              let c = x.is_held.weighs f in omega arith);
        };
        is_part = x.is_part;
      });
      turns = omega arith;
    }

-- what a free leaves, by what is held after it
freed_weighs : (v m : SeatView) (t : Tree) → FreesUnderTurn v t m → (f : Tree → ℕ)
    → weigh f m.held + f t ≡ weight_below f (λ k. child_of t k) 8 + weigh f v.held
freed_weighs v m t e f =
    let held : m.held ≡ e.held = ap (λ (x : SeatView). x.held) e.is in
    let a = e.weighs f in let b = now_held v m e.held held f in omega arith

freed_unheld : (v m : SeatView) (t : Tree) → FreesUnderTurn v t m → (u : Tree) → IsHeld m.held u
    → ¬ IsPart (shape_of t) (shape_of u)
freed_unheld v m t e u h =
    let held : m.held ≡ e.held = ap (λ (x : SeatView). x.held) e.is in
    e.unheld u (subst (λ ts. IsHeld ts u) held h)

-- a part of a child is a part of the whole
row_part : (t : Tree) (p : Shape) → IsPartOfRow (λ k. child_of t k) p → IsPart p (shape_of t)
row_part t p x =
    within x.octant (subst (λ s. IsPart p s) (shape_of-child t x.octant) x.is_part)

-- a node goes, and then its children
pub gave_freed : (v m w : SeatView) (t : Tree) (n : Name) (steps middle now : ℕ)
    → root_of t ≡ Some n → IsHeld v.held t → FreesUnderTurn v t m → middle ≡ steps + 1
    → GaveRowBack m (λ k. child_of t k) 8 w middle now → GaveBack v t w steps now
gave_freed v m w t n steps middle now root h e one r =
    let held : m.held ≡ e.held = ap (λ (x : SeatView). x.held) e.is in
    let there = weight_of-there (λ _. 1) t n root in
    let rest = lost_into (IsPartOfRow (λ k. child_of t k)) (λ p. IsPart p (shape_of t)) m.held
    w.held r.freed (row_part t) r.lost in
    let weighs = freed_weighs v m t e in
    let turns = r.turns in
    let only = only_on v m w (only_held v m e.held e.is) r.only in
    let loses : Loses v.held t w.held = record {
      weighs = λ f. (let a = weighs f in let b = r.loses.weighs f in
          let c = weight_of-there f t n root in omega arith);
    } in
    elim (node_or_none t) [
      | inl branch ↦
          (let few = weight_below-one (λ k. child_of t k) 8 in
          record {
            only = only;
            loses = loses;
            freed = shape_of t ∷ r.freed;
            lost = lost_on (λ p. IsPart p (shape_of t)) v.held m.held w.held (shape_of t ∷ [])
                r.freed (freed_lost v.held m.held t n root h weighs
                (freed_unheld v m t e) branch) rest;
            turns = omega arith;
          })
      | inr none ↦
          (let few = no_row (λ _. 1) t 8 none in
          record {
            only = only;
            loses = loses;
            freed = r.freed;
            lost = lost_on (λ p. IsPart p (shape_of t)) v.held m.held w.held [] r.freed
                (lost_none (λ p. IsPart p (shape_of t)) v.held m.held
                (freed_stays v.held m.held t h weighs))
                rest;
            turns = omega arith;
          })
    ]

-- no node, and nothing to give back
pub gave_none : (v : SeatView) (t : Tree) (steps : ℕ) → v.turn ≡ None → root_of t ≡ None
    → GaveBack v t v steps steps
gave_none v t steps idle none = record {
  only = only_itself v idle;
  loses = record { weighs = λ f. (let a = weight_of-gone f t none in omega arith) };
  freed = [];
  lost = lost_none (λ p. IsPart p (shape_of t)) v.held v.held (λ p x. x);
  turns = omega arith;
}

-- no child of a row went back yet
pub row_begins : (v : SeatView) (row : ℕ → Tree) (steps : ℕ) → v.turn ≡ None
    → GaveRowBack v row 0 v steps steps
row_begins v row steps idle = record {
  only = only_itself v idle;
  loses = record { weighs = λ f. omega arith };
  freed = [];
  lost = lost_none (IsPartOfRow row) v.held v.held (λ p x. x);
  turns = omega arith;
}

-- one more child goes
pub row_goes_on : (v m w : SeatView) (row : ℕ → Tree) (k steps middle now : ℕ)
    → GaveRowBack v row k m steps middle → GaveBack m (row k) w middle now
    → GaveRowBack v row (k + 1) w steps now
row_goes_on v m w row k steps middle now a b =
    let z : k + 1 ≡ suc k = omega arith in
    let next = λ (f : Tree → ℕ). ap (λ (j : ℕ). weight_below f row j) z in
    let one = next (λ _. 1) in
    let turns_a = a.turns in let turns_b = b.turns in
    let long = length-append a.freed b.freed in
    record {
      only = only_on v m w a.only b.only;
      loses = record {
        weighs = λ f. (let x = a.loses.weighs f in let y = b.loses.weighs f in
            let s = next f in omega arith);
      };
      freed = a.freed ++ b.freed;
      lost = lost_on (IsPartOfRow row) v.held m.held w.held a.freed b.freed a.lost
          (lost_into (λ p. IsPart p (shape_of (row k))) (IsPartOfRow row) m.held w.held b.freed
          (λ p x. record { octant = k; is_part = x }) b.lost);
      turns = omega arith;
    }

-- the children of a freed node are held
pub children_held : (v m : SeatView) (t : Tree) (children : List (Option Name)) → IsHeld v.held t
    → FreesUnderTurn v t m → AreChildrenIn children t
    → AreHeld m.held children (λ k. child_of t k)
children_held v m t children h e are = record {
  names = λ k lt. sym (are.each k lt);
  weighs = λ f. (let a = freed_weighs v m t e f in let b = h.weighs f in omega arith);
}

-- they are of the level below
pub children_below : (v : SeatView) (t : Tree) (n : Name) (children : List (Option Name))
    → ViewFacts v → IsHeld v.held t → root_of t ≡ Some n → AreChildrenIn children t
    → AreBelow n.level children
children_below v t n children tells h root are =
    record { each = λ k m lt e. go k m lt e n.level refl }
  where
    go : (k : ℕ) (m : Name) → k < 8 → name_in children k ≡ Some m → (l : ℕ) → n.level ≡ l
        → m.level + 1 ≡ n.level
    go k m lt e zero same =
        (let none = has_no_child v tells t n (held_reached v.held t h) root same k in
        let both : None ≡ Some m = sym none ∙ sym (are.each k lt) ∙ e in
        let no : ⊥ = cc in absurd no)
    go k m lt e (suc l) same =
        child_level v.plan.side v.held t k n m tells.trees (held_reached v.held t h) root
        (sym (are.each k lt) ∙ e) (omega arith)

-- and there is room for them
pub children_room : (v m : SeatView) (t : Tree) (n : Name) → ViewFacts v → IsHeld v.held t
    → root_of t ≡ Some n → FreesUnderTurn v t m → number_of_trees v.held + 8 * n.level ≤ most_before_freeing
    → number_of_trees m.held + 8 * (n.level - 1) ≤ most_before_freeing
children_room v m t n tells h root e room = go n.level refl
  where
    go : (l : ℕ) → n.level ≡ l → number_of_trees m.held + 8 * (n.level - 1) ≤ most_before_freeing
    go zero same =
        (let none = no_row (λ _. 1) t 8
        (has_no_child v tells t n (held_reached v.held t h) root same) in
        let w = freed_weighs v m t e (λ _. 1) in omega arith)
    go (suc l) same =
        (let few = weight_below-one (λ k. child_of t k) 8 in
        let w = freed_weighs v m t e (λ _. 1) in omega arith)

-- a share of the next child is held
pub next_held : (v m : SeatView) (children : List (Option Name)) (row : ℕ → Tree) (k : ℕ)
    (n : Name) → k < 8 → AreHeld v.held children row → LosesAll v.held row k m.held
    → name_in children k ≡ Some n → HoldsName m.held n
next_held v m children row k n lt are a e =
    let root : root_of (row k) ≡ Some n = are.names k lt ∙ e in
    let may = may_next v.held m.held children row k are lt a in
    record {
      tree = row k;
      is_held = record {
        weighs = λ f. (let x = may.weighs f in let y = weight_of-there f (row k) n root in
            omega arith);
      };
      root = root;
    }

pub row_room : (v m : SeatView) (row : ℕ → Tree) (k room : ℕ) → LosesAll v.held row k m.held
    → number_of_trees v.held + room ≤ most_before_freeing → number_of_trees m.held + room ≤ most_before_freeing
row_room v m row k room a le = let w = a.weighs (λ _. 1) in omega arith

-- what may be held, and is a node, is held
pub may_is_held : (held : List Tree) (t : Tree) (n : Name) → root_of t ≡ Some n → MayHold held t
    → IsHeld held t
may_is_held held t n root may = record {
  weighs = λ f. (let x = may.weighs f in let y = weight_of-there f t n root in omega arith);
}

-- what a store promises of giving back
pub gave_gains : (v w : SeatView) (t : Tree) (n : Name) (steps now : ℕ) → root_of t ≡ Some n
    → GaveBack v t w steps now → Gains w.held t v.held
gave_gains v w t n steps now root b = record {
  weighs = λ f. (let x = b.loses.weighs f in let y = weight_of-there f t n root in omega arith);
}

pub gave_within : (v w : SeatView) (t : Tree) (n : Name) (steps now : ℕ) → root_of t ≡ Some n
    → GaveBack v t w steps now → ReturnsWithin w.held (shape_of t) steps now
gave_within v w t n steps now root b =
    let there = weight_of-there (λ _. 1) t n root in let turns = b.turns in
    record {
      freed = b.freed;
      different = b.lost.different;
      parts = b.lost.parts;
      unheld = All-weaker (IsLost v.held w.held) (IsUnheldBranch w.held) (λ p x. record {
        is_branch = x.is_branch;
        unheld = λ u h part. x.gone (record { tree = u; is_held = h; is_part = part });
      }) b.freed b.lost.each;
      turns = omega arith;
    }

-- ten levels of eight children fit
pub back_room : (v : SeatView) (n : Name) → ViewFacts v → v.plan.side ≤ 12 → HoldsName v.held n
    → number_of_trees v.held ≤ 4008 → number_of_trees v.held + 8 * n.level ≤ most_before_freeing
back_room v n tells side h room =
    let s = reached_levels v.plan.side v.held h.tree n tells.trees
    (held_reached v.held h.tree h.is_held) h.root in
    let l = s.in_world in omega arith
