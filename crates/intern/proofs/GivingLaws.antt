-- The shares of children of a node that is held besides go back, and none is the last.
use Rattle.std.proofs.Common.{◌≡◌, ℕ, ◌<◌, Some, None, Option, List, sym, ◌∙◌, ap, subst, arith}
use Rattle.node_words.specs.declared.shapes.names.Name.{Name}
use Rattle.node_words.specs.shapes.Shape.{IsPart, whole, within}
use Rattle.node_words.specs.shapes.Tree.{Tree, root_of, child_of, shape_of}
use Rattle.node_words.specs.shapes.Weights.{weigh, weight_of}
use Rattle.node_words.proofs.OfShapes.TreeLaws.{shape_of-child, shape_of-some}
use Rattle.node_words.proofs.OfShapes.WeightLaws.{weight_of-there, weight_below-part}
use Rattle.node_words.specs.Gathering.{Loses, LosesAll, MayHold}
use Rattle.node_words.specs.Held.{AreHeld, HoldsName, IsHeld, name_in}
use Rattle.node_table.specs.Views.{SeatView}
use Rattle.node_table.specs.Acts.{FreesUnderTurn, LowersUnderTurn}
use Rattle.intern.specs.Nodes.{IsHeldOver, IsHeldBelow}

-- a child of a node that is held besides
module _ (v : SeatView) (n : Name) (kept : IsHeldBelow v.held (Some n)) where
  there : (f : Tree → ℕ)
      → weight_of f (child_of kept.over kept.octant) ≡ f (child_of kept.over kept.octant)
  there f = weight_of-there f (child_of kept.over kept.octant) n kept.root

  child_held : IsHeld v.held (child_of kept.over kept.octant)
  child_held = record {
    weighs = λ f. (let a = kept.weighs f in let b = there f in omega arith);
  }

  pub kept_name : HoldsName v.held n
  kept_name =
      record { tree = child_of kept.over kept.octant; is_held = child_held; root = kept.root }

  -- it isn't freed: its shape is part of that of the node above
  pub kept_not_freed : (w : SeatView) → FreesUnderTurn v (child_of kept.over kept.octant) w → ⊥
  kept_not_freed w e =
      let t : Tree = child_of kept.over kept.octant in
      let over : IsHeld e.held kept.over = record {
        weighs = λ f. (let a = e.weighs f in let b = kept.weighs f in let c = there f in
            omega arith);
      } in
      let some : IsPart (shape_of t) (shape_of t) =
      whole (shape_of-some t (λ r. (let no : None ≡ Some n = sym r ∙ kept.root in
      let never : ⊥ = cc in never))) in
      e.unheld kept.over over
      (within kept.octant
      (subst (λ s. IsPart (shape_of t) s) (shape_of-child kept.over kept.octant) some))

  pub kept_tree : IsHeld v.held (child_of kept.over kept.octant)
  kept_tree = child_held

-- what may be held, and is a node, is held
pub may_held : (held : List Tree) (t : Tree) (n : Name) → root_of t ≡ Some n → MayHold held t
    → IsHeld held t
may_held held t n root may = record {
  weighs = λ f. (let a = may.weighs f in let b = weight_of-there f t n root in omega arith);
}

-- another reference is left
pub gave_one : (v w : SeatView) (t : Tree) (n : Name) → root_of t ≡ Some n → LowersUnderTurn v t w
    → Loses v.held t w.held
gave_one v w t n root e =
    let held : w.held ≡ e.held = ap (λ (x : SeatView). x.held) e.is in
    record {
      weighs = λ f. (let a = e.weighs f in let b = ap (λ ts. weigh f ts) held in
          let c = weight_of-there f t n root in omega arith);
    }

-- where k of the shares went, the next child is kept below the node too
pub next_kept : (old mid : List Tree) (children : List (Option Name)) (row : ℕ → Tree) (k : ℕ)
    → k < 8 → AreHeld old children row → IsHeldOver old row → LosesAll old row k mid
    → IsHeldBelow mid (name_in children k)
next_kept old mid children row k lt are over gone =
    let child : child_of over.over k ≡ row k = over.children k lt in
    record {
      over = over.over;
      octant = k;
      root = ap root_of child ∙ are.names k lt;
      weighs = λ f. (let a = over.weighs f in let b = gone.weighs f in
          let c = weight_below-part f row k 8 lt in let d = ap (weight_of f) child in omega arith);
    }
