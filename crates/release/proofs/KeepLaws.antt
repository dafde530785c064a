-- One more share of what is reached.
use Rattle.std.proofs.Common.{◌≡◌, Some, List, ◌∷◌, sym, ◌∙◌, ap, subst}
use Rattle.node_words.specs.declared.shapes.names.Name.{Name}
use Rattle.node_words.specs.shapes.Tree.{Tree, root_of}
use Rattle.node_words.specs.shapes.Weights.{weigh}
use Rattle.node_words.proofs.OfShapes.WeightLaws.{weigh-cons}
use Rattle.node_words.specs.Held.{Gains, IsReached}
use Rattle.node_words.proofs.HeldLaws.{gains_held, gains_keeps, held_reached, reached_more}
use Rattle.node_table.specs.ViewFacts.{ViewFacts}
use Rattle.node_table.specs.Views.{SeatView, BucketAt}
use Rattle.node_table.specs.Changes.{under_turn}
use Rattle.node_table.proofs.OnlyShares.{only_held}
use Rattle.node_table.specs.Acts.{OnlySharesChange, RaisesUnderTurn, left_with}

gains_one : (old new : List Tree) (t : Tree) → new ≡ t ∷ old → Gains old t new
gains_one old new t e =
    record { weighs = λ f. ap (λ ts. weigh f ts) e ∙ weigh-cons f t old }

module _ (v u w : SeatView) (n : Name) (b : BucketAt) (from : u ≡ under_turn v (Some b))
    (r : RaisesUnderTurn u n w) where
  now_held : w.held ≡ r.tree ∷ v.held
  now_held =
      ap (λ (x : SeatView). x.held) r.is ∙ ap (λ (x : SeatView). r.tree ∷ x.held) from

  -- the tree that came is the one that was reached
  pub raised_gains : ViewFacts w → (t : Tree) → IsReached v.held t → root_of t ≡ Some n
      → Gains v.held t w.held
  raised_gains tells t reached root =
      let g = gains_one v.held w.held r.tree now_held in
      let here = held_reached w.held r.tree (gains_held v.held r.tree w.held g) in
      let there = reached_more v.held w.held t (gains_keeps v.held r.tree w.held g) reached in
      subst (λ x. Gains v.held x w.held)
      (tells.trees.named r.tree t here there (r.root ∙ sym root)) g

  pub raised_only : OnlySharesChange v w
  raised_only =
      only_held v w (r.tree ∷ v.held)
      (r.is ∙ ap (λ (x : SeatView). (let z : SeatView = left_with x (r.tree ∷ x.held) in z)) from)

-- the same of the view that is left
pub raised_now : (v u w z : SeatView) (n : Name) (b : BucketAt) → u ≡ under_turn v (Some b)
    → RaisesUnderTurn u n w → z ≡ w → ViewFacts z → (t : Tree) → IsReached v.held t
    → root_of t ≡ Some n → Gains v.held t z.held
raised_now v u w z n b from r now tells t reached root =
    subst (λ (x : SeatView). Gains v.held t x.held) (sym now)
    (raised_gains v u w n b from r (subst ViewFacts now tells) t reached root)
