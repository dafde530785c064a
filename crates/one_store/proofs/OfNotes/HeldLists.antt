-- What is held after a step is what came by it, or was held before.
use Rattle.std.proofs.Common.{◌≡◌, ◌≢◌, ℕ, zero, suc, ◌<◌, ◌≤◌, ◌⊎◌, List, [], ◌∷◌, sym, ◌∙◌, ap, arith, inl, inr}
use Rattle.std.proofs.lemmas.Bool.{cases_lt}
use Rattle.node_words.specs.shapes.Tree.{Tree, Gone, LeafAt, NodeAt}
use Rattle.node_words.specs.shapes.Weights.{weigh, weight_of, weight_below}
use Rattle.node_words.proofs.OfShapes.TreeEqual.{same_tree, same_tree-self, same_tree-some}
use Rattle.node_words.proofs.OfShapes.WeightLaws.{weigh-nil, weigh-cons}
use Rattle.node_words.specs.Held.{IsHeld, Gains}
use Rattle.one_store.specs.notes.Changes.{Parts, GathersUnder}

-- a tree that weighs by itself in a list is held there
pub held_from : (ts : List Tree) (t : Tree) → 1 ≤ weigh (same_tree t) ts → IsHeld ts t
held_from [] t h = absurd (omega (arith, weigh-nil (same_tree t)))
held_from (u ∷ ts) t h = elim (cases_lt 0 (same_tree t u)) [
  | inl some ↦ let e = same_tree-some t u some in
      record { weighs = λ f. omega (arith, weigh-cons f u ts, ap f e) }
  | inr none ↦ let i = held_from ts t (omega (arith, weigh-cons (same_tree t) u ts)) in
      record { weighs = λ f. omega (arith, weigh-cons f u ts, i.weighs f) }
]

pub held_self : (ts : List Tree) (t : Tree) → IsHeld ts t → 1 ≤ weigh (same_tree t) ts
held_self ts t h = omega (arith, h.weighs (same_tree t), same_tree-self t)

-- what is held after a tree came is that tree or was held
pub held_gained : (old new : List Tree) (t u : Tree) → Gains old t new → IsHeld new u
    → (u ≡ t) ⊎ IsHeld old u
held_gained old new t u g h = elim (cases_lt 0 (same_tree u t)) [
  | inl some ↦ inl (same_tree-some u t some)
  | inr none ↦ inr (held_from old u (omega (arith, held_self new u h, g.weighs (same_tree u))))
]

pub held_lost : (old new : List Tree) (t u : Tree) → Gains new t old → IsHeld new u → IsHeld old u
held_lost old new t u g h = record { weighs = λ f. omega (arith, g.weighs f, h.weighs f) }

-- one of a row of trees
pub record InRow (row : ℕ → Tree) (n : ℕ) (t : Tree) : Type 0 where
  pub place : ℕ
  pub below : place < n
  pub is : t ≡ row place
  pub there : t ≢ Gone

weight_of-le : (f : Tree → ℕ) (t : Tree) → weight_of f t ≤ f t
unfolding weight_of
weight_of-le f Gone = omega arith
weight_of-le f (LeafAt n b) = omega arith
weight_of-le f (NodeAt n a b c d e f' g h) = omega arith

weight_some : (f : Tree → ℕ) (t : Tree) → 1 ≤ weight_of f t → t ≢ Gone
unfolding weight_of
weight_some f Gone h = absurd (omega arith)
weight_some f (LeafAt n b) h = λ e. cc
weight_some f (NodeAt n a b c d e f' g h) i = λ q. cc

in_row : (row : ℕ → Tree) (n : ℕ) (t : Tree) → 1 ≤ weight_below (same_tree t) row n → InRow row n t
in_row row zero t h = absurd (omega arith)
in_row row (suc n) t h = elim (cases_lt 0 (weight_of (same_tree t) (row n))) [
  | inl some ↦
      record {
        place = n;
        below = omega arith;
        is = same_tree-some t (row n)
            (omega (arith, some, weight_of-le (same_tree t) (row n)));
        there = λ e. weight_some
            (same_tree t) (row n) (omega arith)
            (sym (same_tree-some t (row n)
            (omega (arith, some, weight_of-le (same_tree t) (row n)))) ∙ e);
      }
  | inr none ↦ let i = in_row row n t (omega arith) in
      record { place = i.place; below = omega (arith, i.below); is = i.is; there = i.there }
]

-- what is held after a row took the place of a tree
pub held_parted : (held now : List Tree) (t u : Tree) (row : ℕ → Tree) → Parts held t row now
    → IsHeld now u → InRow row 8 u ⊎ IsHeld held u
held_parted held now t u row g h = elim (cases_lt 0 (weight_below (same_tree u) row 8)) [
  | inl some ↦ inl (in_row row 8 u some)
  | inr none ↦ inr (held_from held u (omega (arith, held_self now u h, g.weighs (same_tree u))))
]

-- what is held after a tree took the place of a row
pub held_closed : (held now : List Tree) (t u : Tree) (row : ℕ → Tree) → GathersUnder held row t now
    → IsHeld now u → (u ≡ t) ⊎ IsHeld held u
held_closed held now t u row g h = elim (cases_lt 0 (same_tree u t)) [
  | inl some ↦ inl (same_tree-some u t some)
  | inr none ↦ inr (held_from held u (omega (arith, held_self now u h, g.weighs (same_tree u))))
]
