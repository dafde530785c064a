-- What is lost on the way down: each branch was part of a shape held before its turn and is part of
-- none after it, so no two are one.
use Rattle.std.proofs.Common.{◌≡◌, ◌≢◌, ◌⊎◌, ℕ, zero, suc, ◌+◌, Some, None, List, [], ◌∷◌, ◌++◌, refl, sym, ◌∙◌, ap, subst, inl, inr, arith}
use Rattle.std.specs.Prelude.{All, AllPairs}
use Rattle.std.proofs.lemmas.List.Elements.{All-nil, All-cons, All-head, All-tail, All-append, All-weaker}
use Rattle.std.proofs.lemmas.List.Kept.{AllPairs-cons}
use Rattle.node_words.specs.declared.shapes.names.Name.{Name}
use Rattle.node_words.specs.shapes.Shape.{Shape, IsBranch, IsPart, whole, within}
use Rattle.node_words.specs.shapes.Tree.{Tree, Gone, LeafAt, NodeAt, root_of, child_of, shape_of}
use Rattle.node_words.specs.shapes.Weights.{weigh, weight_below}
use Rattle.node_words.proofs.OfShapes.TreeLaws.{shape_of-child, shape_of-some, child_of-gone}
use Rattle.node_words.proofs.OfShapes.WeightLaws.{weigh-append, weight_of-gone}
use Rattle.node_words.specs.Held.{IsHeld}
use Rattle.node_table.proofs.Shares.{take_one, held_append, row_list, row_list-weighs, row_held, InRow}
use Rattle.release.specs.Returns.{IsPartHeld, IsLost, AreLost}

pairs_head : {X : Type 0} (R : X → X → Type 0) (x : X) (xs : List X) → AllPairs R (x ∷ xs)
    → All (R x) xs
pairs_head R x xs h = λ k d lt. h 0 (suc k) d (omega arith) (omega arith)

pairs_tail : {X : Type 0} (R : X → X → Type 0) (x : X) (xs : List X) → AllPairs R (x ∷ xs)
    → AllPairs R xs
pairs_tail R x xs h = λ i j d lt below. h (suc i) (suc j) d (omega arith) (omega arith)

pairs_append : {X : Type 0} (R : X → X → Type 0) (xs ys : List X) → AllPairs R xs → AllPairs R ys
    → All (λ x. All (R x) ys) xs → AllPairs R (xs ++ ys)
pairs_append R [] ys a b c = b
pairs_append R (x ∷ xs) ys a b c =
    AllPairs-cons R x (xs ++ ys)
    (All-append (R x) xs ys (pairs_head R x xs a) (All-head (λ z. All (R z) ys) x xs c))
    (pairs_append R xs ys (pairs_tail R x xs a) b (All-tail (λ z. All (R z) ys) x xs c))

pairs_nil : {X : Type 0} (R : X → X → Type 0) → AllPairs R []
pairs_nil R = λ i j d lt below. absurd (omega arith)

-- nothing need be lost
pub lost_none : (P : Shape → Type 0) (old new : List Tree)
    → ((p : Shape) → IsPartHeld new p → IsPartHeld old p) → AreLost P old new []
lost_none P old new stays = record {
  stays = stays;
  different = pairs_nil (λ p q. p ≢ q);
  parts = All-nil P;
  each = All-nil (IsLost old new);
}

lost_wider : (a b c d : List Tree) (p : Shape) → (IsPartHeld b p → IsPartHeld a p)
    → (IsPartHeld d p → IsPartHeld c p) → IsLost b c p → IsLost a d p
lost_wider a b c d p first last h = record {
  is_branch = h.is_branch;
  was = first h.was;
  gone = λ x. h.gone (last x);
}

-- what is lost first and what is lost then
pub lost_on : (P : Shape → Type 0) (a b c : List Tree) (xs ys : List Shape) → AreLost P a b xs
    → AreLost P b c ys → AreLost P a c (xs ++ ys)
lost_on P a b c xs ys f g = record {
  stays = λ p h. f.stays p (g.stays p h);
  different = pairs_append (λ p q. p ≢ q) xs ys f.different g.different
      (All-weaker (IsLost a b) (λ x. All (λ y. x ≢ y) ys)
      (λ x h. All-weaker (IsLost b c) (λ y. x ≢ y)
      (λ y i e. h.gone (subst (λ z. IsPartHeld b z) (sym e) i.was)) ys g.each) xs f.each);
  parts = All-append P xs ys f.parts g.parts;
  each = All-append (IsLost a c) xs ys
      (All-weaker (IsLost a b) (IsLost a c)
      (λ p h. lost_wider a a b c p (λ x. x) (g.stays p) h) xs f.each)
      (All-weaker (IsLost b c) (IsLost a c)
      (λ p h. lost_wider a b c c p (f.stays p) (λ x. x) h) ys g.each);
}

pub lost_into : (P Q : Shape → Type 0) (a b : List Tree) (xs : List Shape)
    → ((p : Shape) → P p → Q p) → AreLost P a b xs → AreLost Q a b xs
lost_into P Q a b xs into f = record {
  stays = f.stays;
  different = f.different;
  parts = All-weaker P Q into xs f.parts;
  each = f.each;
}

-- what is held after a free was held before, or is a child of what went
freed_held : (old new : List Tree) (t u : Tree) → IsHeld old t
    → ((f : Tree → ℕ) → weigh f new + f t ≡ weight_below f (λ k. child_of t k) 8 + weigh f old)
    → IsHeld new u → IsHeld old u ⊎ InRow (λ k. child_of t k) u
freed_held old new t u h w i =
    let rest = take_one old t h in
    let row : ℕ → Tree = λ k. child_of t k in
    let all : IsHeld (row_list row 8 ++ rest.rest) u =
    record {
      weighs = λ f. (let a = i.weighs f in let b = w f in let c = rest.weighs f in
          let d = weigh-append f (row_list row 8) rest.rest in
          let e = row_list-weighs f row 8 in omega arith);
    } in
    elim (held_append (row_list row 8) rest.rest u all) [
      | inl there ↦ inr (row_held row 8 u there)
      | inr other ↦
          inl (record {
            weighs = λ f. (let a = other.weighs f in let c = rest.weighs f in omega arith);
          })
    ]

-- and so only parts of what was held are held
pub freed_stays : (old new : List Tree) (t : Tree) → IsHeld old t
    → ((f : Tree → ℕ) → weigh f new + f t ≡ weight_below f (λ k. child_of t k) 8 + weigh f old)
    → (p : Shape) → IsPartHeld new p → IsPartHeld old p
freed_stays old new t h w p x =
    elim (freed_held old new t x.tree h w x.is_held) [
      | inl before ↦ record { tree = x.tree; is_held = before; is_part = x.is_part }
      | inr child ↦
          record {
            tree = t;
            is_held = h;
            is_part = within child.place
                (subst (λ s. IsPart p s) (ap shape_of child.same ∙ shape_of-child t child.place)
                x.is_part);
          }
    ]

-- a node above the leaves was freed, whose shape is part of nothing that is held then
pub freed_lost : (old new : List Tree) (t : Tree) (n : Name) → root_of t ≡ Some n → IsHeld old t
    → ((f : Tree → ℕ) → weigh f new + f t ≡ weight_below f (λ k. child_of t k) 8 + weigh f old)
    → ((u : Tree) → IsHeld new u → ¬ IsPart (shape_of t) (shape_of u)) → IsBranch (shape_of t)
    → AreLost (λ p. IsPart p (shape_of t)) old new (shape_of t ∷ [])
freed_lost old new t n root h w unheld branch =
    let whole_part : IsPart (shape_of t) (shape_of t) =
    whole (shape_of-some t (λ e. (let no : ⊥ = cc in no))) in
    record {
      stays = freed_stays old new t h w;
      different = AllPairs-cons (λ p q. p ≢ q) (shape_of t) [] (All-nil (λ q. shape_of t ≢ q))
          (pairs_nil (λ p q. p ≢ q));
      parts = All-cons (λ p. IsPart p (shape_of t)) (shape_of t) [] whole_part
          (All-nil (λ p. IsPart p (shape_of t)));
      each = All-cons (IsLost old new) (shape_of t) []
          (record {
            is_branch = branch;
            was = record { tree = t; is_held = h; is_part = whole_part };
            gone = λ x. unheld x.tree x.is_held x.is_part;
          })
          (All-nil (IsLost old new));
    }

-- a tree is a node above the leaves, or nothing stands in its octants
pub node_or_none : (t : Tree) → IsBranch (shape_of t) ⊎ ((k : ℕ) → root_of (child_of t k) ≡ None)
unfolding shape_of
node_or_none Gone = inr (λ k. ap root_of (child_of-gone k))
node_or_none (LeafAt n bits) = inr none
  where
    none : (k : ℕ) → root_of (child_of (LeafAt n bits) k) ≡ None
    none zero = refl
    none (suc k) = refl
node_or_none (NodeAt n a b c d e f g h) = inl tt

pub no_row : (f : Tree → ℕ) (t : Tree) (k : ℕ) → ((j : ℕ) → root_of (child_of t j) ≡ None)
    → weight_below f (λ j. child_of t j) k ≡ 0
no_row f t zero none = refl
no_row f t (suc k) none =
    omega (arith, no_row f t k none, weight_of-gone f (child_of t k) (none k))
