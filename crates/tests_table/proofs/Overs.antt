-- A leaf under a node of its own.
use Rattle.std.proofs.Common.{◌≡◌, ℕ, zero, suc, ◌+◌, ◌<◌, ◌≤◌, Option, Some, None, List, [], ◌∷◌, refl, sym, ◌∙◌, ap, arith}
use Rattle.std.proofs.lemmas.Option.{same_Some}
use Rattle.node_words.specs.declared.shapes.names.Name.{Name}
use Rattle.node_words.specs.shapes.Tree.{Tree, Gone, node_at, root_of}
use Rattle.node_words.specs.shapes.Weights.{weight_below, number_of_trees}
use Rattle.node_words.proofs.OfShapes.WeightLaws.{weight_of-gone, weight_of-there}
use Rattle.node_words.specs.Gathering.{MayHold}
use Rattle.node_words.specs.Held.{AreBelow, AreHeld, Gains, HasChild, HoldsName, IsHeld, Joins, name_in}

-- a row with one tree in octant 0
pub first_row : Tree → ℕ → Tree
first_row t zero = t
first_row t (suc k) = Gone

-- the names of such a row
abbrev pub first_names : Name → List (Option Name)
first_names n = Some n ∷ None ∷ None ∷ None ∷ None ∷ None ∷ None ∷ None ∷ []

pub first_weighs : (f : Tree → ℕ) (t : Tree) (n : Name) → root_of t ≡ Some n
    → weight_below f (first_row t) 8 ≡ f t
unfolding first_row
first_weighs f t n root =
    let z = weight_of-gone f Gone refl in let h = weight_of-there f t n root in omega arith

first_root : (t : Tree) (n : Name) → root_of t ≡ Some n → (k : ℕ) → k < 8
    → root_of (first_row t k) ≡ name_in (first_names n) k
unfolding first_row
first_root t n root zero lt = root
first_root t n root (suc zero) lt = refl
first_root t n root (suc (suc zero)) lt = refl
first_root t n root (suc (suc (suc zero))) lt = refl
first_root t n root (suc (suc (suc (suc zero)))) lt = refl
first_root t n root (suc (suc (suc (suc (suc zero))))) lt = refl
first_root t n root (suc (suc (suc (suc (suc (suc zero)))))) lt = refl
first_root t n root (suc (suc (suc (suc (suc (suc (suc zero))))))) lt = refl
first_root t n root (suc (suc (suc (suc (suc (suc (suc (suc k)))))))) lt = absurd (omega arith)

pub first_held : (held : List Tree) (t : Tree) (n : Name) → IsHeld held t → root_of t ≡ Some n
    → AreHeld held (first_names n) (first_row t)
first_held held t n h root = record {
  names = first_root t n root;
  weighs = λ f. (let w = first_weighs f t n root in let i = h.weighs f in omega arith);
}

pub others_none : (n : Name) (k : ℕ) → 0 < k → name_in (first_names n) k ≡ None
others_none n zero some = absurd (omega arith)
others_none n (suc zero) some = refl
others_none n (suc (suc zero)) some = refl
others_none n (suc (suc (suc zero))) some = refl
others_none n (suc (suc (suc (suc zero)))) some = refl
others_none n (suc (suc (suc (suc (suc zero))))) some = refl
others_none n (suc (suc (suc (suc (suc (suc zero)))))) some = refl
others_none n (suc (suc (suc (suc (suc (suc (suc zero))))))) some = refl
others_none n (suc (suc (suc (suc (suc (suc (suc (suc k)))))))) some = refl

pub first_below : (n : Name) → n.level ≡ 0 → AreBelow 1 (first_names n)
first_below n zero_level = record { each = λ k m lt e. go k m e }
  where
    go : (k : ℕ) (m : Name) → name_in (first_names n) k ≡ Some m → m.level + 1 ≡ 1
    go zero m e =
        (let same = ap (λ (x : Name). x.level) (same_Some n m e) in omega arith)
    go (suc k) m e =
        (let both : None ≡ Some m = sym (others_none n (suc k) (omega arith)) ∙ e in
        let no : ⊥ = cc in absurd no)

pub first_there : (n : Name) → HasChild (first_names n)
first_there n = record { octant = 0; below = omega arith; there = λ e. (let no : ⊥ = cc in no) }

-- the node that came is held
pub over_held : (v w : List Tree) (t : Tree) (n m : Name) → IsHeld v t → root_of t ≡ Some n
    → Joins v (first_row t) m w → IsHeld w (node_at m (first_row t))
over_held v w t n m h root j = record {
  weighs = λ f. (let a = j.weighs f in let b = first_weighs f t n root in let c = h.weighs f in
      omega arith);
}

pub over_name : (v w : List Tree) (t : Tree) (n m : Name) → IsHeld v t → root_of t ≡ Some n
    → Joins v (first_row t) m w → HoldsName w m
over_name v w t n m h root j = record {
  tree = node_at m (first_row t);
  is_held = over_held v w t n m h root j;
  root = refl;
}

pub over_number : (v w : List Tree) (t : Tree) (n m : Name) (k : ℕ) → root_of t ≡ Some n
    → Joins v (first_row t) m w → number_of_trees v ≤ k → number_of_trees w ≤ k
over_number v w t n m k root j le =
    let a = j.weighs (λ _. 1) in let b = first_weighs (λ _. 1) t n root in omega arith

-- and when it went, the leaf is gone with it
pub over_went : (v w z : List Tree) (t : Tree) (n m : Name) → root_of t ≡ Some n
    → Joins v (first_row t) m w → Gains z (node_at m (first_row t)) w → Gains z t v
over_went v w z t n m root j g = record {
  weighs = λ f. (let a = j.weighs f in let b = first_weighs f t n root in let c = g.weighs f in
      omega arith);
}

pub may_be : (held : List Tree) (t : Tree) (n : Name) → IsHeld held t → root_of t ≡ Some n
    → MayHold held t
may_be held t n h root = record {
  weighs = λ f. (let a = h.weighs f in let b = weight_of-there f t n root in omega arith);
}

pub may_is : (held : List Tree) (t : Tree) (n : Name) → MayHold held t → root_of t ≡ Some n
    → IsHeld held t
may_is held t n h root = record {
  weighs = λ f. (let a = h.weighs f in let b = weight_of-there f t n root in omega arith);
}
