-- A row of one child, in octant 3.
use Rattle.std.proofs.Common.{◌≡◌, ℕ, zero, suc, ◌+◌, Some, None, Option, List, [], ◌∷◌, refl, sym, ap, arith}
use Rattle.std.proofs.lemmas.Option.{none-some, same_Some}
use Rattle.node_words.specs.declared.shapes.names.Name.{Name}
use Rattle.node_words.specs.shapes.Tree.{Tree, Gone, root_of}
use Rattle.node_words.specs.shapes.Weights.{weight_of, weight_below}
use Rattle.node_words.proofs.OfShapes.WeightLaws.{weight_of-there}
use Rattle.node_words.specs.Held.{HoldsName, HoldsChildren, AreBelow, HasChild, name_in}

abbrev third : Name → List (Option Name)
third n = None ∷ None ∷ None ∷ Some n ∷ None ∷ None ∷ None ∷ None ∷ []

only_third : Tree → ℕ → Tree
only_third t (suc (suc (suc zero))) = t
only_third t _ = Gone

third_weighs : (f : Tree → ℕ) (t : Tree) → weight_below f (only_third t) 8 ≡ weight_of f t
unfolding weight_of only_third
third_weighs f t = omega arith

third_names : (t : Tree) (n : Name) (k : ℕ) → root_of t ≡ Some n
    → root_of (only_third t k) ≡ name_in (third n) k
unfolding only_third
third_names t n zero e = refl
third_names t n (suc zero) e = refl
third_names t n (suc (suc zero)) e = refl
third_names t n (suc (suc (suc zero))) e = e
third_names t n (suc (suc (suc (suc zero)))) e = refl
third_names t n (suc (suc (suc (suc (suc zero))))) e = refl
third_names t n (suc (suc (suc (suc (suc (suc zero)))))) e = refl
third_names t n (suc (suc (suc (suc (suc (suc (suc zero))))))) e = refl
third_names t n (suc (suc (suc (suc (suc (suc (suc (suc k)))))))) e = refl

pub holds_third : (held : List Tree) (n : Name) → HoldsName held n → HoldsChildren held (third n)
holds_third held n h = record {
  row = only_third h.tree;
  are_held = record {
    names = λ k lt. third_names h.tree n k h.root;
    weighs = λ f. omega
        (arith, third_weighs f h.tree, weight_of-there f h.tree n h.root, h.is_held.weighs f);
  };
}

child_below : (n m : Name) (k : ℕ) → n.level ≡ 0 → name_in (third n) k ≡ Some m → m.level + 1 ≡ 1
child_below n m zero z e = absurd (none-some m e)
child_below n m (suc zero) z e = absurd (none-some m e)
child_below n m (suc (suc zero)) z e = absurd (none-some m e)
child_below n m (suc (suc (suc zero))) z e =
    let same : m.level ≡ n.level = ap (λ (x : Name). x.level) (sym (same_Some n m e)) in omega
    (arith, same, z)
child_below n m (suc (suc (suc (suc zero)))) z e = absurd (none-some m e)
child_below n m (suc (suc (suc (suc (suc zero))))) z e = absurd (none-some m e)
child_below n m (suc (suc (suc (suc (suc (suc zero)))))) z e = absurd (none-some m e)
child_below n m (suc (suc (suc (suc (suc (suc (suc zero))))))) z e = absurd (none-some m e)
child_below n m (suc (suc (suc (suc (suc (suc (suc (suc k)))))))) z e = absurd (none-some m e)

pub third_below : (n : Name) → n.level ≡ 0 → AreBelow 1 (third n)
third_below n z = record { each = λ k m lt e. child_below n m k z e }

pub third_child : (n : Name) → HasChild (third n)
third_child n = record { octant = 3; below = omega arith; there = λ e. none-some n (sym e) }
