-- Shares that may be there, one and eight of them.
use Rattle.std.proofs.Common.{zero, suc, [], ◌∷◌, slice_index_or, ◌≡◌, ◌≢◌, ℕ, ◌+◌, ◌<◌, ◌≤◌, Some, None, Option, List, set, length, refl, arith, inl, inr, get_or-set_other, get_or-set_same}
use Rattle.std.proofs.lemmas.Bool.{cases_eq, cases_lt}
use Rattle.node_words.specs.declared.shapes.names.Name.{Name}
use Rattle.node_words.specs.shapes.Tree.{Tree, root_of}
use Rattle.node_words.proofs.OfShapes.WeightLaws.{weight_of-there}
use Rattle.node_words.specs.Held.{IsHeld, HoldsName, Gains, name_in}
use Rattle.node_words.specs.Gathering.{MayHold, Loses}

pub may_held : (held : List Tree) (t : Tree) (n : Name) → root_of t ≡ Some n → MayHold held t
    → IsHeld held t
may_held held t n e h = record { weighs = λ f. omega (arith, h.weighs f, weight_of-there f t n e) }

pub may_holds : (held : List Tree) (t : Tree) (n : Name) → root_of t ≡ Some n → MayHold held t
    → HoldsName held n
may_holds held t n e h = record { tree = t; is_held = may_held held t n e h; root = e }

pub gains_loses : (old new : List Tree) (t : Tree) (n : Name) → root_of t ≡ Some n → Gains old t new
    → Loses new t old
gains_loses old new t n e g =
    record { weighs = λ f. omega (arith, g.weighs f, weight_of-there f t n e) }

-- which places of a row were emptied
pub record Emptied (old now : List (Option Name)) (k : ℕ) : Type 0 where
  pub kept : (j : ℕ) → k ≤ j → name_in now j ≡ name_in old j
  pub empty : (j : ℕ) → j < k → name_in now j ≡ None

pub none_emptied : (old : List (Option Name)) → Emptied old old 0
none_emptied old = record { kept = λ j h. refl; empty = λ j h. absurd (omega arith) }

pub one_emptied : (old now new : List (Option Name)) (k : ℕ) → k < length now → Emptied old now k
    → new ≡ set now k None → Emptied old new (k + 1)
one_emptied old now new k h a e = record {
  kept = λ j le. let ne : j ≢ k = omega arith in rw (e, get_or-set_other now k j None None ne)
      (a.kept j (omega arith));
  empty = λ j lt. elim (cases_eq j k) [
    | inl q ↦ rw (q, e) (get_or-set_same now k None None h)
    | inr ne ↦ rw (e, get_or-set_other now k j None None ne) (a.empty j (omega arith))
  ];
}

past_end : (xs : List (Option Name)) (j : ℕ) → length xs ≤ j → name_in xs j ≡ None
past_end [] j h = refl
past_end (x ∷ xs) zero h = absurd (omega arith)
past_end (x ∷ xs) (suc j) h = past_end xs j (omega arith)

-- what stands in a list there doesn't hang on what stands in its place past the end
pub in_reach : (xs : List (Option Name)) (k : ℕ) (d e : Option Name) → k < length xs
    → slice_index_or xs k d ≡ slice_index_or xs k e
in_reach [] k d e h = absurd (omega arith)
in_reach (x ∷ xs) zero d e h = refl
in_reach (x ∷ xs) (suc k) d e h = in_reach xs k d e (omega arith)

pub all_emptied : (old now : List (Option Name)) (n : ℕ) → length now ≡ 8 → 8 ≤ n
    → Emptied old now n → (k : ℕ) → name_in now k ≡ None
all_emptied old now n e h a k =
    elim (cases_lt k 8) [ inl l ↦ a.empty k (omega arith) | inr r ↦ past_end now k (omega arith) ]
