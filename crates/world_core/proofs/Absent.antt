-- A name that is wanted once more than a list has it.
use Rattle.std.proofs.Common.{◌≡◌, ◌≢◌, ℕ, suc, ◌+◌, ◌<◌, sym, ap, arith, inl, inr, refl, ◌∙◌, Some, None, Option, List, [], ◌∷◌, length, get_or, take, sum_by}
use Rattle.std.proofs.lemmas.Bool.{cases_lt}
use Rattle.std.proofs.lemmas.List.Sums.{sum_by-cons, sum_by_more, sum_by-take-le}
use Rattle.node_words.specs.declared.shapes.names.Name.{Name}
use Rattle.core_laws.specs.Counting.{weight}
use Rattle.core_laws.proofs.Sums.{is_name, is_name-self, is_name-some}
use Rattle.world_core.specs.Trading.{HasAll, TradesNames}

-- a name that is nowhere in a list weighs nothing there
none_weighs : (m : Name) (names : List Name)
    → ((k : ℕ) → k < length names → get_or names k m ≢ m) → sum_by (is_name m) names ≡ 0
none_weighs m [] none = refl
none_weighs m (n ∷ ns) none =
    let rest = none_weighs m ns (λ k lt. none (suc k) (omega arith)) in
    let first : is_name m n ≡ 0 = elim (cases_lt 0 (is_name m n)) [
      | inl some ↦ absurd (none 0 (omega arith) (sym (is_name-some m n some)))
      | inr less ↦ omega arith
    ] in
    let all = sum_by-cons (is_name m) n ns in omega arith

pub one_missing : (names rest : List Name) (some : List (Option Name)) (i : ℕ) (m : Name)
    → i < length some → get_or some i None ≡ Some m → TradesNames names (take i some) [] rest
    → ((k : ℕ) → k < length rest → get_or rest k m ≢ m) → HasAll names some → ⊥
one_missing names rest some i m lt at trade none has =
    let f : Name → ℕ = is_name m in
    let gone : sum_by f rest ≡ 0 = none_weighs m rest none in
    let here : weight f (get_or some i None) ≡ 1 = ap (weight f) at ∙ is_name-self m in
    let more = sum_by_more (weight f) some i None lt in
    let part = sum_by-take-le (weight f) some (i + 1) in
    let w = trade.weighs f in
    let all = has.weighs f in
    omega arith
