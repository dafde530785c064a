-- Books are small.
use Rattle.std.proofs.Common.{◌≡◌, ℕ, suc, ◌*◌, ◌^◌, ◌<◌, ◌≤◌, Some, List, [], ◌∷◌, length, refl, inl, inr, arith, sum_by}
use Rattle.std.specs.Prelude.{map}
use Rattle.std.specs.List.{slice_get}
use Rattle.std.proofs.Math.Nat.{mul-le-mul}
use Rattle.std.proofs.lemmas.Bool.{cases_lt}
use Rattle.std.proofs.lemmas.List.Sums.{sum_by-cons}
use Rattle.vox_read.specs.Contents.{Content}
use Rattle.node_words.specs.declared.shapes.names.Name.{Name}
use Rattle.node_words.specs.shapes.Weights.{number_of_trees}
use Rattle.node_words.specs.Plans.{Layout}
use Rattle.core_laws.specs.places.WordIds.{WordId, levels}
use Rattle.core_laws.specs.places.Names.{IsName}
use Rattle.core_laws.specs.Counting.{holdings}
use Rattle.core_laws.proofs.Bounds.{book_small}
use Rattle.table_rule.specs.Reading.{book_of}
use Rattle.table_rule.specs.Views.{SeatView, names_held}
use Rattle.table_rule.specs.Rules.{KeepsRule, table_state}
use Rattle.node_words.proofs.PlanLaws.{few_buckets}
use Rattle.table_rule.proofs.PartC.{names_weigh}

-- all shares are at most so many for each seat
few_held : (views : List SeatView)
    → ((i : ℕ) (v : SeatView) → slice_get views i ≡ Some v → number_of_trees v.held ≤ 4096)
    → holdings (λ _. 1) (map names_held views) ≤ 4096 * length views
unfolding holdings
few_held [] few = omega arith
few_held (v ∷ views) few =
    let more = few_held views (λ i u e. few (suc i) u e) in
    let here = few 0 v refl in
    let names = names_weigh (λ _. 1) v.held in
    let all =
    sum_by-cons (λ (xs : List Name). sum_by (λ _. 1) xs) (names_held v)
    (map names_held views) in omega arith

pub small : (p : Layout) (models : List Content) (mem : WordId → ℕ) (views : List SeatView)
    (n : Name) → KeepsRule p models mem views → IsName p n → mem (book_of n) < 2 ^ 39
small p models mem views n r is = elim (cases_lt 0 (mem (book_of n))) [
  | inr none ↦ (let e : mem (book_of n) ≡ 0 = omega arith in omega arith)
  | inl some ↦ (
      let most =
      book_small p (table_state p mem views) n 4096 r.sound.entries
      (λ level lt. few_buckets p level r.plan) (record { name = is; book = some }) in
      let held = few_held views r.knows.few in
      let seats = r.turns.seats in let few = r.turns.few in
      let low : levels p ≤ 11 = (let s = r.plan.side_high in omega arith) in
      let cap : 4096 * (p.cap * 8) ≤ 8388608 = (let c = r.plan.cap_high in omega arith) in
      let both = mul-le-mul low cap in
      omega arith)
]
