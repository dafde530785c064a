-- The lists of a core stay sound, and books stay small.
use Rattle.std.proofs.Common.{◌≡◌, ℕ, ◌*◌, ◌<◌, ◌≤◌, zero, suc, refl, ap, arith, Some, None, Option, List, [], ◌∷◌, length, set, sum_by}
use Rattle.std.specs.Prelude.{All}
use Rattle.std.specs.List.{slice_get}
use Rattle.std.proofs.lemmas.List.{length-set}
use Rattle.std.proofs.lemmas.List.Elements.{All-set}
use Rattle.std.proofs.lemmas.List.Sums.{sum_by-cons}
use Rattle.std.proofs.lemmas.Nat.{mul-le}
use Rattle.node_words.specs.declared.shapes.names.Name.{Name}
use Rattle.node_words.proofs.PlanLaws.{few_buckets}
use Rattle.core_laws.specs.places.WordIds.{levels, versions}
use Rattle.history_model.specs.Logs.{Log}
use Rattle.bucket_core.specs.Buckets.{book_of_slot}
use Rattle.core_laws.specs.Counting.{weight, holdings}
use Rattle.core_laws.specs.Events as events
use Rattle.core_laws.specs.LogEvents.{Step}
use Rattle.core_laws.specs.States.{IsLive}
use Rattle.core_laws.proofs.Bounds.{book_small}
use Rattle.core_laws.proofs.StepLaws.{step_sound}
use Rattle.world_core.specs.Slots.{BucketRow, IsLaidOut, entry_at, read_lists}
use Rattle.world_core.specs.Trading.{HasAll, TradesNames, weights}
use Rattle.world_core.specs.Stored.{Stored, IsStored, stored_state, root_in}

abbrev pub IsSmall : List Name → Type 0
IsSmall names = length names ≤ 4096

pub ones : (names : List Name) → sum_by (λ _. 1) names ≡ length names
ones [] = refl
ones (n ∷ ns) = let more = sum_by-cons (λ _. 1) n ns in let rest = ones ns in omega arith

-- some holdings that are each small are small
few_held : (held : List (List Name)) (k : ℕ) → length held ≤ k → All IsSmall held
    → holdings (λ _. 1) held ≤ k * 4096
unfolding holdings
few_held [] k le few = omega arith
few_held (names ∷ more) zero le few = absurd (omega arith)
few_held (names ∷ more) (suc k) le few =
    let rest = few_held more k (omega arith) (λ i x lt. few (suc i) x (omega arith)) in
    let first : length names ≤ 4096 = few 0 [] (omega arith) in
    let one = ones names in
    let all = sum_by-cons (λ (ns : List Name). sum_by (λ _. 1) ns) names more in
    omega arith

pub book_low : (s : Stored) (n : Name) → IsStored s → IsLive s.plan (stored_state s) n
    → book_of_slot (entry_at s.entries n) < 1099511627776
book_low s n is live =
    let p = s.plan in
    let small =
    book_small p (stored_state s) n 4096 is.sound.entries
    (λ level lt. few_buckets p level is.plan) live in
    let cap : p.cap * 8 ≤ 2048 = omega (arith, is.plan.cap_high) in
    let one : 4096 * (p.cap * 8) ≤ 8388608 = omega (arith, cap) in
    let high = is.plan.side_high in
    let all : levels p * (4096 * (p.cap * 8)) ≤ 11 * 8388608 =
    mul-le (levels p) (4096 * (p.cap * 8)) 11 8388608 (omega arith) one in
    let held = few_held s.held 64 is.sessions is.few in
    omega arith

pub live_there : (s : Stored) (n : Name) → IsLive s.plan (stored_state s) n
    → entry_at s.entries n ≡ None → ⊥
live_there s n live none =
    let zero : book_of_slot (entry_at s.entries n) ≡ 0 = ap book_of_slot none in
    let some = live.book in omega arith

-- what a session trades is a trade of the holder
pub traded : (held : List (List Name)) (session : ℕ) (names after : List Name)
    (gives takes : List (Option Name)) (g t : (Name → ℕ) → ℕ)
    → slice_get held session ≡ Some names → HasAll names gives → TradesNames names gives takes after
    → ((f : Name → ℕ) → weights gives f ≡ g f) → ((f : Name → ℕ) → weights takes f ≡ t f)
    → events.Trades held session g t (set held session after)
traded held session names after gives takes g t at has trade of_g of_t = record {
  before = names;
  after = after;
  had = at;
  has = refl;
  holds = λ f. (let h = has.weighs f in let e = of_g f in omega arith);
  weighs = λ f. (let h = trade.weighs f in let e = of_g f in let u = of_t f in omega arith);
}

-- lists that took a step are sound
pub kept : (s : Stored) (entries : List BucketRow) (roots : List (Option Name)) (log : Log)
    (session : ℕ) (after : List Name) → IsStored s → IsLaidOut s.plan entries
    → length roots ≡ versions → length after ≤ 4096
    → Step s.plan s.models session (stored_state s)
    (read_lists entries (root_in roots) log (set s.held session after))
    → IsStored
    (record { plan = s.plan; models = s.models; entries = entries; roots = roots; log = log; held = set s.held session after })
kept s entries roots log session after is laid places few step = record {
  plan = is.plan;
  laid = laid;
  places = places;
  sound = step_sound s.plan s.models session (stored_state s) _ is.plan.side_low is.sound step;
  sessions = let e = length-set s.held session after in let le = is.sessions in omega arith;
  few = All-set IsSmall s.held session after few is.few;
}

pub no_weights : (f : Name → ℕ) → weights [] f ≡ 0
no_weights f = refl

pub one_weight : (o : Option Name) (f : Name → ℕ) → weights (o ∷ []) f ≡ weight f o
one_weight o f = let h = sum_by-cons (weight f) o [] in omega arith
