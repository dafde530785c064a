-- Why no world is opened.
use Rattle.std.proofs.Common.{◌≡◌, ◌≢◌, ◌↔◌, Bool, false, true, ℕ, zero, suc, ◌*◌, ◌/◌, ◌^◌, ◌<◌, ◌≤◌, eqb, Option, Some, None, List, [], ◌∷◌, length, refl, sym, ◌∙◌, ap, subst, arith, inl, inr}
use lib.Pow.{pow_mono}
use Rattle.std.proofs.lemmas.Bool.{cases_lt, false≢true}
use Rattle.std.specs.Prelude.{Result, Ok, Err, IfErr, IfSome, IsSome, IsTrue}
use Rattle.vw_cell.specs.Sides.{is_side}
use Rattle.node_words.specs.Plans.{Layout, usual_buckets}
use Rattle.history_model.specs.Logs.{side_of_world}
use Rattle.history_model.proofs.MarkLaws.{store_side_is}
use Rattle.vox_chunk.specs.declared.faults.VoxFault.{VoxFault}
use Rattle.vox_chunk.specs.declared.faults.VoxFault.TheVariants.{NotVox, Version, NoMain, Truncated, ShortSize, SizeRange, XyziWithoutSize, ShortXyzi, VoxelOutside, TooManyModels, Memory}
use Rattle.vox_read.specs.Files.{RefusesFile}
use Rattle.store_run.specs.Kept.{IsLargeStore}
use Rattle.voxdag_c.specs.held.Calls.{Refuses, RefusesModels, AreSideAndCap, AreSlots, status_of_file}
use Rattle.voxdag_c.specs.held.GoingOn.{IsCapAsked, IsPlanAsked}

refuses_fault : (fault : VoxFault) (bytes : List ℕ) → 0 < length bytes → RefusesFile fault bytes
    → RefusesModels bytes (status_of_file fault)
refuses_fault Memory bytes some r = RefusesModels.memory
refuses_fault NotVox bytes some r = RefusesModels.bad_file some NotVox r
refuses_fault (Version n) bytes some r = RefusesModels.bad_file some (Version n) r
refuses_fault NoMain bytes some r = RefusesModels.bad_file some NoMain r
refuses_fault (Truncated n) bytes some r = RefusesModels.bad_file some (Truncated n) r
refuses_fault (ShortSize n) bytes some r = RefusesModels.bad_file some (ShortSize n) r
refuses_fault (SizeRange n) bytes some r = RefusesModels.bad_file some (SizeRange n) r
refuses_fault (XyziWithoutSize n) bytes some r = RefusesModels.bad_file some (XyziWithoutSize n) r
refuses_fault (ShortXyzi n) bytes some r = RefusesModels.bad_file some (ShortXyzi n) r
refuses_fault (VoxelOutside n) bytes some r = RefusesModels.bad_file some (VoxelOutside n) r
refuses_fault (TooManyModels n) bytes some r = RefusesModels.bad_file some (TooManyModels n) r

pub some_bytes : (bytes : List ℕ) → eqb (length bytes) 0 ≡ false → 0 < length bytes
some_bytes [] e = absurd (false≢true (sym e))
some_bytes (b ∷ bytes) e = omega arith

pub refuses_file : (fault : VoxFault) (bytes : List ℕ) (status : ℕ) → status ≡ status_of_file fault
    → 0 < length bytes → RefusesFile fault bytes → RefusesModels bytes status
refuses_file fault bytes status eq some r =
    subst (λ (n : ℕ). RefusesModels bytes n) (sym eq) (refuses_fault fault bytes some r)

pub not_boxed : {X : Type 0} (coloured : Bool) (side cap : ℕ) (bytes : List ℕ) → AreSideAndCap coloured side cap
    → (result : Result X ℕ) → IfErr result (λ status. status ≡ 2)
    → IfErr result (λ status. Refuses coloured side cap bytes status)
not_boxed coloured side cap bytes plan (Ok x) is = tt
not_boxed coloured side cap bytes plan (Err status) is =
    subst (λ (n : ℕ). Refuses coloured side cap bytes n) (sym is) (Refuses.memory plan)

pub models_refused : (coloured : Bool) (side cap : ℕ) (bytes : List ℕ) (status : ℕ) → AreSideAndCap coloured side cap
    → RefusesModels bytes status → Refuses coloured side cap bytes status
models_refused coloured side cap bytes status is why = Refuses.no_models status is why

-- ---- the store of a world

-- four times the side is one too, where the side is 1,024 at most
four_times : (world : ℕ) → 2 ≤ world → world ≤ 10 → IsTrue (is_side (2 ^ world * 4))
four_times zero low high = absurd (omega arith)
four_times (suc zero) low high = absurd (omega arith)
four_times (suc (suc zero)) low high = refl
four_times (suc (suc (suc zero))) low high = refl
four_times (suc (suc (suc (suc zero)))) low high = refl
four_times (suc (suc (suc (suc (suc zero))))) low high = refl
four_times (suc (suc (suc (suc (suc (suc zero)))))) low high = refl
four_times (suc (suc (suc (suc (suc (suc (suc zero))))))) low high = refl
four_times (suc (suc (suc (suc (suc (suc (suc (suc zero)))))))) low high = refl
four_times (suc (suc (suc (suc (suc (suc (suc (suc (suc zero))))))))) low high = refl
four_times (suc (suc (suc (suc (suc (suc (suc (suc (suc (suc zero)))))))))) low high = refl
four_times (suc (suc (suc (suc (suc (suc (suc (suc (suc (suc (suc more))))))))))) low high =
    absurd (omega arith)

pub four_side : (world cells : ℕ) → 2 ≤ world → cells ≡ 2 ^ world → 2 ^ world ≤ 1024
    → IsTrue (is_side (cells * 4))
four_side world cells low is few =
    let high : world ≤ 10 = elim (cases_lt world 11) [
      | inl less ↦ omega (arith, less)
      | inr more ↦ absurd (let up : 2 ^ 11 ≤ 2 ^ world = pow_mono more in omega (arith, up, few))
    ] in
    subst (λ (n : ℕ). IsTrue (is_side (n * 4))) (sym is) (four_times world low high)

pub four_few : (world store cells : ℕ) → store ≤ 12 → cells ≡ 2 ^ world → 2 ^ store ≡ cells * 4
    → 2 ^ world ≤ 1024
four_few world store cells high is four =
    let most : 2 ^ store ≤ 2 ^ 12 = pow_mono high in omega (arith, is, four, most)

pub store_is : (world store cells : ℕ) → 2 ≤ world → 2 ≤ store → store ≤ 12 → cells ≡ 2 ^ world
    → 2 ^ store ≡ cells * 4 → (2 ^ store / 4 ≡ 2 ^ world) × (4 ≤ store)
store_is world store cells low some high is four =
    let kept = store_side_is world store cells low some high is (omega (arith, four)) in
    (omega (arith, four, is), kept.0.2 refl)

pub tinted_exactly : (tint : Bool) (world : ℕ) (result : Option ℕ) → tint ≡ true
    → (IsSome result ↔ (2 ^ world ≤ 1024)) → IsSome result ↔ (tint ≡ true → 2 ^ world ≤ 1024)
tinted_exactly tint world result is e = (λ some _. e.0 some, λ has. e.1 (has is))

pub tinted_side : (tint : Bool) (world : ℕ) (result : Option ℕ) → tint ≡ true
    → IfSome result (λ s. (2 ^ s / 4 ≡ 2 ^ world) × (4 ≤ s))
    → IfSome result (λ s. side_of_world tint (2 ^ s) ≡ 2 ^ world)
tinted_side tint world None is told = tt
tinted_side tint world (Some s) is told =
    subst (λ (c : Bool). side_of_world c (2 ^ s) ≡ 2 ^ world) (sym is) told.0

pub tinted_large : (tint : Bool) (world : ℕ) (result : Option ℕ) → tint ≡ true
    → IfSome result (λ s. (2 ^ s / 4 ≡ 2 ^ world) × (4 ≤ s))
    → IfSome result (λ s. IsLargeStore tint s)
tinted_large tint world None is told = tt
tinted_large tint world (Some s) is told =
    subst (λ (c : Bool). IsLargeStore c s) (sym is) told.1

module _ (tint : Bool) (world : ℕ) (is : tint ≡ false) where
  pub plain_exactly : IsSome (Some world) ↔ (tint ≡ true → 2 ^ world ≤ 1024)
  plain_exactly = (λ _ tinted. absurd (false≢true (sym is ∙ tinted)), λ _. refl)

  pub plain_store_side : side_of_world tint (2 ^ world) ≡ 2 ^ world
  plain_store_side = ap (λ (c : Bool). side_of_world c (2 ^ world)) is

  pub plain_large : IsLargeStore tint world
  plain_large = subst (λ (c : Bool). IsLargeStore c world) (sym is) tt

-- ---- the plan of the store

pub has_store_side : (coloured : Bool) (side cap world : ℕ) → AreSideAndCap coloured side cap
    → 2 ^ world ≡ side → coloured ≡ true → 2 ^ world ≤ 1024
has_store_side coloured side cap world are same tinted =
    let few = are.has_store tinted in omega (arith, few, same)

pub plan_exactly : (coloured : Bool) (side cap world : ℕ) (result : Option Layout)
    → IsTrue (is_side side) → 2 ^ world ≡ side → (coloured ≡ true → 2 ^ world ≤ 1024)
    → (IsSome result ↔ IsCapAsked cap) → IsSome result ↔ AreSideAndCap coloured side cap
plan_exactly coloured side cap world result is same has e = (
  λ some. record {
    is_a_side = is;
    has_store = λ tinted. let few = has tinted in omega (arith, few, same);
    is_a_cap = e.0 some;
  },
  λ are. e.1 are.is_a_cap,
)

pub plan_side : (coloured : Bool) (side cap world store : ℕ) (result : Option Layout)
    → side_of_world coloured (2 ^ store) ≡ 2 ^ world → 2 ^ world ≡ side
    → IfSome result (IsPlanAsked store cap)
    → IfSome result (λ p. side_of_world coloured (2 ^ p.side) ≡ side)
plan_side coloured side cap world store None of same told = tt
plan_side coloured side cap world store (Some p) of same told =
    ap (λ (n : ℕ). side_of_world coloured (2 ^ n)) told.side_is ∙ of ∙ same

pub plan_large : (coloured : Bool) (cap store : ℕ) (result : Option Layout)
    → IsLargeStore coloured store → IfSome result (IsPlanAsked store cap)
    → IfSome result (λ p. IsLargeStore coloured p.side)
plan_large coloured cap store None large told = tt
plan_large coloured cap store (Some p) large told =
    subst (λ (n : ℕ). IsLargeStore coloured n) (sym told.side_is) large

pub plan_buckets : (cap store : ℕ) (result : Option Layout) → IfSome result (IsPlanAsked store cap)
    → IfSome result (λ p. p.buckets ≡ usual_buckets)
plan_buckets cap store None told = tt
plan_buckets cap store (Some p) told = told.buckets

pub plan_slots : (cap store : ℕ) (result : Option Layout) → IfSome result (IsPlanAsked store cap)
    → IfSome result (λ p. AreSlots cap p.cap)
plan_slots cap store None told = tt
plan_slots cap store (Some p) told = told.slots
