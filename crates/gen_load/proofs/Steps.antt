-- Draws one after another, and the kinds of edits.
use Rattle.std.proofs.Common.{◌≡◌, ◌≢◌, ℕ, zero, suc, ◌+◌, ◌*◌, ◌%◌, ◌^◌, refl, ap, add-zero, add-suc}
use Rattle.std.proofs.Math.Nat.{mod-add-mod}
use Rattle.history_model.specs.declared.acts.Act.TheVariants.{Stamp}
use Rattle.gen_load.specs.Draws.{stepped, state_after}
use Rattle.gen_load.specs.Loads.{edit_of, draws_of, place_from}

pub one_step : (g : ℕ)
    →
    (g * 6364136223846793005 % 18446744073709551616 + 1442695040888963407) % 18446744073709551616 ≡ stepped g
unfolding stepped
one_step g = mod-add-mod (g * 6364136223846793005) (2 ^ 64) 1442695040888963407

pub state_add : (g a b : ℕ) → state_after (state_after g a) b ≡ state_after g (a + b)
unfolding state_after
state_add g a zero = rw add-zero refl
state_add g a (suc b) = rw add-suc (ap stepped (state_add g a b))

pub stamp_is : (kind g x : ℕ) → kind ≢ 0 → kind ≢ 1 → kind ≢ 2
    → edit_of kind g x ≡ Stamp 0 (place_from g x)
stamp_is zero g x a b c = absurd (a refl)
stamp_is (suc zero) g x a b c = absurd (b refl)
stamp_is (suc (suc zero)) g x a b c = absurd (c refl)
stamp_is (suc (suc (suc kind))) g x a b c = refl

pub stamp_draws : (kind : ℕ) → kind ≢ 0 → kind ≢ 1 → kind ≢ 2 → draws_of kind ≡ 4
stamp_draws zero a b c = absurd (a refl)
stamp_draws (suc zero) a b c = absurd (b refl)
stamp_draws (suc (suc zero)) a b c = absurd (c refl)
stamp_draws (suc (suc (suc kind))) a b c = refl
