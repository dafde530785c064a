-- What a call does through a handle, from what it does to the world that is held.
use Rattle.std.proofs.Common.{◌≡◌, Bool, ℕ, Option, Some, None, List, refl, sym, ◌∙◌, ap, subst}
use Rattle.std.proofs.Common.{ℤ, SFits, w16, to_z, of_z}
use Rattle.vw_cell.specs.declared.cells.Cell.{Cell}
use Rattle.history_model.specs.Ways.{Heading, heading_of}
use Rattle.history_model.specs.declared.questions.Question.TheVariants as questions
use Rattle.transcript.specs.declared.answers.Answer.{Answer}
use Rattle.voxdag_c.specs.declared.held.worlds.CWorld.{CWorld}
use Rattle.voxdag_c.specs.held.Calls.{ByHandle, OpensHandle, ClosesHandle, IsBegun, Refuses, WorldAsks}
use Rattle.voxdag_c.proofs.OfHeld.Fitting.{same_steps}

module _ {X : Type 0} (Untouched : Type 0) (Does : X → ℕ → X → Type 0) where
  pub through_closed : (old new : Option X) → old ≡ None → new ≡ None → Untouched
      → ByHandle Untouched Does old 1 new
  through_closed old new was now same =
      subst (λ (o : Option X). ByHandle Untouched Does o 1 new) (sym was)
      (subst (λ (n : Option X). ByHandle Untouched Does None 1 n) (sym now)
      (ByHandle.closed same))

  pub through_open : (old new : Option X) (w v : X) (status : ℕ) → Some w ≡ old
      → new ≡ Some v → Does w status v
      → ByHandle Untouched Does old status new
  through_open old new w v status was now does =
      subst (λ (o : Option X). ByHandle Untouched Does o status new) was
      (subst (λ (n : Option X). ByHandle Untouched Does (Some w) status n) (sym now)
      (ByHandle.does w v status does))

-- a call that changes nothing
pub through_asks : {X : Type 0} (Untouched : Type 0) (Asks : X → ℕ → Type 0) (old new : Option X)
    (w u v : X) (status : ℕ) → Some w ≡ old → u ≡ w → new ≡ Some v
    → v ≡ u → Asks u status → ByHandle Untouched (λ x n y. (y ≡ x) × Asks x n) old status new
through_asks {X} Untouched Asks old new w u v status was is now same asks =
    through_open Untouched (λ x n y. (y ≡ x) × Asks x n) old new u v status
    (ap (λ (x : X). Some x) is ∙ was) now (same, asks)

-- a call that only reads
pub through_reads : {X : Type 0} (Untouched : Type 0) (Asks : X → ℕ → Type 0) (old new : Option X)
    (w u : X) (status : ℕ) → Some w ≡ old → u ≡ w → new ≡ Some w → Asks u status
    → ByHandle Untouched (λ x n y. (y ≡ x) × Asks x n) old status new
through_reads {X} Untouched Asks old new w u status was is now asks =
    through_open Untouched (λ x n y. (y ≡ x) × Asks x n) old new w w status was now
    (refl, subst (λ (x : X). Asks x status) is asks)

-- a ray by steps of 16 bits
pub by_steps : {w : CWorld} {version : ℕ} {from : Cell} {Written : Answer → Type 0}
    {Untouched : Type 0} {status : ℕ} (dx dy dz : ℤ)
    → SFits w16 dx → SFits w16 dy → SFits w16 dz
    → WorldAsks w version
    (questions.Ray from
    (heading_of (to_z w16 (of_z w16 dx)) (to_z w16 (of_z w16 dy))
    (to_z w16 (of_z w16 dz)))) Written Untouched status
    → WorldAsks w version (questions.Ray from (heading_of dx dy dz)) Written Untouched status
by_steps {w} {version} {from} {Written} {Untouched} {status} dx dy dz x y z asks =
    subst (λ (h : Heading). WorldAsks w version (questions.Ray from h) Written Untouched status)
    (same_steps dx dy dz x y z) asks

-- ---- opening and closing

module _ (coloured : Bool) (side cap keep : ℕ) (bytes : List ℕ) where
  pub opens_again : (old new : Option CWorld) (w : CWorld) → Some w ≡ old → new ≡ Some w
      → OpensHandle coloured side cap keep bytes old 13 new
  opens_again old new w was now =
      subst (λ (o : Option CWorld). OpensHandle coloured side cap keep bytes o 13 new) was
      (subst (λ (n : Option CWorld). OpensHandle coloured side cap keep bytes (Some w) 13 n) (sym now)
      (OpensHandle.is_open w))

  pub opens_begun : (old new : Option CWorld) (w : CWorld) → old ≡ None → new ≡ Some w
      → IsBegun coloured side cap keep bytes w → OpensHandle coloured side cap keep bytes old 0 new
  opens_begun old new w was now begun =
      subst (λ (o : Option CWorld). OpensHandle coloured side cap keep bytes o 0 new) (sym was)
      (subst (λ (n : Option CWorld). OpensHandle coloured side cap keep bytes None 0 n) (sym now)
      (OpensHandle.begun w begun))

  pub opens_not : (old new : Option CWorld) (status : ℕ) → old ≡ None → new ≡ None
      → Refuses coloured side cap bytes status → OpensHandle coloured side cap keep bytes old status new
  opens_not old new status was now why =
      subst (λ (o : Option CWorld). OpensHandle coloured side cap keep bytes o status new) (sym was)
      (subst (λ (n : Option CWorld). OpensHandle coloured side cap keep bytes None status n) (sym now)
      (OpensHandle.refused status why))

pub closes_none : {X : Type 0} (old new : Option X) → old ≡ None → new ≡ None → ClosesHandle old 1 new
closes_none {X} old new was now =
    subst (λ (o : Option X). ClosesHandle o 1 new) (sym was)
    (subst (λ (n : Option X). ClosesHandle None 1 n) (sym now) ClosesHandle.closed)

pub closes_some : {X : Type 0} (old new : Option X) (w : X) → Some w ≡ old → new ≡ None
    → ClosesHandle old 0 new
closes_some {X} old new w was now =
    subst (λ (o : Option X). ClosesHandle o 0 new) was
    (subst (λ (n : Option X). ClosesHandle (Some w) 0 n) (sym now)
    (ClosesHandle.given_back w))
