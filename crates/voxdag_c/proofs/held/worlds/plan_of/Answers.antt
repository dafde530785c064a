use Rattle.std.proofs.Common.{refl}
use Rattle.std.proofs.lemmas.Bool.{false≢true}
use Rattle.voxdag_c.proofs.OfHeld.Opening.{has_store_side, plan_exactly, plan_side, plan_large, plan_buckets, plan_slots}
use Rattle.voxdag_c.proofs.held.worlds.plan_of.Goals as goal

pub returns-in-None-clause-exactly : goal.returns-in-None-clause-exactly
returns-in-None-clause-exactly c = (
  λ none. absurd (false≢true none),
  λ are. c.in-None.ensures.exactly.1 are.is_a_side,
)

pub returns-in-None-store_of-clause-exactly : goal.returns-in-None-store_of-clause-exactly
returns-in-None-store_of-clause-exactly c = (
  λ none. absurd (false≢true none),
  λ are. c.in-None-store_of.ensures.exactly.1
      (has_store_side c.args.tint c.args.side c.args.cap c.in-Some.world are c.in-Some.ensures.value),
)

pub returns-in-Some-store_of-clause-exactly : goal.returns-in-Some-store_of-clause-exactly
returns-in-Some-store_of-clause-exactly c =
    plan_exactly c.args.tint c.args.side c.args.cap c.in-Some.world c.plan_with.result
    (c.in-Some.ensures.exactly.0 refl) c.in-Some.ensures.value
    (c.in-Some-store_of.ensures.exactly.0 refl) c.plan_with.ensures.exactly

pub returns-in-Some-store_of-clause-side : goal.returns-in-Some-store_of-clause-side
returns-in-Some-store_of-clause-side c =
    plan_side c.args.tint c.args.side c.args.cap c.in-Some.world c.in-Some-store_of.store
    c.plan_with.result c.in-Some-store_of.ensures.side c.in-Some.ensures.value
    c.plan_with.ensures.plan

pub returns-in-Some-store_of-clause-large : goal.returns-in-Some-store_of-clause-large
returns-in-Some-store_of-clause-large c =
    plan_large c.args.tint c.args.cap c.in-Some-store_of.store c.plan_with.result
    c.in-Some-store_of.ensures.large c.plan_with.ensures.plan

pub returns-in-Some-store_of-clause-buckets : goal.returns-in-Some-store_of-clause-buckets
returns-in-Some-store_of-clause-buckets c =
    plan_buckets c.args.cap c.in-Some-store_of.store c.plan_with.result c.plan_with.ensures.plan

pub returns-in-Some-store_of-clause-cap : goal.returns-in-Some-store_of-clause-cap
returns-in-Some-store_of-clause-cap c =
    plan_slots c.args.cap c.in-Some-store_of.store c.plan_with.result c.plan_with.ensures.plan
