use Rattle.std.proofs.Common.{get_or, refl, arith}
use Rattle.core_laws.proofs.OfPlaces.Prefixes.{ends_none, ends_more}
use Rattle.one_store.proofs.OfEntries.EndLaws.{buckets_end_small}
use Rattle.one_store.proofs.entries.ends.ends_of.Goals as goal

pub loop-level-init : goal.loop-level-init
loop-level-init c = ends_none _ _ _ refl refl

pub overflow_add-ends : goal.overflow_add-ends
overflow_add-ends c =
    let small =
    buckets_end_small c.loop-level.level c.args.buckets.now c.loop-level.ends c.loop-level.level c.loop-level.invariant (omega arith) (omega arith) (λ i. omega (arith, c.fits-buckets i)) in
    omega (arith, small, c.fits-buckets c.loop-level.level, c.from.ensures)

pub loop-level-preserved : goal.loop-level-preserved
loop-level-preserved c =
    ends_more c.loop-level.level 0 _ (λ level. get_or c.args.buckets.now level 0) c.loop-level.ends
    (omega arith) c.loop-level.invariant (rw c.from.ensures refl)

pub returns-clause-small : goal.returns-clause-small
returns-clause-small c levels le =
    buckets_end_small c.loop-level.level c.args.buckets.now c.loop-level.ends levels c.loop-level.invariant (omega arith) (omega arith) (λ i. omega (arith, c.fits-buckets i))
