use Rattle.std.proofs.Common.{sym, subst}
use Rattle.history_model.specs.Logs.{Log}
use Rattle.world_core.specs.Beginning.{HasBegun}
use Rattle.world_core.specs.Stored.{IsStored, stored_state}
use Rattle.world_core.proofs.BeginLaws.{begun, begins, begins_stored}
use Rattle.world_core.proofs.cores.Core.begin.Goals as goal

pub invariant_of-result : goal.invariant_of-result
invariant_of-result c =
    let s =
    begun c.args.plan.now c.args.models.now c.in_ok-begin.field-0 c.in_ok-no_roots.field-0.items c.in_ok-no_holdings.field-0.items in
    subst (λ (log : Log). IsStored (record s { log = log })) (sym c.no_history.ensures.history)
    (begins_stored c.args.plan.now c.args.models.now c.in_ok-begin.field-0 c.in_ok-no_roots.field-0.items c.in_ok-no_holdings.field-0.items c.args.sessions
    c.no_history.ensures.plan c.in_ok-begin.ensures.laid c.in_ok-begin.ensures.free c.in_ok-no_roots.ensures c.in_ok-no_holdings.ensures c.requires.sessions.1)

pub returns-clause-begun : goal.returns-clause-begun
returns-clause-begun c =
    let s =
    begun c.args.plan.now c.args.models.now c.in_ok-begin.field-0 c.in_ok-no_roots.field-0.items c.in_ok-no_holdings.field-0.items in
    subst (λ (log : Log). HasBegun c.args.plan.now c.args.sessions
    (stored_state (record s { log = log }))) (sym c.no_history.ensures.history)
    (begins c.args.plan.now c.args.models.now c.in_ok-begin.field-0 c.in_ok-no_roots.field-0.items c.in_ok-no_holdings.field-0.items c.args.sessions
    c.no_history.ensures.plan c.in_ok-begin.ensures.laid c.in_ok-begin.ensures.free c.in_ok-no_roots.ensures c.in_ok-no_holdings.ensures c.requires.sessions.1)
