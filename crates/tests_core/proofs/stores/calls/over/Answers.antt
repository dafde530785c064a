use Rattle.tests_core.proofs.OfStores.OneChild.{holds_third, third_below, third_child}
use Rattle.tests_core.proofs.stores.calls.over.Goals as goal

pub node-requires-clause-some : goal.node-requires-clause-some
node-requires-clause-some g c = third_child c.args.leaf

pub node-requires-clause-below : goal.node-requires-clause-below
node-requires-clause-below g c = third_below c.args.leaf c.requires.level

pub node-requires-clause-held : goal.node-requires-clause-held
node-requires-clause-held g c = holds_third _ c.args.leaf c.requires.leaf

pub returns-in-Ok : goal.returns-in-Ok
returns-in-Ok g c =
    let holds = holds_third c.args.store.now.told.held c.args.leaf c.requires.leaf in
    record { plan = (c.in-Ok.ensures.grants holds.row holds.are_held).plan }
