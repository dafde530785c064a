use Rattle.one_store.specs.Known.{known_state}
use Rattle.std.proofs.Common.{◌-◌}
use Rattle.dag_file.proofs.CanonicalLaws.{show_canonical}
use Rattle.tests_core.proofs.OfStores.Roots.{two, two_held, two_rise, two_small}
use Rattle.tests_core.proofs.stores.worlds.two_versions.Goals as goal

pub write_dag-written-requires-clause-roots : goal.write_dag-written-requires-clause-roots
write_dag-written-requires-clause-roots c =
    two_held _ c.args.side c.args.root c.requires.low c.requires.root

pub write_dag-written-requires-clause-canonical : goal.write_dag-written-requires-clause-canonical
write_dag-written-requires-clause-canonical c =
    show_canonical (known_state c.args.store.now).held _ (c.args.side - 1)
    (two c.args.root) c.held-live.ensures.trees c.held-live.ensures.canonical
    (two_held _ c.args.side c.args.root c.requires.low c.requires.root)

pub write_dag-written-requires-clause-rise : goal.write_dag-written-requires-clause-rise
write_dag-written-requires-clause-rise c = two_rise c.args.root

pub write_dag-written-requires-clause-small : goal.write_dag-written-requires-clause-small
write_dag-written-requires-clause-small c = two_small c.args.root
