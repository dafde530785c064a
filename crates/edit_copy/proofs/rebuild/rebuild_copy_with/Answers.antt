use Rattle.std.proofs.Common.{sym, subst, arith, ◌-◌, [], Option}
use Rattle.node_words.specs.declared.shapes.names.Name.{Name}
use Rattle.history_model.specs.Worlds.{edited}
use Rattle.history_model.specs.declared.acts.Act.TheVariants.{Copy}
use Rattle.edit_walk.specs.cells.Worlds.{ShowsWorld}
use Rattle.edit_walk.proofs.OfCells.WorldLaws.{root_shown}
use Rattle.edit_copy.proofs.StartLaws.{copy_world}
use Rattle.edit_copy.proofs.rebuild.rebuild_copy_with.Goals as goal

pub rebuild_world-requires-clause-task : goal.rebuild_world-requires-clause-task
rebuild_world-requires-clause-task g c =
    let (before, w) = root_shown _ c.args.side _ c.requires.may.root_is in
    let held = (g.N.Blocks.seen c.args.store.now).held in
    let v =
    subst (λ (o : Option Name). ShowsWorld held (c.args.side - 2) o before)
    (sym c.name_of.ensures) w in
    (edited [] (Copy c.args.from c.args.to) before, copy_world c.args.side _ held _ c.args.from c.args.to _ before (omega arith) (omega arith) c.held-held.ensures.trees c.held-held.ensures.canonical c.requires.from c.requires.to c.whole_task-task.ensures v)

pub returns-clause-made : goal.returns-clause-made
returns-clause-made g c before w =
    let held = (g.N.Blocks.seen c.args.store.now).held in
    let v =
    subst (λ (o : Option Name). ShowsWorld held (c.args.side - 2) o before)
    (sym c.name_of.ensures) w in
    c.rebuild_world.ensures.made (edited [] (Copy c.args.from c.args.to) before)
    (copy_world c.args.side _ held _ c.args.from c.args.to _ before (omega arith)
    (omega arith) c.held-held.ensures.trees c.held-held.ensures.canonical c.requires.from c.requires.to c.whole_task-task.ensures v)
