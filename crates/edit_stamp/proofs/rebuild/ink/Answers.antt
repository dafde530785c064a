use Rattle.std.proofs.Common.{sym, subst, arith, ◌-◌, Option}
use Rattle.node_words.specs.declared.shapes.names.Name.{Name}
use Rattle.edit_walk.specs.cells.Worlds.{ShowsWorld}
use Rattle.edit_walk.proofs.OfCells.WorldLaws.{root_shown}
use Rattle.edit_stamp.specs.Stamps.{inked}
use Rattle.edit_stamp.proofs.StampLaws.{stamp_world}
use Rattle.edit_stamp.proofs.rebuild.ink.Goals as goal

pub rebuild_world-requires-clause-task : goal.rebuild_world-requires-clause-task
rebuild_world-requires-clause-task g c =
    let (before, w) = root_shown _ c.args.side _ c.requires.may.root_is in
    let held = (g.N.Blocks.seen c.args.store.now).held in
    let v =
    subst (λ (o : Option Name). ShowsWorld held (c.args.side - 2) o before)
    (sym c.name_of.ensures) w in
    (inked c.args.set c.args.stencil.now c.args.at before, stamp_world _ _ held _ c.args.stencil.now c.args.at c.args.set before (omega arith) (omega arith, omega arith, omega arith) c.held-held.ensures.trees c.held-held.ensures.canonical v)

pub returns-clause-made : goal.returns-clause-made
returns-clause-made g c before w =
    let held = (g.N.Blocks.seen c.args.store.now).held in
    let v =
    subst (λ (o : Option Name). ShowsWorld held (c.args.side - 2) o before)
    (sym c.name_of.ensures) w in
    c.rebuild_world.ensures.made (inked c.args.set c.args.stencil.now c.args.at before)
    (stamp_world _ _ held _ c.args.stencil.now c.args.at c.args.set before (omega arith)
    (omega arith, omega arith, omega arith) c.held-held.ensures.trees c.held-held.ensures.canonical v)
