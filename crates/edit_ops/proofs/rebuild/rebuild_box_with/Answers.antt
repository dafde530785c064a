use Rattle.std.proofs.Common.{sym, subst, arith, ◌≤◌, ◌-◌, [], Option}
use Rattle.node_words.specs.declared.shapes.names.Name.{Name}
use Rattle.history_model.specs.Worlds.{edited}
use Rattle.edit_walk.specs.cells.Worlds.{ShowsWorld}
use Rattle.edit_walk.proofs.OfCells.WorldLaws.{root_shown}
use Rattle.edit_ops.specs.Boxes.{box_act, parts_met}
use Rattle.edit_ops.proofs.BoxLaws.{makes_world}
use Rattle.edit_ops.specs.Partly.{world_partly}
use Rattle.edit_ops.proofs.PartlyLaws.{world_parts, turns_partly}
use Rattle.edit_ops.proofs.rebuild.rebuild_box_with.Goals as goal

pub rebuild_world-requires-clause-task : goal.rebuild_world-requires-clause-task
rebuild_world-requires-clause-task g c =
    let (before, w) = root_shown _ c.args.side _ c.requires.may.root_is in
    let held = (g.N.Blocks.seen c.args.store.now).held in
    let l : c.args.side - 2 ≤ 10 = omega arith in
    let v =
    subst (λ (o : Option Name). ShowsWorld held (c.args.side - 2) o before)
    (sym c.name_of.ensures) w in
    (edited [] (box_act c.args.set c.args.b) before, makes_world _ _ held c.args.set c.args.b _ before l c.held-held.ensures.trees c.held-held.ensures.canonical v)

pub returns-clause-made : goal.returns-clause-made
returns-clause-made g c before w =
    let held = (g.N.Blocks.seen c.args.store.now).held in
    let l : c.args.side - 2 ≤ 10 = omega arith in
    let v =
    subst (λ (o : Option Name). ShowsWorld held (c.args.side - 2) o before)
    (sym c.name_of.ensures) w in
    c.rebuild_world.ensures.made (edited [] (box_act c.args.set c.args.b) before)
    (makes_world _ _ held c.args.set c.args.b _ before l c.held-held.ensures.trees c.held-held.ensures.canonical v)

pub returns-clause-turns : goal.returns-clause-turns
returns-clause-turns g c =
    let two : 2 ≤ c.args.side = omega arith in
    turns_partly c.rebuild_world.result (parts_met (c.args.side - 2) c.args.b)
    (world_partly c.args.side c.args.b) _ _ _
    (world_parts c.args.side c.args.b two c.requires.inside) c.rebuild_world.ensures.turns
