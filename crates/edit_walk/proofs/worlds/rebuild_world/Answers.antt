use Rattle.std.proofs.Common.{◌-◌, sym, subst, arith, ℕ}
use Rattle.node_words.proofs.HeldLaws.{keeps_itself}
use Rattle.edit_walk.specs.Edits.{MakesBlock}
use Rattle.edit_walk.specs.cells.Worlds.{world_cells, world_shape}
use Rattle.edit_walk.proofs.OfCells.WorldLaws.{root_made, root_turns}
use Rattle.edit_walk.proofs.worlds.rebuild_world.Goals as goal

pub returns-clause-made : goal.returns-clause-made
returns-clause-made g c world m =
    let e = c.root_level-level.ensures.value in
    let old = g.N.Blocks.seen c.args.store.now in
    let new = g.N.Blocks.seen c.rebuild.new.store in
    let at =
    subst (λ (l : ℕ). g.T.Task.makes c.args.task.now old.held l (world_cells world)) (sym e) m in
    root_made old new (c.args.side - 2) world c.rebuild.result
    (subst (λ (l : ℕ). MakesBlock l (world_shape l world) c.rebuild.result old new) e
    (c.rebuild.ensures.made old.held (world_cells world) (keeps_itself old.held) at))

pub returns-clause-turns : goal.returns-clause-turns
returns-clause-turns g c =
    root_turns c.rebuild.result (λ l. g.T.Task.mixed l c.args.task.now) _ _
    c.root_level-level.result c.args.side c.root_level-level.ensures.value (omega arith)
    c.rebuild.ensures.turns
