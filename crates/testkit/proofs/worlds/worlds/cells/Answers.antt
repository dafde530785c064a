use Rattle.std.proofs.Common.{Option, sym, subst, arith, ◌-◌}
use Rattle.node_words.specs.declared.shapes.names.Name.{Name}
use Rattle.node_words.specs.Held.{StoreState, HoldsName}
use Rattle.testkit.specs.worlds.Roots.{HoldsOnly}
use Rattle.testkit.proofs.OfWorlds.RootLaws.{taken_only, only_root, only_holds}
use Rattle.testkit.proofs.worlds.worlds.cells.Goals as goal

pub list_cells-listed-requires : goal.list_cells-listed-requires
list_cells-listed-requires c =
    let t = c.take_root-root in
    let only =
    taken_only c.args.store.now t.new.self 0 c.args.side t.result
    (omega (arith, c.held.ensures.number, c.if-held-gt0.false)) t.ensures.gives t.ensures.root t.ensures.top c.requires in
    record {
      root = only_root _ c.args.side _
          (subst (λ (o : Option Name). HoldsOnly t.new.self.told.held (c.args.side - 2) o)
          (sym c.as_ref.ensures.value) only);
    }

pub keep_root-requires-clause-held : goal.keep_root-requires-clause-held
keep_root-requires-clause-held c x e =
    let t = c.take_root-root in
    let only =
    taken_only c.args.store.now t.new.self 0 c.args.side t.result
    (omega (arith, c.held.ensures.number, c.if-held-gt0.false)) t.ensures.gives t.ensures.root t.ensures.top c.requires in
    subst (λ (s : StoreState). HoldsName s.held x) (sym c.list_cells-listed.ensures.seen)
    (only_holds _ _ _ x only e)
