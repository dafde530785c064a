use Rattle.std.proofs.Common.{Option, sym, subst, arith, ◌-◌}
use Rattle.node_words.specs.declared.shapes.names.Name.{Name}
use Rattle.node_words.specs.Held.{StoreState, HoldsName}
use Rattle.testkit.specs.worlds.Roots.{HoldsOnly}
use Rattle.testkit.proofs.OfWorlds.RootLaws.{taken_only, only_root, only_holds}
use Rattle.tests_edits.proofs.colours.worlds.tints.Goals as goal

pub some_tints-told-requires-clause-root : goal.some_tints-told-requires-clause-root
some_tints-told-requires-clause-root c =
    let t = c.take_root-root in
    let only =
    taken_only c.args.store.now t.new.self 0 c.args.side t.result
    (omega (arith, c.held.ensures.number, c.if-held-gt0.false)) t.ensures.gives t.ensures.root t.ensures.top c.requires.side in
    only_root _ c.args.side _
    (subst (λ (o : Option Name). HoldsOnly t.new.self.told.held (c.args.side - 2) o)
    (sym c.as_ref.ensures.value) only)

pub keep_root-requires-clause-held : goal.keep_root-requires-clause-held
keep_root-requires-clause-held c x e =
    let t = c.take_root-root in
    let only =
    taken_only c.args.store.now t.new.self 0 c.args.side t.result
    (omega (arith, c.held.ensures.number, c.if-held-gt0.false)) t.ensures.gives t.ensures.root t.ensures.top c.requires.side in
    subst (λ (s : StoreState). HoldsName s.held x) (sym c.some_tints-told.ensures.seen)
    (only_holds _ _ _ x only e)
