use Rattle.std.proofs.Common.{Option, sym, subst, ◌∙◌, arith, ◌-◌}
use Rattle.node_words.specs.declared.shapes.names.Name.{Name}
use Rattle.node_words.specs.descent.Roots.{HoldsRoot}
use Rattle.testkit.specs.worlds.Roots.{HoldsOnly}
use Rattle.testkit.proofs.OfWorlds.RootLaws.{taken_only, only_holds, two_number, two_old, two_new, two_still, old_may, old_gone}
use Rattle.testkit.proofs.worlds.worlds.edit.Goals as goal

pub version-requires-clause-only : goal.version-requires-clause-only
version-requires-clause-only g c =
    let t = c.take_root-old in
    let only =
    taken_only c.args.store.now t.new.self 0 c.args.side t.result
    (omega (arith, c.held.ensures.number, c.if-held-gt0.false)) t.ensures.gives t.ensures.root t.ensures.top c.requires.side in
    subst (λ (o : Option Name). HoldsOnly t.new.self.told.held (c.args.side - 2) o)
    (sym c.as_ref.ensures.value) only

pub changes-changed-requires-clause-before : goal.changes-changed-requires-clause-before
changes-changed-requires-clause-before g c =
    subst (λ (o : Option Name). HoldsRoot c.version.new.store.told.held c.args.side o)
    (c.as_ref.ensures.value ∙ sym c.as_ref-in-Ok.ensures.value)
    (two_old _ c.args.side _ _ c.in-Ok.ensures.ok)

pub changes-changed-requires-clause-after : goal.changes-changed-requires-clause-after
changes-changed-requires-clause-after g c =
    subst (λ (o : Option Name). HoldsRoot c.version.new.store.told.held c.args.side o)
    (sym c.as_ref-in-Ok-2.ensures.value) (two_new _ c.args.side _ _ c.in-Ok.ensures.ok)

pub back_if-requires-clause-room : goal.back_if-requires-clause-room
back_if-requires-clause-room g c =
    omega (arith, two_number _ _ _ _ (two_still _ _ (c.args.side - 2) _ _ c.changes-changed.ensures.seen c.in-Ok.ensures.ok))

pub keep_root-requires-clause-held : goal.keep_root-requires-clause-held
keep_root-requires-clause-held g c x e =
    let two = two_still _ _ (c.args.side - 2) _ _ c.changes-changed.ensures.seen c.in-Ok.ensures.ok in
    let lost =
    c.back_if.ensures.gone two.before (two.is_old.root ∙ c.as_ref.ensures.value)
    (old_may _ _ _ _ two) in
    only_holds _ _ _ x (old_gone _ _ _ _ _ two lost) e

pub keep_root-requires-in-Err-clause-held : goal.keep_root-requires-in-Err-clause-held
keep_root-requires-in-Err-clause-held g c x e =
    only_holds _ _ _ x c.in-Err.ensures.refused (c.as_ref.ensures.value ∙ e)
