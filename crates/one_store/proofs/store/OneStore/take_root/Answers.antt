use Rattle.std.proofs.Common.{◌≡◌, ◌∙◌, sym, subst, arith, None}
use Rattle.one_store.proofs.OfEntries.ReadLaws.{default_any}
use Rattle.one_store.specs.Known.{Known, stored_root}
use Rattle.one_store.proofs.RootLaws.{gives_none, empty_event}
use Rattle.one_store.proofs.store.OneStore.take_root.Goals as goal

pub returns-in-None-clause-gives : goal.returns-in-None-clause-gives
returns-in-None-clause-gives c =
    let empty : stored_root c.self.inside.roots.items c.args.place ≡ None =
    default_any c.self.inside.roots.items c.args.place None c.index.result.now
    (omega (arith, c.requires.place, c.self.invariant.places)) ∙ sym c.index.ensures
    ∙ c.in-None.is in
    gives_none c.args.self.now c.args.place
    (subst (λ (v : Known). stored_root v.roots c.args.place ≡ None) c.self.view_is empty)

pub returns-in-None-clause-event : goal.returns-in-None-clause-event
returns-in-None-clause-event c =
    let empty : stored_root c.self.inside.roots.items c.args.place ≡ None =
    default_any c.self.inside.roots.items c.args.place None c.index.result.now
    (omega (arith, c.requires.place, c.self.invariant.places)) ∙ sym c.index.ensures
    ∙ c.in-None.is in
    empty_event c.args.self.now c.args.place c.requires.place
    (subst (λ (v : Known). stored_root v.roots c.args.place ≡ None) c.self.view_is empty)
