use Rattle.std.proofs.Common.{◌≡◌, ◌∙◌, sym, subst, ap, arith, Some, None}
use Rattle.one_store.proofs.OfEntries.ReadLaws.{default_any}
use Rattle.one_store.specs.Known.{Known, stored_root}
use Rattle.one_store.proofs.RootLaws.{root_live}
use Rattle.one_store.proofs.SpareLaws.{gains_root, gains_none}
use Rattle.one_store.proofs.store.OneStore.root_share.Goals as goal

pub raise-requires-clause-live : goal.raise-requires-clause-live
raise-requires-clause-live c =
    let here : stored_root c.self.inside.roots.items c.args.place ≡ Some c.in-Some.n =
    default_any c.self.inside.roots.items c.args.place None c.index.result.now
    (omega (arith, c.requires.place, c.self.invariant.places)) ∙ sym c.index.ensures
    ∙ c.in-Some.is in
    let root =
    subst (λ (v : Known). stored_root v.roots c.args.place
    ≡ Some c.in-Some.n) c.self.view_is here in
    root_live c.args.self.now _ c.args.place c.in-Some.n c.number-number.ensures.store c.requires.place root

pub returns-in-Some-clause-top : goal.returns-in-Some-clause-top
returns-in-Some-clause-top c =
    let here : stored_root c.self.inside.roots.items c.args.place ≡ Some c.in-Some.n =
    default_any c.self.inside.roots.items c.args.place None c.index.result.now
    (omega (arith, c.requires.place, c.self.invariant.places)) ∙ sym c.index.ensures
    ∙ c.in-Some.is in
    let root =
    subst (λ (v : Known). stored_root v.roots c.args.place
    ≡ Some c.raise.result) c.self.view_is (here ∙ ap Some (sym c.raise.ensures.share)) in
    c.number-number.ensures.store.tops c.args.place c.raise.result root

pub returns-in-Some-clause-gains : goal.returns-in-Some-clause-gains
returns-in-Some-clause-gains c =
    let here : stored_root c.self.inside.roots.items c.args.place ≡ Some c.in-Some.n =
    default_any c.self.inside.roots.items c.args.place None c.index.result.now
    (omega (arith, c.requires.place, c.self.invariant.places)) ∙ sym c.index.ensures
    ∙ c.in-Some.is in
    let root =
    subst (λ (v : Known). stored_root v.roots c.args.place
    ≡ Some c.in-Some.n) c.self.view_is here in
    gains_root c.args.self.now c.raise.new.self c.in-Some.n _ c.args.place c.number-number.ensures.store root c.raise.ensures.raises

pub returns-in-None-clause-gains : goal.returns-in-None-clause-gains
returns-in-None-clause-gains c =
    let empty : stored_root c.self.inside.roots.items c.args.place ≡ None =
    default_any c.self.inside.roots.items c.args.place None c.index.result.now
    (omega (arith, c.requires.place, c.self.invariant.places)) ∙ sym c.index.ensures
    ∙ c.in-None.is in
    gains_none c.args.self.now c.args.place
    (subst (λ (v : Known). stored_root v.roots c.args.place ≡ None) c.self.view_is empty)
