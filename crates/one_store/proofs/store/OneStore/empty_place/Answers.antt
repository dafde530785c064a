use Rattle.std.proofs.Common.{sym, subst, set, ◌≡◌, ◌≤◌, arith, None, Some}
use Rattle.node_words.specs.shapes.Weights.{number_of_trees}
use Rattle.core_laws.specs.contents.Aligned.{top}
use Rattle.core_laws.specs.Events.{TakesRoot}
use Rattle.one_store.proofs.OfNotes.Picks.{gained-notes}
use Rattle.one_store.specs.Known.{Known, core_of, stored_root}
use Rattle.one_store.specs.Steps.{GivesRoot}
use Rattle.one_store.proofs.RootLaws.{take_event, take_store, gives_root, with_roots}
use Rattle.one_store.proofs.store.OneStore.empty_place.Goals as goal

pub note_gain-requires : goal.note_gain-requires
note_gain-requires c = gained-notes _ _

pub overflow_add-self : goal.overflow_add-self
overflow_add-self c =
    let room =
    subst (λ (v : Known). number_of_trees v.told.held ≤ 69631)
    (sym c.self.view_is) c.requires.room in
    omega (arith, c.self.invariant.number_is, room)

pub invariant_of-self : goal.invariant_of-self
invariant_of-self c =
    let root =
    subst (λ (v : Known). stored_root v.roots c.args.place ≡ Some c.args.n)
    (sym c.self.view_is) c.requires.root in
    take_store _ c.note_gain.new.notes c.args.place c.args.n _ c.self.invariant c.requires.place root c.note_gain.ensures

pub returns-clause-top : goal.returns-clause-top
returns-clause-top c =
    let root =
    subst (λ (v : Known). stored_root v.roots c.args.place ≡ Some c.args.n)
    (sym c.self.view_is) c.requires.root in
    subst (λ (v : Known). c.args.n.level ≡ top v.words.plan.side) c.self.view_is
    (c.self.invariant.tops c.args.place c.args.n root)

pub returns-clause-gives : goal.returns-clause-gives
returns-clause-gives c =
    let root =
    subst (λ (v : Known). stored_root v.roots c.args.place ≡ Some c.args.n)
    (sym c.self.view_is) c.requires.root in
    let was : Known =
    record { words = c.self.inside.words; roots = c.self.inside.roots.items; told = c.self.inside.notes } in
    subst (λ (v : Known). GivesRoot v c.args.place
    (with_roots was (set was.roots c.args.place None) c.note_gain.new.notes)) c.self.view_is
    (gives_root was c.note_gain.new.notes c.args.place c.args.n _ c.self.invariant c.requires.place root c.note_gain.ensures)

pub returns-clause-event : goal.returns-clause-event
returns-clause-event c =
    let root =
    subst (λ (v : Known). stored_root v.roots c.args.place ≡ Some c.args.n)
    (sym c.self.view_is) c.requires.root in
    let was : Known =
    record { words = c.self.inside.words; roots = c.self.inside.roots.items; told = c.self.inside.notes } in
    subst (λ (v : Known). TakesRoot v.words.plan 0 c.args.place (core_of v)
    (core_of (with_roots was
    (set was.roots c.args.place None) c.note_gain.new.notes))) c.self.view_is
    (take_event was c.note_gain.new.notes c.args.place c.args.n _ c.self.invariant c.requires.place root c.note_gain.ensures)
