use Rattle.std.proofs.Common.{sym, subst, set, ◌≡◌, None, Some}
use Rattle.node_words.specs.Held.{HoldsName}
use Rattle.core_laws.specs.contents.Aligned.{top}
use Rattle.core_laws.specs.Events.{PutsRoot}
use Rattle.one_store.proofs.OfNotes.Picks.{lost-notes}
use Rattle.one_store.specs.Known.{Known, core_of, stored_root}
use Rattle.one_store.specs.Steps.{KeepsRoot}
use Rattle.one_store.proofs.StoreLaws.{held_tree}
use Rattle.one_store.proofs.RootLaws.{keep_event, keep_store, keeps_root, with_roots}
use Rattle.one_store.proofs.store.OneStore.place_root.Goals as goal

pub note_loss-requires : goal.note_loss-requires
note_loss-requires c =
    lost-notes _ _
    (held_tree _ _ c.args.n c.self.invariant
    (subst (λ (v : Known). HoldsName v.told.held c.args.n)
    (sym c.self.view_is) c.requires.held))

pub invariant_of-self : goal.invariant_of-self
invariant_of-self c =
    let e = sym c.self.view_is in
    let h = subst (λ (v : Known). HoldsName v.told.held c.args.n) e c.requires.held in
    let none = subst (λ (v : Known). stored_root v.roots c.args.place ≡ None) e c.requires.empty in
    let level = subst (λ (v : Known). c.args.n.level ≡ top v.words.plan.side) e c.requires.top in
    keep_store _ c.note_loss.new.notes c.args.place c.args.n _ c.self.invariant c.requires.place none h level c.note_loss.ensures

pub returns-clause-keeps : goal.returns-clause-keeps
returns-clause-keeps c =
    let e = sym c.self.view_is in
    let level = subst (λ (v : Known). c.args.n.level ≡ top v.words.plan.side) e c.requires.top in
    let was : Known =
    record { words = c.self.inside.words; roots = c.self.inside.roots.items; told = c.self.inside.notes } in
    subst (λ (v : Known). KeepsRoot v c.args.place (Some c.args.n)
    (with_roots was
    (set was.roots c.args.place (Some c.args.n)) c.note_loss.new.notes)) c.self.view_is
    (keeps_root was c.note_loss.new.notes c.args.place c.args.n _ c.self.invariant c.requires.place level c.note_loss.ensures)

pub returns-clause-event : goal.returns-clause-event
returns-clause-event c =
    let e = sym c.self.view_is in
    let h = subst (λ (v : Known). HoldsName v.told.held c.args.n) e c.requires.held in
    let none = subst (λ (v : Known). stored_root v.roots c.args.place ≡ None) e c.requires.empty in
    let was : Known =
    record { words = c.self.inside.words; roots = c.self.inside.roots.items; told = c.self.inside.notes } in
    subst (λ (v : Known). PutsRoot v.words.plan 0 c.args.place (Some c.args.n) (core_of v)
    (core_of (with_roots was
    (set was.roots c.args.place (Some c.args.n)) c.note_loss.new.notes))) c.self.view_is
    (keep_event was c.note_loss.new.notes c.args.place c.args.n _ c.self.invariant c.requires.place none h c.note_loss.ensures)
