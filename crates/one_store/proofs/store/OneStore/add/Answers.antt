use Rattle.std.proofs.Common.{sym, subst, refl, ◌-◌}
use Rattle.core_laws.specs.places.Names.{named}
use Rattle.core_laws.specs.Events.{IsMissing}
use Rattle.one_store.specs.entries.Words.{key_in}
use Rattle.one_store.specs.notes.Changes.{HoldsRow}
use Rattle.one_store.proofs.OfNotes.Picks.{entered-notes, full-notes}
use Rattle.one_store.specs.Known.{Known, core_of, trees_below}
use Rattle.one_store.specs.Steps.{IsSoughtKey, sought_key}
use Rattle.one_store.proofs.AddLaws.{add_store, full_store, row_count}
use Rattle.one_store.proofs.store.OneStore.add.Goals as goal

pub note_entry-requires : goal.note_entry-requires
note_entry-requires c =
    entered-notes _ _ _ _
    (subst (λ (v : Known). HoldsRow v.told.held
    (trees_below (key_in v.words) (c.args.sought.now.level - 1)
    (sought_key c.args.sought.now))) (sym c.self.view_is) c.requires.held)

pub overflow_sub-self : goal.overflow_sub-self
overflow_sub-self c =
    row_count _ _ c.args.children (c.args.sought.now.level - 1)
    (sought_key c.args.sought.now) c.self.invariant
    (subst (λ (v : Known). HoldsRow v.told.held
    (trees_below (key_in v.words) (c.args.sought.now.level - 1)
    (sought_key c.args.sought.now)))
    (sym c.self.view_is) c.requires.held) c.requires.children

pub invariant_of-self : goal.invariant_of-self
invariant_of-self c =
    let e = sym c.self.view_is in
    let s = c.args.sought.now in
    let q = subst (λ (v : Known). IsSoughtKey v.words.plan s) e c.requires.sought in
    let missing =
    subst (λ (v : Known). IsMissing v.words.plan (core_of v) s.level
    (sought_key s)) e c.requires.missing in
    let holds =
    subst (λ (v : Known). HoldsRow v.told.held
    (trees_below (key_in v.words) (s.level - 1) (sought_key s))) e c.requires.held in
    add_store _ _ s
    (named s.level s.bucket c.in-Some.slot) _ c.args.children c.self.invariant q missing holds c.requires.children
    (record { name_is = refl; lowest = c.in-Some.ensures.lowest; words = c.open.ensures; roots = refl; told = c.note_entry.ensures })

pub note_full-requires : goal.note_full-requires
note_full-requires c = full-notes _ _

pub invariant_of-self-in-None : goal.invariant_of-self-in-None
invariant_of-self-in-None c =
    let e = sym c.self.view_is in
    let s = c.args.sought.now in
    let q = subst (λ (v : Known). IsSoughtKey v.words.plan s) e c.requires.sought in
    full_store _ _ s _ c.self.invariant q
    (record { words = refl; roots = refl; full = c.in-None.ensures.full refl; told = c.note_full.ensures })
