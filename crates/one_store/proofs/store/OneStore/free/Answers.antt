use Rattle.std.proofs.Common.{sym, subst, refl, arith, ◌≤◌, ◌≡◌}
use Rattle.node_words.specs.shapes.Weights.{number_of_trees}
use Rattle.node_words.specs.Held.{HoldsName}
use Rattle.core_laws.specs.Counting.{children_weight}
use Rattle.one_store.specs.entries.Words.{book_in, key_in}
use Rattle.one_store.proofs.OfNotes.Picks.{freed-notes}
use Rattle.one_store.specs.Known.{Known}
use Rattle.one_store.proofs.StateLaws.{key_few}
use Rattle.one_store.proofs.StoreLaws.{free_store, held_name, held_tree}
use Rattle.one_store.proofs.store.OneStore.free.Goals as goal

pub note_freeing-requires : goal.note_freeing-requires
note_freeing-requires c =
    freed-notes _ _ _
    (held_tree _ _ c.args.n c.self.invariant
    (subst (λ (v : Known). HoldsName v.told.held c.args.n)
    (sym c.self.view_is) c.requires.held))

pub clear-requires : goal.clear-requires
clear-requires c =
    (held_name _ _ c.args.n c.self.invariant
    (subst (λ (v : Known). HoldsName v.told.held c.args.n)
    (sym c.self.view_is) c.requires.held)).name

pub overflow_add-self : goal.overflow_add-self
overflow_add-self c =
    let room =
    subst (λ (v : Known). number_of_trees v.told.held ≤ 8192)
    (sym c.self.view_is) c.requires.room in
    omega (
      arith,
      c.self.invariant.number_is,
      room,
      c.requires.children,
      key_few
          (key_in c.args.self.now.words c.args.n),
    )

pub invariant_of-self : goal.invariant_of-self
invariant_of-self c =
    let e = sym c.self.view_is in
    let h = subst (λ (v : Known). HoldsName v.told.held c.args.n) e c.requires.held in
    let last = subst (λ (v : Known). book_in v.words c.args.n ≡ 1) e c.requires.last in
    let count =
    subst (λ (v : Known). c.args.children
    ≡ children_weight (λ _. 1) (key_in v.words c.args.n)) e c.requires.children in
    free_store _ _ c.args.n _ c.args.children c.self.invariant h last count
    (record { words = c.clear.ensures; roots = refl; told = c.note_freeing.ensures })
