use Rattle.std.proofs.Common.{sym, subst, ap, arith, rules, ◌≤◌, ◌+◌, ◌-◌, ◌≡◌, ◌∙◌, ℕ, Option}
use Rattle.node_words.specs.declared.shapes.names.Name.{Name}
use Rattle.node_words.specs.Held.{HoldsName, AreBelow, name_in}
use Rattle.core_laws.specs.States.{tree_at}
use Rattle.one_store.specs.entries.Words.{book_in, key_in}
use Rattle.one_store.specs.Known.{Known, IsStore}
use Rattle.one_store.specs.Steps.{Releases, HoldsChild}
use Rattle.one_store.proofs.StoreLaws.{held_name}
use Rattle.one_store.proofs.BackLaws.{released_none, released_left, released_leaf, released_node, leaf_number, live_names, node_below, node_holds, node_room, book_one, row_more, holds_next, row_room}
use Rattle.one_store.proofs.CallLaws.{gave_one, gave_last, gave_node}
use Rattle.one_store.proofs.store.OneStore.+back.Goals as goal

pub release-book-book-requires : goal.release-book-book-requires
release-book-book-requires g t c =
    (held_name _ _ c.args.n c.self.invariant
    (subst (λ (v : Known). HoldsName v.told.held c.args.n)
    (sym c.self.view_is) c.requires.held)).name

pub release-returns-then-book-gt1-clause-releases : goal.release-returns-then-book-gt1-clause-releases
release-returns-then-book-gt1-clause-releases g t c =
    released_left c.args.self.now c.lower.new.self c.args.n c.args.steps.now c.tick.new.self c.lower.ensures c.tick.ensures

pub release-free-requires-clause-last : goal.release-free-requires-clause-last
release-free-requires-clause-last g t c =
    let s = subst (λ (v : Known). IsStore v c.self.inside.number) c.self.view_is c.self.invariant in
    let book = c.book-book.ensures ∙ ap (λ (v : Known). book_in v.words c.args.n) c.self.view_is in
    book_one _ (held_name c.args.self.now _ c.args.n s c.requires.held).book
    (omega (arith, book, c.if-book-gt1.false))

pub release-free-requires-clause-children : goal.release-free-requires-clause-children
release-free-requires-clause-children g t c =
    let s = subst (λ (v : Known). IsStore v c.self.inside.number) c.self.view_is c.self.invariant in
    leaf_number c.args.self.now _ c.args.n s c.requires.held c.if-n-eq0.true

pub release-returns-then-n-eq0-clause-releases : goal.release-returns-then-n-eq0-clause-releases
release-returns-then-n-eq0-clause-releases g t c =
    let s = subst (λ (v : Known). IsStore v c.self.inside.number) c.self.view_is c.self.invariant in
    let book = c.book-book.ensures ∙ ap (λ (v : Known). book_in v.words c.args.n) c.self.view_is in
    let one =
    book_one _ (held_name c.args.self.now _ c.args.n s c.requires.held).book
    (omega (arith, book, c.if-book-gt1.false)) in
    released_leaf c.args.self.now c.free.new.self c.args.n _ c.args.steps.now c.tick.new.self s c.requires.held c.if-n-eq0.true one c.free.ensures c.tick.ensures

pub release-children-children-requires-clause-name : goal.release-children-children-requires-clause-name
release-children-children-requires-clause-name g t c =
    (held_name _ _ c.args.n c.self.invariant
    (subst (λ (v : Known). HoldsName v.told.held c.args.n)
    (sym c.self.view_is) c.requires.held)).name

pub release-children-children-requires-clause-names : goal.release-children-children-requires-clause-names
release-children-children-requires-clause-names g t c =
    live_names _ _ c.args.n c.self.invariant
    (held_name _ _ c.args.n c.self.invariant
    (subst (λ (v : Known). HoldsName v.told.held c.args.n)
    (sym c.self.view_is) c.requires.held))

pub release-free-requires-2-clause-last : goal.release-free-requires-2-clause-last
release-free-requires-2-clause-last g t c =
    let s = subst (λ (v : Known). IsStore v c.self.inside.number) c.self.view_is c.self.invariant in
    let book = c.book-book.ensures ∙ ap (λ (v : Known). book_in v.words c.args.n) c.self.view_is in
    book_one _ (held_name c.args.self.now _ c.args.n s c.requires.held).book
    (omega (arith, book, c.if-book-gt1.false))

pub release-release_row-requires : goal.release-release_row-requires
release-release_row-requires g t c κs within =
    let s = subst (λ (v : Known). IsStore v c.self.inside.number) c.self.view_is c.self.invariant in
    let k =
    c.children-children.ensures ∙ ap (λ (v : Known). key_in v.words c.args.n) c.self.view_is in
    let above : 1 ≤ c.args.n.level = omega (arith, c.if-n-eq0.false) in
    let below =
    node_below c.args.self.now _ c.args.n c.children-children.result s c.requires.held k in
    let holds =
    node_holds c.args.self.now c.free-2.new.self _ c.args.n c.children-children.result s c.requires.held k c.free-2.ensures in
    let room =
    node_room c.args.self.now c.free-2.new.self c.args.n above c.requires.room c.free-2.ensures in
    search (rules, arith, above, below, holds, room)

pub release-returns-clause-releases : goal.release-returns-clause-releases
release-returns-clause-releases g t c =
    let s = subst (λ (v : Known). IsStore v c.self.inside.number) c.self.view_is c.self.invariant in
    let k =
    c.children-children.ensures ∙ ap (λ (v : Known). key_in v.words c.args.n) c.self.view_is in
    let above : 1 ≤ c.args.n.level = omega (arith, c.if-n-eq0.false) in
    let book = c.book-book.ensures ∙ ap (λ (v : Known). book_in v.words c.args.n) c.self.view_is in
    let one =
    book_one _ (held_name c.args.self.now _ c.args.n s c.requires.held).book
    (omega (arith, book, c.if-book-gt1.false)) in
    released_node c.args.self.now c.free-2.new.self c.release_row.new.self c.args.n c.children-children.result _ c.args.steps.now c.tick.new.self c.release_row.new.steps s c.requires.held above one k c.free-2.ensures c.tick.ensures c.release_row.ensures

pub release_row-release_some-requires : goal.release_row-release_some-requires
release_row-release_some-requires g t c κs within =
    let z : c.args.level - 1 + 1 ≡ c.args.level = omega (arith, c.requires.level) in
    let below = subst (λ (l : ℕ). AreBelow l c.args.children.now) (sym z) c.requires.below in
    let child =
    holds_next c.args.self.now c.loop-k.self
    (c.args.level - 1) c.args.children.now c.loop-k.k c.args.steps.now c.loop-k.steps
    (omega arith) c.requires.held below c.loop-k.invariant in
    let held =
    subst (λ (l : ℕ). HoldsChild c.loop-k.self.told.held l
    (name_in c.args.children.now c.loop-k.k)) z child in
    let room =
    row_room c.args.self.now c.loop-k.self _ c.loop-k.k c.args.steps.now c.loop-k.steps
    (c.args.level - 1) c.requires.room c.loop-k.invariant in
    let above = c.requires.level in
    search (rules, arith, above, held, room)

pub release_row-loop-k-preserved : goal.release_row-loop-k-preserved
release_row-loop-k-preserved g t c =
    row_more c.args.self.now c.loop-k.self c.release_some.new.self
    (c.args.level - 1) c.args.children.now c.loop-k.k c.args.steps.now c.loop-k.steps c.release_some.new.steps (omega arith) c.loop-k.invariant c.release_some.ensures

pub release_some-returns-in-None : goal.release_some-returns-in-None
release_some-returns-in-None g t c =
    subst (λ (o : Option Name). Releases c.args.self.now
    (tree_at (key_in c.args.self.now.words)
    (c.args.level - 1) o) c.args.self.now c.args.steps.now c.args.steps.now)
    (sym c.in-None.is)
    (released_none c.args.self.now c.args.steps.now (c.args.level - 1))

pub release-returns-then-book-gt1-clause-book : goal.release-returns-then-book-gt1-clause-book
release-returns-then-book-gt1-clause-book g t c =
    let book = c.book-book.ensures ∙ ap (λ (v : Known). book_in v.words c.args.n) c.self.view_is in
    gave_one c.args.self.now c.lower.new.self c.args.n c.lower.ensures
    (omega (arith, book, c.if-book-gt1.true))

pub release-returns-then-n-eq0-clause-book : goal.release-returns-then-n-eq0-clause-book
release-returns-then-n-eq0-clause-book g t c =
    let s = subst (λ (v : Known). IsStore v c.self.inside.number) c.self.view_is c.self.invariant in
    let book = c.book-book.ensures ∙ ap (λ (v : Known). book_in v.words c.args.n) c.self.view_is in
    let one =
    book_one _ (held_name c.args.self.now _ c.args.n s c.requires.held).book
    (omega (arith, book, c.if-book-gt1.false)) in
    gave_last c.args.self.now c.free.new.self c.args.n c.free.ensures one

pub release-returns-clause-book : goal.release-returns-clause-book
release-returns-clause-book g t c =
    let s = subst (λ (v : Known). IsStore v c.self.inside.number) c.self.view_is c.self.invariant in
    let live = held_name c.args.self.now _ c.args.n s c.requires.held in
    let book = c.book-book.ensures ∙ ap (λ (v : Known). book_in v.words c.args.n) c.self.view_is in
    let one = book_one _ live.book (omega (arith, book, c.if-book-gt1.false)) in
    gave_node c.args.self.now c.free-2.new.self c.release_row.new.self c.args.n _ c.tick.new.self c.release_row.new.steps live c.free-2.ensures c.release_row.ensures one
