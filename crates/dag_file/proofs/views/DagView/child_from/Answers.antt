use Rattle.std.proofs.Common.{ℕ, ◌+◌, ◌*◌, ap, ◌∙◌, arith}
use Rattle.dag_file.specs.Places.{number_at}
use Rattle.dag_file.proofs.TreeLaws.{word_from, child_begun}
use Rattle.dag_file.proofs.views.DagView.child_from.Goals as goal

pub overflow_add-first : goal.overflow_add-first
overflow_add-first c =
    let near =
    (word_from c.self.inside.bytes.now c.self.inside.parts.starts c.self.inside.parts.side
    c.self.inside.parts.versions c.args.self.now c.self.invariant c.self.view_is
    c.args.n c.args.first c.args.octant c.requires.reached c.requires.level c.requires.octant
    c.requires.first).2 in
    let is = c.from.ensures in let few = c.requires.octant in omega (arith, near, is, few)

pub number-requires : goal.number-requires
number-requires c =
    let fits =
    (word_from c.self.inside.bytes.now c.self.inside.parts.starts c.self.inside.parts.side
    c.self.inside.parts.versions c.args.self.now c.self.invariant c.self.view_is
    c.args.n c.args.first c.args.octant c.requires.reached c.requires.level c.requires.octant
    c.requires.first).0 in
    let is = c.from.ensures in omega (arith, fits, is)

pub word_name-requires : goal.word_name-requires
word_name-requires c =
    let few =
    (word_from c.self.inside.bytes.now c.self.inside.parts.starts c.self.inside.parts.side
    c.self.inside.parts.versions c.args.self.now c.self.invariant c.self.view_is
    c.args.n c.args.first c.args.octant c.requires.reached c.requires.level c.requires.octant
    c.requires.first).1 in
    let is = c.number.ensures
    ∙ ap (λ (o : ℕ). number_at c.self.inside.bytes.now (c.args.first + 4 * o)) c.from.ensures in
    omega (arith, few, is)

pub returns : goal.returns
returns c =
    child_begun c.self.inside.bytes.now c.self.inside.parts.starts c.self.inside.parts.side
    c.self.inside.parts.versions c.args.self.now c.self.invariant c.self.view_is
    c.args.n c.args.first c.args.octant c.number.result c.word_name.result c.requires.reached
    c.requires.level c.requires.octant c.requires.first
    (c.number.ensures
    ∙ ap (λ (o : ℕ). number_at c.self.inside.bytes.now (c.args.first + 4 * o)) c.from.ensures)
    c.word_name.ensures
