use Rattle.std.proofs.Common.{arith}
use Rattle.dag_file.proofs.TreeLaws.{name_inside, begins_node, start_near, told_trees}
use Rattle.dag_file.proofs.views.DagView.words_of.Goals as goal

pub bounds-self-inside-from : goal.bounds-self-inside-from
bounds-self-inside-from c =
    let inside =
    (name_inside c.self.inside.bytes.now c.self.inside.parts.starts c.self.inside.parts.side
    c.self.inside.parts.versions c.args.self.now c.self.invariant c.self.view_is c.args.n c.requires.reached).0 in
    let high = c.self.invariant.bounds.1 in let is = c.from.ensures in omega (arith, inside, high, is)

pub overflow_add-result : goal.overflow_add-result
overflow_add-result c =
    let near =
    start_near c.self.inside.bytes.now c.self.inside.parts.starts c.self.inside.parts.side
    c.self.inside.parts.versions c.args.self.now c.self.invariant c.self.view_is
    c.args.n c.from.result c.index_of.result c.requires.reached c.requires.level c.from.ensures
    c.index_of.ensures in
    omega (arith, near.0, near.1)

pub returns-clause-begins : goal.returns-clause-begins
returns-clause-begins c =
    begins_node c.self.inside.bytes.now c.self.inside.parts.starts c.self.inside.parts.side
    c.self.inside.parts.versions c.args.self.now c.self.invariant c.self.view_is
    c.args.n c.from.result c.index_of.result c.requires.reached c.requires.level c.from.ensures
    c.index_of.ensures

pub returns-clause-trees : goal.returns-clause-trees
returns-clause-trees c =
    told_trees c.self.inside.bytes.now c.self.inside.parts.starts c.self.inside.parts.side
    c.self.inside.parts.versions c.args.self.now c.self.invariant c.self.view_is
