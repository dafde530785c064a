use Rattle.dag_file.proofs.TreeLaws.{leaf_below, leaf_place, leaf_begun}
use Rattle.dag_file.proofs.views.DagView.leaf_from.Goals as goal

pub leaf-requires : goal.leaf-requires
leaf-requires c =
    let below =
    leaf_below c.self.inside.bytes.now c.self.inside.parts.starts c.self.inside.parts.side
    c.self.inside.parts.versions c.args.self.now c.self.invariant c.self.view_is
    c.args.n c.args.octant c.child_from.result c.in-Some.below c.requires.reached c.requires.level
    c.child_from.ensures c.in-Some.is in
    (leaf_place c.self.inside.bytes.now c.self.inside.parts.starts c.self.inside.parts.side
    c.self.inside.parts.versions c.args.self.now c.self.invariant c.self.view_is
    c.in-Some.below c.index_of.result below.0 below.1 c.index_of.ensures).1

pub returns-in-Some : goal.returns-in-Some
returns-in-Some c =
    leaf_begun c.self.inside.bytes.now c.self.inside.parts.starts c.self.inside.parts.side
    c.self.inside.parts.versions c.args.self.now c.self.invariant c.self.view_is
    c.args.n c.args.octant c.index_of.result c.leaf.result c.child_from.result c.in-Some.below
    c.requires.reached c.requires.level c.child_from.ensures c.in-Some.is c.index_of.ensures
    c.leaf.ensures
