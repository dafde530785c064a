use Rattle.dag_file.proofs.TreeLaws.{eight_names}
use Rattle.dag_file.proofs.blocks.DagViewBlocks.children_at.Goals as goal

pub returns-clause-children : goal.returns-clause-children
returns-clause-children c = λ t r root. record {
  each = eight_names t _ _ _ _ _ _ _ _ (c.child_from.ensures t r root)
      (c.child_from-2.ensures t r root) (c.child_from-3.ensures t r root)
      (c.child_from-4.ensures t r root) (c.child_from-5.ensures t r root)
      (c.child_from-6.ensures t r root) (c.child_from-7.ensures t r root)
      (c.child_from-8.ensures t r root);
}
