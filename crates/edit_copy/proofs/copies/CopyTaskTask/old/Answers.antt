use Rattle.edit_copy.proofs.copies.CopyTaskTask.old.Goals as goal

pub returns-clause-block : goal.returns-clause-block
returns-clause-block c base level cells m = (m.tree, m.is_old)
