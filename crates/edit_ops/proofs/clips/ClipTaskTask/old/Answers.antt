use Rattle.edit_ops.proofs.clips.ClipTaskTask.old.Goals as goal

pub returns-clause-block : goal.returns-clause-block
returns-clause-block c base level cells m = (m.paints.tree, m.paints.is_old)
