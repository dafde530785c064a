use Rattle.edit_stamp.proofs.stamps.StampTaskTask.old.Goals as goal

pub returns-clause-block : goal.returns-clause-block
returns-clause-block c base level cells m = (m.paints.tree, m.paints.is_old)
