use Rattle.colour.proofs.stamps.InkTaskTask.old.Goals as goal

pub returns-clause-block : goal.returns-clause-block
returns-clause-block c base level cells m = (m.tree, m.is_old)
