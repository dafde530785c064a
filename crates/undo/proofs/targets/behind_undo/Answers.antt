use Rattle.undo.proofs.Chains.{last_is}
use Rattle.undo.proofs.targets.behind_undo.Goals as goal

pub returns-clause-last : goal.returns-clause-last
returns-clause-last g c =
    last_is _ c.len-number.result c.cursor_at-now.result.last c.len-number.ensures.number
    (rw (← c.len-number.ensures.records) c.cursor_at-now.ensures.last)
