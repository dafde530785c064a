use Rattle.history_model.proofs.MarkLaws.{no_mark, mark_by}
use Rattle.history_model.proofs.entries.read_mark.Goals as goal

pub returns-in-Ok : goal.returns-in-Ok
returns-in-Ok c = mark_by _ _ _ _ _ c.mark_of.result c.requires c.in-Ok.ensures c.mark_of.ensures

pub returns-in-Err : goal.returns-in-Err
returns-in-Err c = no_mark _ _ _ _ c.requires c.in-Err.ensures
