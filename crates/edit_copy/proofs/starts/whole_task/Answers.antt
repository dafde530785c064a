use Rattle.edit_copy.proofs.StartLaws.{whole_is}
use Rattle.edit_copy.proofs.starts.whole_task.Goals as goal

pub returns : goal.returns
returns c =
    whole_is c.args.side c.args.old c.args.from c.args.to _ _ _ _ _ _ c.shift_of-x.ensures c.shift_of-y.ensures c.shift_of-z.ensures
