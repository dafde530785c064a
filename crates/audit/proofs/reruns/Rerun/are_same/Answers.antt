use Rattle.audit.proofs.Recalling.{same_rerun}
use Rattle.audit.proofs.reruns.Rerun.are_same.Goals as goal

pub returns : goal.returns
returns g c =
    same_rerun c.args.log.now c.args.self.now.replay c.args.self.now.ways.items c.args.self.now.table.items
    c.requires.rerun c.args.v c.args.w c.has_same_tints.result c.has_same_tints.ensures
