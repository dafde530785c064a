use Rattle.std.proofs.Common.{arith}
use Rattle.edit_stamp.proofs.TierLaws.{place_number}
use Rattle.edit_stamp.proofs.tiers.place_of.Goals as goal

pub returns-clause-number : goal.returns-clause-number
returns-clause-number c =
    place_number c.args.size c.args.n c.from-wide.result c.from-deep.result (omega arith)
    (omega arith)
