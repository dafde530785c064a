use Rattle.std.proofs.Common.{refl}
use Rattle.voxdag_c.proofs.OfHeld.Changing.{forgets}
use Rattle.voxdag_c.proofs.held.worlds.CWorld.forget.Goals as goal

pub returns : goal.returns
returns c =
    forgets c.args.self.now
    (record { «open» = c.forget-answer.new.self; keep = c.args.self.now.keep; line = c.next_line-self.result }) c.args.version c.forget-answer.result c.status_of.result
    c.status_of.ensures c.forget-answer.ensures.plan c.forget-answer.ensures.models refl c.next_line-self.ensures c.forget-answer.ensures.logs (c.forget-answer.ensures.goes_on c.args.self.now.keep)
