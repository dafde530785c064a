use Rattle.std.proofs.Common.{refl}
use Rattle.voxdag_c.proofs.OfHeld.Changing.{changed, lacks_memory}
use Rattle.voxdag_c.proofs.held.worlds.CWorld.change.Goals as goal

pub returns-in-Ok : goal.returns-in-Ok
returns-in-Ok c =
    changed c.args.self.now
    (record { «open» = c.change_keeping.new.self; keep = c.args.self.now.keep; line = c.next_line-self.result }) c.args.act c.in-Ok.answer
    c.requires.fits c.change_keeping.ensures.plan c.change_keeping.ensures.models refl c.next_line-self.ensures c.in-Ok.ensures.logs c.in-Ok.ensures.makes c.in-Ok.ensures.goes_on
    c.status_of.result c.status_of.ensures

pub returns-in-Err : goal.returns-in-Err
returns-in-Err c =
    lacks_memory c.args.self.now
    (record { «open» = c.change_keeping.new.self; keep = c.args.self.now.keep; line = c.args.self.now.line }) c.args.act c.requires.fits
    (λ i. record { «open» = c.in-Err.ensures.same i; keep = c.args.self.now.keep; line = c.args.self.now.line })
