use Rattle.std.proofs.Common.{refl}
use Rattle.session.proofs.AttemptLaws.{rests_lent}
use Rattle.session.proofs.ForgetLaws.{same_seen}
use Rattle.session.proofs.world.World.give_root.Goals as goal

pub returns-clause-seen : goal.returns-clause-seen
returns-clause-seen g c =
    same_seen c.args.s.now.view c.give_back.new.s.view c.give_back.ensures.stays.log
    c.give_back.ensures.only.made c.give_back.ensures.only.met

pub returns-clause-back : goal.returns-clause-back
returns-clause-back g c =
    record {
      rest = rests_lent c.args.self.now.table c.args.self.now.table c.args.s.now
          c.give_back.new.s refl c.requires.ready.rest c.give_back.ensures.stays;
      same = c.give_back.ensures.stays.same;
    }
