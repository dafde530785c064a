use Rattle.std.proofs.Common.{arith}
use Rattle.tests_sessions.proofs.FreeLaws.{last_free, more_free, rest_free}
use Rattle.tests_sessions.proofs.endings.with_one_more.Goals as goal

pub loop-session-preserved : goal.loop-session-preserved
loop-session-preserved c =
    let pushed = c.push_reserved.ensures.len in
    let wide = c.push_reserved.ensures.capacity in
    let popped = c.in-Some.ensures.cases in
    let room = c.loop-session.invariant.room in
    record {
      sessions = rest_free c.args.world.now c.loop-session.sessions.items c.pop.new.self.items
          c.in-Some.session c.in-Some.ensures.items c.loop-session.invariant.sessions;
      more = more_free c.args.world.now c.loop-session.more.items c.push_reserved.new.self.items
          c.in-Some.session c.push_reserved.ensures.items c.loop-session.invariant.more
          (last_free c.args.world.now c.loop-session.sessions.items c.pop.new.self.items
          c.in-Some.session c.in-Some.ensures.items c.loop-session.invariant.sessions);
      room = omega arith;
    }

pub returns : goal.returns
returns c =
    more_free c.args.world.now c.loop-session.more.items c.push_reserved-2.new.self.items
    c.args.one c.push_reserved-2.ensures.items c.loop-session.invariant.more c.requires.one
