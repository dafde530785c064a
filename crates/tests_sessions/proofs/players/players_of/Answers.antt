use Rattle.std.proofs.Common.{arith}
use Rattle.tests_sessions.specs.declared.players.Player.{Player}
use Rattle.tests_sessions.specs.Free.{IsFree}
use Rattle.tests_sessions.proofs.FreeLaws.{last_free, rest_free}
use Rattle.tests_sessions.proofs.PlayLaws.{all_more}
use Rattle.tests_sessions.proofs.players.players_of.Goals as goal

pub loop-session-preserved : goal.loop-session-preserved
loop-session-preserved c =
    let pushed = c.push_reserved.ensures.len in
    let wide = c.push_reserved.ensures.capacity in
    let popped = c.in-Some.ensures.cases in
    let room = c.loop-session.invariant.room in
    record {
      free = rest_free c.args.world.now c.loop-session.sessions.items c.pop.new.self.items
          c.in-Some.session c.in-Some.ensures.items c.loop-session.invariant.free;
      ready = all_more (λ (p : Player). IsFree p.world.now p.session)
          c.loop-session.players.items c.push_reserved.new.self.items _
          c.push_reserved.ensures.items c.loop-session.invariant.ready
          (last_free c.args.world.now c.loop-session.sessions.items c.pop.new.self.items
          c.in-Some.session c.in-Some.ensures.items c.loop-session.invariant.free);
      room = omega arith;
    }
