use Rattle.std.proofs.Common.{ap, refl}
use Rattle.session.proofs.TurnLaws.{has_turn, leave_at, leave_held, leave_rests, leave_same, leave_seen}
use Rattle.session.specs.SessionWorlds.{SessionWorld}
use Rattle.session.proofs.world.World.leave.Goals as goal

pub log_length-at-requires : goal.log_length-at-requires
log_length-at-requires c =
    has_turn c.args.self.now.table _ c.args.s.now _
    (ap (λ (w : SessionWorld). w.table) c.self.view_is) refl c.requires.turn

pub returns-clause-seen : goal.returns-clause-seen
returns-clause-seen c =
    leave_seen c.args.self.now.table c.args.self.now.table c.args.s.now c.log_length-at.new.pass
    c.leave_log.new.pass refl c.log_length-at.ensures.same c.requires.turn c.leave_log.ensures.view

pub returns-clause-held : goal.returns-clause-held
returns-clause-held c =
    leave_held c.args.self.now.table c.args.self.now.table c.args.s.now c.log_length-at.new.pass
    c.leave_log.new.pass refl c.log_length-at.ensures.same c.requires.turn c.leave_log.ensures.view

pub returns-clause-at : goal.returns-clause-at
returns-clause-at c =
    leave_at c.args.self.now.table c.args.self.now.table c.args.s.now c.log_length-at.new.pass
    c.leave_log.new.pass refl c.log_length-at.ensures.same c.requires.turn c.leave_log.ensures.view
    c.log_length-at.result c.log_length-at.ensures.number

pub returns-clause-back : goal.returns-clause-back
returns-clause-back c =
    record {
      rest = leave_rests c.args.self.now.table _ c.args.s.now c.log_length-at.new.pass c.leave_log.new.pass
          (ap (λ (w : SessionWorld). w.table) c.self.view_is) c.log_length-at.ensures.same c.requires.turn c.leave_log.ensures.view c.leave_log.ensures.of;
      same = leave_same c.args.self.now.table _ c.args.s.now c.log_length-at.new.pass c.leave_log.new.pass
          (ap (λ (w : SessionWorld). w.table) c.self.view_is) c.log_length-at.ensures.same c.requires.turn c.leave_log.ensures.view c.leave_log.ensures.of;
    }
