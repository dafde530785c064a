use Rattle.std.proofs.Common.{ap}
use Rattle.version_log.proofs.LookLaws.{takes_looks}
use Rattle.session.proofs.AttemptLaws.{same_looked}
use Rattle.session.proofs.TurnLaws.{log_came, taken_held}
use Rattle.session.specs.SessionWorlds.{SessionWorld}
use Rattle.session.proofs.world.World.take.Goals as goal

pub returns-clause-held : goal.returns-clause-held
returns-clause-held g c =
    taken_held _ _ c.take_log.ensures.takes

pub returns-clause-looks : goal.returns-clause-looks
returns-clause-looks g c =
    record {
      turn = log_came c.args.self.now.table _ c.args.s.now c.take_log.new.pass
          (ap (λ (w : SessionWorld). w.table) c.self.view_is) c.requires.rest
          c.take_log.ensures.turn (takes_looks _ _ c.take_log.ensures.takes);
      same = same_looked c.args.self.now.table _ c.args.s.now c.take_log.new.pass
          (ap (λ (w : SessionWorld). w.table) c.self.view_is) c.requires.rest
          c.take_log.ensures.turn.of (takes_looks _ _ c.take_log.ensures.takes);
      looks = takes_looks _ _ c.take_log.ensures.takes;
    }
