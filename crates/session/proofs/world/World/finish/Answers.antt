use Rattle.std.proofs.Common.{ap, refl, subst, sym}
use Rattle.session.proofs.KeepLaws.{commits_kept}
use Rattle.session.proofs.TurnLaws.{added_rests, added_same, has_turn, left_seen, log_rests, log_same}
use Rattle.node_table.specs.TableStates.{TableState}
use Rattle.version_log.specs.Coming.{MayFinish}
use Rattle.session.specs.SessionWorlds.{SessionWorld}
use Rattle.session.proofs.world.World.finish.Goals as goal

pub finish-requires-clause-turn : goal.finish-requires-clause-turn
finish-requires-clause-turn c =
    has_turn c.args.self.now.table _ c.args.s.now _
    (ap (λ (w : SessionWorld). w.table) c.self.view_is) refl c.requires.turn

pub finish-requires-clause-may : goal.finish-requires-clause-may
finish-requires-clause-may c =
    subst (λ (t : TableState). MayFinish t c.args.s.now.view c.args.ahead c.args.act.now c.args.root)
    (sym (ap (λ (w : SessionWorld). w.table) c.self.view_is)) c.requires.may

pub returns-in-Ok-clause-came : goal.returns-in-Ok-clause-came
returns-in-Ok-clause-came c =
    commits_kept _ c.args.self.now.keep c.args.s.now.view c.finish.new.pass.view c.args.line
    c.args.act.now _ c.in-Ok.committed (ap (λ (w : SessionWorld). w.keep) c.self.view_is)
    c.in-Ok.ensures.came

pub returns-in-Ok-clause-back : goal.returns-in-Ok-clause-back
returns-in-Ok-clause-back c =
    record {
      rest = added_rests c.args.self.now.table _ c.args.s.now c.finish.new.pass _ c.args.line
          c.args.act.now _ c.in-Ok.committed (ap (λ (w : SessionWorld). w.table) c.self.view_is)
          c.requires.turn c.in-Ok.ensures.free.of c.in-Ok.ensures.free.idle c.in-Ok.ensures.came;
      same = added_same c.args.self.now.table _ c.args.s.now c.finish.new.pass _ c.args.line
          c.args.act.now _ c.in-Ok.committed (ap (λ (w : SessionWorld). w.table) c.self.view_is)
          c.requires.turn c.in-Ok.ensures.free.of c.in-Ok.ensures.came;
    }

pub returns-in-Err-clause-back : goal.returns-in-Err-clause-back
returns-in-Err-clause-back c =
    record {
      rest = log_rests c.args.self.now.table _ c.args.s.now c.finish.new.pass
          (ap (λ (w : SessionWorld). w.table) c.self.view_is) c.requires.turn
          c.in-Err.ensures.free.of c.in-Err.ensures.free.idle c.in-Err.ensures.came.looks.sees;
      same = log_same c.args.self.now.table _ c.args.s.now c.finish.new.pass
          (ap (λ (w : SessionWorld). w.table) c.self.view_is) c.requires.turn
          c.in-Err.ensures.free.of c.in-Err.ensures.came.looks.session;
    }

pub returns-in-Err-clause-came : goal.returns-in-Err-clause-came
returns-in-Err-clause-came c =
    record {
      refused = c.in-Err.ensures.came.refused;
      seen = left_seen c.args.s.now.view c.finish.new.pass.view c.in-Err.ensures.came.left;
      kept = c.in-Err.ensures.came.kept;
    }
