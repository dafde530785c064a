use Rattle.std.proofs.Common.{ap, refl}
use Rattle.session.proofs.TurnLaws.{has_turn, head_gets, head_holds, head_log, head_looks, head_open, head_room, log_same}
use Rattle.session.specs.SessionWorlds.{SessionWorld}
use Rattle.session.proofs.world.World.keep_head.Goals as goal

pub log_length-at-requires : goal.log_length-at-requires
log_length-at-requires g c =
    has_turn c.args.self.now.table _ c.args.s.now _
    (ap (λ (w : SessionWorld). w.table) c.self.view_is) refl c.requires.turn

pub keep_version-requires-clause-unmarked : goal.keep_version-requires-clause-unmarked
keep_version-requires-clause-unmarked g c =
    head_open c.args.s.now c.log_length-at.new.pass c.log_mark-mark.new.pass
    c.log_length-at.result c.log_mark-mark.result c.log_length-at.ensures.same c.log_length-at.ensures.number
    c.log_mark-mark.ensures.looks

pub keep_version-requires-clause-room : goal.keep_version-requires-clause-room
keep_version-requires-clause-room g c =
    head_room c.args.s.now c.log_length-at.new.pass c.log_mark-mark.new.pass
    c.log_length-at.result c.log_mark-mark.result c.log_length-at.ensures.same c.log_length-at.ensures.number
    c.log_mark-mark.ensures.looks c.requires.room

pub returns-clause-root : goal.returns-clause-root
returns-clause-root g c =
    head_holds c.args.s.now c.log_length-at.new.pass c.log_mark-mark.new.pass
    c.log_length-at.result c.log_mark-mark.result c.log_length-at.ensures.same c.log_length-at.ensures.number
    c.log_mark-mark.ensures.looks c.keep_version.new.pass c.keep_version.ensures.only _ c.keep_version.ensures.root

pub returns-clause-gains : goal.returns-clause-gains
returns-clause-gains g c =
    head_gets c.args.s.now c.log_length-at.new.pass c.log_mark-mark.new.pass
    c.log_length-at.result c.log_mark-mark.result c.log_length-at.ensures.same c.log_length-at.ensures.number
    c.log_mark-mark.ensures.looks c.keep_version.new.pass c.keep_version.ensures.only _ c.keep_version.ensures.gains

pub returns-clause-looks : goal.returns-clause-looks
returns-clause-looks g c =
    record {
      turn = head_log c.args.s.now c.log_length-at.new.pass c.log_mark-mark.new.pass
          c.log_length-at.result c.log_mark-mark.result c.log_length-at.ensures.same c.log_length-at.ensures.number
          c.log_mark-mark.ensures.looks c.keep_version.new.pass c.keep_version.ensures.only c.args.self.now.table _ (ap (λ (w : SessionWorld). w.table) c.self.view_is)
          c.requires.turn c.keep_version.ensures.turn;
      same = log_same c.args.self.now.table _ c.args.s.now c.keep_version.new.pass
          (ap (λ (w : SessionWorld). w.table) c.self.view_is)
          c.requires.turn c.keep_version.ensures.turn.of
          (head_looks c.args.s.now c.log_length-at.new.pass c.log_mark-mark.new.pass
          c.log_length-at.result c.log_mark-mark.result c.log_length-at.ensures.same c.log_length-at.ensures.number
          c.log_mark-mark.ensures.looks c.keep_version.new.pass c.keep_version.ensures.only).session;
      looks = head_looks c.args.s.now c.log_length-at.new.pass c.log_mark-mark.new.pass
          c.log_length-at.result c.log_mark-mark.result c.log_length-at.ensures.same c.log_length-at.ensures.number
          c.log_mark-mark.ensures.looks c.keep_version.new.pass c.keep_version.ensures.only;
    }
