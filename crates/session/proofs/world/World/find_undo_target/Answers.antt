use Rattle.std.proofs.Common.{ap, refl, rules}
use Rattle.session.proofs.GoLaws.{asked_held, asked_looks, asked_there, found_held, found_on, marked_told, nowhere_told, open_shown, way_found, way_gets, way_known, way_looks, way_made, way_open}
use Rattle.session.proofs.SurelyLaws.{room_still}
use Rattle.session.proofs.TurnLaws.{has_turn, log_same, log_stays}
use Rattle.session.specs.SessionWorlds.{SessionWorld}
use Rattle.session.proofs.world.World.find_undo_target.Goals as goal

pub log_length-at-requires : goal.log_length-at-requires
log_length-at-requires g c =
    has_turn c.args.self.now.table _ c.args.s.now _
    (ap (λ (w : SessionWorld). w.table) c.self.view_is) refl c.requires.turn

pub log_mark-requires-clause-there : goal.log_mark-requires-clause-there
log_mark-requires-clause-there g c =
    asked_there c.args.self.now c.args.act.now c.requires.other c.args.s.now c.log_length-at.new.pass
    c.target-lead.new.pass c.log_length-at.result c.target-lead.result.to c.log_length-at.ensures.same
    c.log_length-at.ensures.number c.target-lead.ensures.target c.target-lead.ensures.learns c.in-Some.to (search rules)

pub keep_version-root-requires-clause-unmarked : goal.keep_version-root-requires-clause-unmarked
keep_version-root-requires-clause-unmarked g c =
    open_shown c.args.self.now c.args.act.now c.requires.other c.args.s.now c.log_length-at.new.pass
    c.target-lead.new.pass c.log_length-at.result c.target-lead.result.to c.log_length-at.ensures.same
    c.log_length-at.ensures.number c.target-lead.ensures.target c.target-lead.ensures.learns
    c.in-Some.to c.in-Some.is c.log_mark.new.pass c.log_mark.result c.log_mark.ensures.looks
    c.in-None-log_mark.is

pub keep_version-root-requires-clause-room : goal.keep_version-root-requires-clause-room
keep_version-root-requires-clause-room g c =
    room_still _ _
    (found_held c.args.self.now c.args.act.now c.requires.other c.args.s.now c.log_length-at.new.pass
    c.target-lead.new.pass c.log_length-at.result c.target-lead.result.to c.log_length-at.ensures.same
    c.log_length-at.ensures.number c.target-lead.ensures.target c.target-lead.ensures.learns
    c.in-Some.to c.in-Some.is c.log_mark.new.pass c.log_mark.result c.log_mark.ensures.looks)
    c.requires.room

pub returns-in-None-clause-looks : goal.returns-in-None-clause-looks
returns-in-None-clause-looks g c =
    record {
      turn = log_stays c.args.self.now.table _ c.args.s.now c.target-lead.new.pass
          (ap (λ (w : SessionWorld). w.table) c.self.view_is)
          c.requires.turn c.target-lead.ensures.turn
          (asked_looks c.args.self.now c.args.act.now c.requires.other c.args.s.now c.log_length-at.new.pass
          c.target-lead.new.pass c.log_length-at.result c.target-lead.result.to c.log_length-at.ensures.same
          c.log_length-at.ensures.number c.target-lead.ensures.target c.target-lead.ensures.learns);
      same = log_same c.args.self.now.table _ c.args.s.now c.target-lead.new.pass
          (ap (λ (w : SessionWorld). w.table) c.self.view_is)
          c.requires.turn c.target-lead.ensures.turn.of
          (asked_looks c.args.self.now c.args.act.now c.requires.other c.args.s.now c.log_length-at.new.pass
          c.target-lead.new.pass c.log_length-at.result c.target-lead.result.to c.log_length-at.ensures.same
          c.log_length-at.ensures.number c.target-lead.ensures.target c.target-lead.ensures.learns).session;
      looks = asked_looks c.args.self.now c.args.act.now c.requires.other c.args.s.now c.log_length-at.new.pass
          c.target-lead.new.pass c.log_length-at.result c.target-lead.result.to c.log_length-at.ensures.same
          c.log_length-at.ensures.number c.target-lead.ensures.target c.target-lead.ensures.learns;
    }

pub returns-in-None-clause-came : goal.returns-in-None-clause-came
returns-in-None-clause-came g c =
    record {
      kept = asked_held c.args.self.now c.args.act.now c.requires.other c.args.s.now c.log_length-at.new.pass
          c.target-lead.new.pass c.log_length-at.result c.target-lead.result.to c.log_length-at.ensures.same
          c.log_length-at.ensures.number c.target-lead.ensures.target c.target-lead.ensures.learns;
      told = nowhere_told c.args.self.now c.args.act.now c.requires.other c.args.s.now c.log_length-at.new.pass
          c.target-lead.new.pass c.log_length-at.result c.target-lead.result.to c.log_length-at.ensures.same
          c.log_length-at.ensures.number c.target-lead.ensures.target c.target-lead.ensures.learns
          c.nothing_to.result c.in-None.is c.nothing_to.ensures;
    }

pub returns-in-Some-log_mark-clause-looks : goal.returns-in-Some-log_mark-clause-looks
returns-in-Some-log_mark-clause-looks g c =
    record {
      turn = log_stays c.args.self.now.table _ c.args.s.now c.log_mark.new.pass
          (ap (λ (w : SessionWorld). w.table) c.self.view_is)
          c.requires.turn c.log_mark.ensures.turn
          (found_on c.args.self.now c.args.act.now c.requires.other c.args.s.now c.log_length-at.new.pass
          c.target-lead.new.pass c.log_length-at.result c.target-lead.result.to c.log_length-at.ensures.same
          c.log_length-at.ensures.number c.target-lead.ensures.target c.target-lead.ensures.learns
          c.in-Some.to c.in-Some.is c.log_mark.new.pass c.log_mark.result c.log_mark.ensures.looks);
      same = log_same c.args.self.now.table _ c.args.s.now c.log_mark.new.pass
          (ap (λ (w : SessionWorld). w.table) c.self.view_is)
          c.requires.turn c.log_mark.ensures.turn.of
          (found_on c.args.self.now c.args.act.now c.requires.other c.args.s.now c.log_length-at.new.pass
          c.target-lead.new.pass c.log_length-at.result c.target-lead.result.to c.log_length-at.ensures.same
          c.log_length-at.ensures.number c.target-lead.ensures.target c.target-lead.ensures.learns
          c.in-Some.to c.in-Some.is c.log_mark.new.pass c.log_mark.result c.log_mark.ensures.looks).session;
      looks = found_on c.args.self.now c.args.act.now c.requires.other c.args.s.now c.log_length-at.new.pass
          c.target-lead.new.pass c.log_length-at.result c.target-lead.result.to c.log_length-at.ensures.same
          c.log_length-at.ensures.number c.target-lead.ensures.target c.target-lead.ensures.learns
          c.in-Some.to c.in-Some.is c.log_mark.new.pass c.log_mark.result c.log_mark.ensures.looks;
    }

pub returns-in-Some-log_mark-clause-came : goal.returns-in-Some-log_mark-clause-came
returns-in-Some-log_mark-clause-came g c =
    record {
      kept = found_held c.args.self.now c.args.act.now c.requires.other c.args.s.now c.log_length-at.new.pass
          c.target-lead.new.pass c.log_length-at.result c.target-lead.result.to c.log_length-at.ensures.same
          c.log_length-at.ensures.number c.target-lead.ensures.target c.target-lead.ensures.learns
          c.in-Some.to c.in-Some.is c.log_mark.new.pass c.log_mark.result c.log_mark.ensures.looks;
      told = marked_told c.args.self.now c.args.act.now c.requires.other c.args.s.now c.log_length-at.new.pass
          c.target-lead.new.pass c.log_length-at.result c.target-lead.result.to c.log_length-at.ensures.same
          c.log_length-at.ensures.number c.target-lead.ensures.target c.target-lead.ensures.learns
          c.in-Some.to c.in-Some.is c.log_mark.new.pass c.log_mark.result c.log_mark.ensures.looks
          c.in-Some-log_mark.mark c.in-Some-log_mark.is;
    }

pub returns-in-None-log_mark-clause-looks : goal.returns-in-None-log_mark-clause-looks
returns-in-None-log_mark-clause-looks g c =
    record {
      turn = log_stays c.args.self.now.table _ c.args.s.now c.keep_version-root.new.pass
          (ap (λ (w : SessionWorld). w.table) c.self.view_is)
          c.requires.turn c.keep_version-root.ensures.turn
          (way_looks c.args.self.now c.args.act.now c.requires.other c.args.s.now c.log_length-at.new.pass
          c.target-lead.new.pass c.log_length-at.result c.target-lead.result.to c.log_length-at.ensures.same
          c.log_length-at.ensures.number c.target-lead.ensures.target c.target-lead.ensures.learns
          c.in-Some.to c.in-Some.is c.log_mark.new.pass c.log_mark.result c.log_mark.ensures.looks
          c.in-None-log_mark.is c.keep_version-root.new.pass c.keep_version-root.ensures.only);
      same = log_same c.args.self.now.table _ c.args.s.now c.keep_version-root.new.pass
          (ap (λ (w : SessionWorld). w.table) c.self.view_is)
          c.requires.turn c.keep_version-root.ensures.turn.of
          (way_looks c.args.self.now c.args.act.now c.requires.other c.args.s.now c.log_length-at.new.pass
          c.target-lead.new.pass c.log_length-at.result c.target-lead.result.to c.log_length-at.ensures.same
          c.log_length-at.ensures.number c.target-lead.ensures.target c.target-lead.ensures.learns
          c.in-Some.to c.in-Some.is c.log_mark.new.pass c.log_mark.result c.log_mark.ensures.looks
          c.in-None-log_mark.is c.keep_version-root.new.pass c.keep_version-root.ensures.only).session;
      looks = way_looks c.args.self.now c.args.act.now c.requires.other c.args.s.now c.log_length-at.new.pass
          c.target-lead.new.pass c.log_length-at.result c.target-lead.result.to c.log_length-at.ensures.same
          c.log_length-at.ensures.number c.target-lead.ensures.target c.target-lead.ensures.learns
          c.in-Some.to c.in-Some.is c.log_mark.new.pass c.log_mark.result c.log_mark.ensures.looks
          c.in-None-log_mark.is c.keep_version-root.new.pass c.keep_version-root.ensures.only;
    }

pub returns-in-None-log_mark-clause-came : goal.returns-in-None-log_mark-clause-came
returns-in-None-log_mark-clause-came g c =
    record {
      gains = way_gets c.args.self.now c.args.act.now c.requires.other c.args.s.now c.log_length-at.new.pass
          c.target-lead.new.pass c.log_length-at.result c.target-lead.result.to c.log_length-at.ensures.same
          c.log_length-at.ensures.number c.target-lead.ensures.target c.target-lead.ensures.learns
          c.in-Some.to c.in-Some.is c.log_mark.new.pass c.log_mark.result c.log_mark.ensures.looks
          c.in-None-log_mark.is c.keep_version-root.new.pass c.keep_version-root.ensures.only
          _ c.keep_version-root.ensures.gains;
      target = way_open c.args.self.now c.args.act.now c.requires.other c.args.s.now c.log_length-at.new.pass
          c.target-lead.new.pass c.log_length-at.result c.target-lead.result.to c.log_length-at.ensures.same
          c.log_length-at.ensures.number c.target-lead.ensures.target c.target-lead.ensures.learns
          c.in-Some.to c.in-Some.is c.log_mark.new.pass c.log_mark.result c.log_mark.ensures.looks
          c.in-None-log_mark.is c.keep_version-root.new.pass c.keep_version-root.ensures.only;
      known = way_known c.args.self.now c.args.act.now c.requires.other c.args.s.now c.log_length-at.new.pass
          c.target-lead.new.pass c.log_length-at.result c.target-lead.result.to c.log_length-at.ensures.same
          c.log_length-at.ensures.number c.target-lead.ensures.target c.target-lead.ensures.learns
          c.in-Some.to c.in-Some.is c.log_mark.new.pass c.log_mark.result c.log_mark.ensures.looks
          c.in-None-log_mark.is c.keep_version-root.new.pass c.keep_version-root.ensures.only
          _ c.target-lead.ensures.known;
      made = way_made c.args.self.now c.args.act.now c.requires.other c.args.s.now c.log_length-at.new.pass
          c.target-lead.new.pass c.log_length-at.result c.target-lead.result.to c.log_length-at.ensures.same
          c.log_length-at.ensures.number c.target-lead.ensures.target c.target-lead.ensures.learns
          c.in-Some.to c.in-Some.is c.log_mark.new.pass c.log_mark.result c.log_mark.ensures.looks
          c.in-None-log_mark.is c.keep_version-root.new.pass c.keep_version-root.ensures.only
          _ c.keep_version-root.ensures.root;
      found = way_found c.args.self.now c.args.act.now c.requires.other c.args.s.now c.log_length-at.new.pass
          c.target-lead.new.pass c.log_length-at.result c.target-lead.result.to c.log_length-at.ensures.same
          c.log_length-at.ensures.number c.target-lead.ensures.target c.target-lead.ensures.learns
          c.in-Some.to c.in-Some.is c.log_mark.new.pass c.log_mark.result c.log_mark.ensures.looks
          c.in-None-log_mark.is c.keep_version-root.new.pass c.keep_version-root.ensures.only;
    }
