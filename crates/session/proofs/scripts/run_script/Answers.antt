use Rattle.std.proofs.Common.{ap, arith, rules}
use Rattle.session.specs.SessionWorlds.{SessionWorld, session_view}
use Rattle.session.proofs.DeskLaws.{desk_begins, script_holds, script_ran, script_rests, script_same}
use Rattle.session.proofs.scripts.run_script.Goals as goal

pub run_lines-requires-clause-stands : goal.run_lines-requires-clause-stands
run_lines-requires-clause-stands g c =
    let few = c.min.ensures in
    let room = c.capacity.ensures in
    let long = c.len-first.ensures in
    desk_begins c.args.world.now.table c.number-number.result c.len-first.result _ c.args.s.now
    c.args.saves.now.items _ c.requires.rest c.number-number.ensures c.requires.fresh.held
    (search rules) (omega arith) (omega arith) (omega arith)

pub returns-clause-ran : goal.returns-clause-ran
returns-clause-ran g c =
    script_ran c.args.world.now c.number-number.result c.args.script.now c.as_slice.result.now
    c.args.answers.now.items c.run_lines.new.answers.items c.args.s.now
    (session_view c.run_lines.new.responder.session.now.view) _ c.args.saves.now.items
    c.run_lines.new.responder.saves.now.items _ (search rules) (search rules) (search rules)
    c.number-number.ensures c.run_lines.ensures.ran

pub returns-clause-holds : goal.returns-clause-holds
returns-clause-holds g c =
    script_holds c.args.world.now.table c.run_lines.new.responder.world.now.table
    c.run_lines.new.responder.session.now.view _ c.len-first.result c.run_lines.new.responder.first
    c.args.saves.now.items c.run_lines.new.responder.saves.now.items _
    (ap (λ (w : SessionWorld). w.table) c.run_lines.ensures.rests.world) (search rules)
    (search rules) (search rules) c.run_lines.ensures.rests.first c.run_lines.ensures.rests.kept
    c.run_lines.ensures.stands.holds

pub returns-clause-back : goal.returns-clause-back
returns-clause-back g c =
    record {
      rest = script_rests c.args.world.now.table c.run_lines.new.responder.world.now.table
          c.run_lines.new.responder.session.now _
          (ap (λ (w : SessionWorld). w.table) c.run_lines.ensures.rests.world) (search rules)
          c.run_lines.ensures.stands.rest;
      same = script_same c.args.s.now c.run_lines.new.responder.session.now _
          (search rules) c.run_lines.ensures.rests.same;
    }
