use Rattle.std.proofs.Common.{true}
use Rattle.script.specs.declared.commands.Command.TheVariants.{Edit}
use Rattle.store_run.proofs.Opening.{room_same, changed_plan, changed_models, changed_goes, changed_logs, changed_makes}
use Rattle.store_run.proofs.open_worlds.OpenWorld.change.Goals as goal

pub returns-clause-plan : goal.returns-clause-plan
returns-clause-plan c =
    changed_plan c.reserve.new.self c.change_over-answer.new.versions c.args.self.now
    (room_same c.self.inside.versions c.reserve.new.self c.args.self.now c.self.view_is c.in_ok-reserve.ensures.same c.in_ok-reserve.ensures.log c.in_ok-reserve.ensures.store)
    c.args.session
    (record { line = c.args.line; command = Edit c.args.act true }) c.change_over-answer.result
    (c.change_over-answer.ensures.goes_on true)

pub returns-clause-models : goal.returns-clause-models
returns-clause-models c =
    changed_models c.reserve.new.self c.change_over-answer.new.versions c.args.self.now
    (room_same c.self.inside.versions c.reserve.new.self c.args.self.now c.self.view_is c.in_ok-reserve.ensures.same c.in_ok-reserve.ensures.log c.in_ok-reserve.ensures.store)
    c.args.session
    (record { line = c.args.line; command = Edit c.args.act true }) c.change_over-answer.result
    (c.change_over-answer.ensures.goes_on true)

pub returns-clause-goes_on : goal.returns-clause-goes_on
returns-clause-goes_on c = λ once.
    changed_goes c.reserve.new.self c.change_over-answer.new.versions c.args.self.now
    (room_same c.self.inside.versions c.reserve.new.self c.args.self.now c.self.view_is c.in_ok-reserve.ensures.same c.in_ok-reserve.ensures.log c.in_ok-reserve.ensures.store)
    c.args.session
    (record { line = c.args.line; command = Edit c.args.act once }) c.change_over-answer.result
    (c.change_over-answer.ensures.goes_on once)

pub returns-clause-logs : goal.returns-clause-logs
returns-clause-logs c =
    changed_logs c.reserve.new.self c.change_over-answer.new.versions c.args.self.now
    (room_same c.self.inside.versions c.reserve.new.self c.args.self.now c.self.view_is c.in_ok-reserve.ensures.same c.in_ok-reserve.ensures.log c.in_ok-reserve.ensures.store)
    (record { session = c.args.session; line = c.args.line; act = c.args.act }) c.change_over-answer.result c.change_over-answer.ensures.logs

pub returns-clause-makes : goal.returns-clause-makes
returns-clause-makes c =
    changed_makes c.reserve.new.self c.change_over-answer.new.versions c.args.self.now
    (room_same c.self.inside.versions c.reserve.new.self c.args.self.now c.self.view_is c.in_ok-reserve.ensures.same c.in_ok-reserve.ensures.log c.in_ok-reserve.ensures.store)
    (record { session = c.args.session; line = c.args.line; act = c.args.act }) c.change_over-answer.result c.change_over-answer.ensures.logs
