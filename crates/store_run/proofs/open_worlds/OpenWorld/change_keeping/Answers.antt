use Rattle.std.proofs.Common.{rules}
use Rattle.std.specs.Prelude.{IsTrue}
use Rattle.store_run.proofs.Keeping.{other_goes, kept_makes, kept_goes}
use Rattle.store_run.proofs.open_worlds.OpenWorld.change_keeping.Goals as goal

pub returns-then-not-is_done-clause-goes_on : goal.returns-then-not-is_done-clause-goes_on
returns-then-not-is_done-clause-goes_on c =
    other_goes c.args.keep c.args.self.now c.change.new.self c.args.session c.args.line c.args.act c.in_ok-answer.answer c.change.ensures.plan c.change.ensures.models
    c.in_ok-answer.ensures.logs c.in_ok-answer.ensures.goes_on
    (λ done. (let yes : IsTrue c.is_done.result = c.is_done.ensures.1 done in search rules))

pub returns-clause-makes : goal.returns-clause-makes
returns-clause-makes c =
    kept_makes c.args.keep c.args.self.now c.change.new.self c.args.session c.args.line c.args.act c.in_ok-answer.answer c.change.ensures.plan c.change.ensures.models
    c.in_ok-answer.ensures.logs c.in_ok-answer.ensures.goes_on c.forget_fallen.new.self c.forget_fallen.ensures

pub returns-clause-goes_on : goal.returns-clause-goes_on
returns-clause-goes_on c =
    let yes : IsTrue c.is_done.result = search rules in
    kept_goes c.args.keep c.args.self.now c.change.new.self c.args.session c.args.line c.args.act c.in_ok-answer.answer c.change.ensures.plan c.change.ensures.models
    c.in_ok-answer.ensures.logs c.in_ok-answer.ensures.goes_on c.forget_fallen.new.self
    (c.is_done.ensures.0 yes) c.forget_fallen.ensures
