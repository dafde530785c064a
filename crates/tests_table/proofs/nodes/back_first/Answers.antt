use Rattle.std.proofs.Common.{◌∙◌, sym}
use Rattle.tests_table.proofs.Overs.{may_is}
use Rattle.tests_table.proofs.nodes.back_first.Goals as goal

pub returns-in-Some-clause-gone : goal.returns-in-Some-clause-gone
returns-in-Some-clause-gone g c = λ t n e root may.
    (let r = root ∙ sym e ∙ sym c.take_at-first.ensures.taken ∙ c.in-Some.is in
    c.back.ensures.held t (may_is c.args.pass.now.view.held t c.in-Some.share may r) r)
