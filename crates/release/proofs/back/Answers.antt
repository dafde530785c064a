use Rattle.release.proofs.ReturnLaws.{gave_gains, gave_within}
use Rattle.release.proofs.back.Goals as goal

pub returns-clause-held : goal.returns-clause-held
returns-clause-held g c = λ t held root.
    gave_gains c.args.pass.now.view c.release.new.pass.view t c.args.share c.args.steps.now
    c.release.new.steps root (c.release.ensures.back t held root)

pub returns-clause-turns : goal.returns-clause-turns
returns-clause-turns g c = λ t held root.
    gave_within c.args.pass.now.view c.release.new.pass.view t c.args.share c.args.steps.now
    c.release.new.steps root (c.release.ensures.back t held root)
