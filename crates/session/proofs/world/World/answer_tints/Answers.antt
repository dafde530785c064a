use Rattle.std.proofs.Common.{rules}
use Rattle.std.specs.Prelude.{option_copied}
use Rattle.session.proofs.AskLaws.{tints_told}
use Rattle.session.proofs.ActLaws.{large_by, models_of, tinted_question}
use Rattle.session.proofs.world.World.answer_tints.Goals as goal

pub answer_tinted-requires-clause-large : goal.answer_tinted-requires-clause-large
answer_tinted-requires-clause-large c =
    large_by c.args.self.now.table c.args.self.now.tint _ c.side-side.result
    (models_of c.args.self.now _ _ c.self.view_is c.self.invariant) c.requires.tint
    (search rules)

pub answer_tinted-requires-clause-fits : goal.answer_tinted-requires-clause-fits
answer_tinted-requires-clause-fits c =
    tinted_question c.args.self.now.tint c.args.self.now.table.plan.side c.side-side.result
    c.args.question c.requires.tint (search rules) c.requires.fits

pub returns-clause-tells : goal.returns-clause-tells
returns-clause-tells c =
    tints_told c.hand-hand.result.session.now.view.held c.args.s.now.view.held c.side-side.result
    c.args.self.now.table.plan.side (option_copied c.args.root) c.args.question
    c.answer_tinted.result c.answer_tinted.ensures.tells (search rules) (search rules)
