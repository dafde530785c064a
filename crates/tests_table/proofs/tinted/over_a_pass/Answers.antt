use Rattle.std.proofs.Common.{◌∙◌, ap}
use Rattle.node_table.specs.TableStates.{PassState}
use Rattle.tests_table.proofs.Giving.{few_held}
use Rattle.tests_table.proofs.tinted.over_a_pass.Goals as goal

pub tint_after_both-tint-requires-clause-room : goal.tint_after_both-tint-requires-clause-room
tint_after_both-tint-requires-clause-room g c =
    few_held _ (ap (λ (s : PassState). s.view.held) c.new-hand.ensures.session
    ∙ c.requires.spare.held)
