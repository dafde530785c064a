use Rattle.std.proofs.Common.{◌∙◌, ap}
use Rattle.node_table.specs.TableStates.{PassState}
use Rattle.tests_table.proofs.Giving.{few_held}
use Rattle.tests_table.proofs.worlds.counted_over.Goals as goal

pub counted-number-requires-clause-room : goal.counted-number-requires-clause-room
counted-number-requires-clause-room g c =
    few_held _ (ap (λ (s : PassState). s.view.held) c.new-hand.ensures.session
    ∙ c.requires.spare.held)
