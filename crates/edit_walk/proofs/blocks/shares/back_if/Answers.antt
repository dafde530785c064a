use Rattle.std.proofs.Common.{◌∙◌}
use Rattle.node_words.proofs.GatherLaws.{back_loses, none_loses}
use Rattle.edit_walk.proofs.OfBlocks.RowLaws.{may_held, may_holds}
use Rattle.edit_walk.proofs.blocks.shares.back_if.Goals as goal

pub back-requires-clause-held : goal.back-requires-clause-held
back-requires-clause-held g c =
    let (t, r, h) = c.requires.held in may_holds _ t _ (r ∙ c.in-Some.is) h

pub returns-in-Some-clause-gone : goal.returns-in-Some-clause-gone
returns-in-Some-clause-gone g c t r h =
    back_loses _ _ t _ (r ∙ c.in-Some.is)
    (c.back.ensures.held t (may_held _ t _ (r ∙ c.in-Some.is) h) (r ∙ c.in-Some.is))

pub returns-in-None-clause-gone : goal.returns-in-None-clause-gone
returns-in-None-clause-gone g c t r h = none_loses _ t (r ∙ c.in-None.is)

pub returns-in-Some-clause-turns : goal.returns-in-Some-clause-turns
returns-in-Some-clause-turns g c t n e r h =
    c.back.ensures.turns t (may_held _ t _ (r ∙ c.in-Some.is) h) (r ∙ c.in-Some.is)
