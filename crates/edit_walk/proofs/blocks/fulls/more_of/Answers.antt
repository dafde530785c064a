use Rattle.std.proofs.Common.{◌∙◌}
use Rattle.node_words.proofs.HeldLaws.{gains_number}
use Rattle.edit_walk.proofs.OfBlocks.AsideLaws.{more_came, full_held, full_holds}
use Rattle.edit_walk.proofs.blocks.fulls.more_of.Goals as goal

pub more-requires-clause-held : goal.more-requires-clause-held
more-requires-clause-held g c =
    let (rest, a) = c.requires.aside in full_holds _ rest _ _ c.in-Some.is a

pub returns-clause-came : goal.returns-clause-came
returns-clause-came g c rest n e a =
    more_came _ _ rest _ n c.in-Some.share c.more.result e c.in-Some.is c.more.ensures.name a
    (c.more.ensures.held a.tree (full_held _ rest _ _ c.in-Some.is a) (a.root ∙ c.in-Some.is))

pub returns-clause-number : goal.returns-clause-number
returns-clause-number g c =
    let (rest, a) = c.requires.aside in
    gains_number _ _ _
    (c.more.ensures.held a.tree (full_held _ rest _ _ c.in-Some.is a) (a.root ∙ c.in-Some.is))
