use Rattle.std.proofs.Common.{sym, refl, ap, subst, Some}
use Rattle.edit_walk.specs.declared.blocks.full_blocks.FullBlocks.{FullBlocks}
use Rattle.edit_walk.specs.blocks.Blocks.{Aside}
use Rattle.node_words.proofs.OfContents.FullShapes.{full_leaf}
use Rattle.edit_walk.proofs.OfBlocks.AsideLaws.{first_aside, first_grows, meets_refuses}
use Rattle.edit_walk.proofs.blocks.fulls.full_leaf.Goals as goal

pub returns-in-Ok-clause-rest : goal.returns-in-Ok-clause-rest
returns-in-Ok-clause-rest g c rest a =
    subst (λ (m : FullBlocks). Aside (g.N.Blocks.seen c.leaf.new.self).held m rest)
    (sym c.become_these.ensures)
    (first_aside _ _ rest _ c.in-Ok.share _ _ refl c.requires.none c.in-Ok.ensures.level
    (ap Some c.name.ensures) c.in-Ok.ensures.held a)

pub returns-in-Ok-clause-grows : goal.returns-in-Ok-clause-grows
returns-in-Ok-clause-grows g c = first_grows _ _ _ refl c.in-Ok.ensures.grants

pub returns-in-Err-clause-full : goal.returns-in-Err-clause-full
returns-in-Err-clause-full g c = meets_refuses _ _ _ _ _ _ (sym full_leaf) c.in-Err.ensures.full
