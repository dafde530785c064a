use Rattle.std.proofs.Common.{refl, subst, Option}
use Rattle.node_words.specs.declared.shapes.names.Name.{Name}
use Rattle.node_words.specs.Gathering.{IsTreeOf}
use Rattle.node_words.proofs.GatherLaws.{tree_of-more}
use Rattle.edit_walk.proofs.OfBlocks.AsideLaws.{aside_keeps}
use Rattle.edit_walk.proofs.OfBlocks.AsideLaws.{again_came, again_none}
use Rattle.edit_walk.proofs.blocks.shares.again.Goals as goal

pub returns-in-Some-clause-came : goal.returns-in-Some-clause-came
returns-in-Some-clause-came g c rest full level t a o =
    let p = subst (λ (n : Option Name). IsTreeOf rest level t n) c.in-Some.is o in
    let h = tree_of-more rest _ level t _ (aside_keeps _ rest full a) p in
    again_came _ _ rest full level t c.in-Some.n c.keep_at.result c.keep_at.ensures.name a p
    (c.keep_at.ensures.held t (h.reached c.in-Some.n refl) h.root)

pub returns-in-None-clause-came : goal.returns-in-None-clause-came
returns-in-None-clause-came g c rest full level t a o =
    again_none _ rest full level t a
    (subst (λ (n : Option Name). IsTreeOf rest level t n) c.in-None.is o)
