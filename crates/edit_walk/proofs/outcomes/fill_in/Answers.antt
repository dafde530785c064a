use Rattle.std.proofs.Common.{Option, set, Some, refl, sym, ◌∙◌, ap, subst, arith}
use Rattle.node_words.specs.declared.shapes.names.Name.{Name}
use Rattle.node_words.proofs.HeldLaws.{gains_number}
use Rattle.edit_walk.specs.Outcomes.{FillsIn}
use Rattle.edit_walk.proofs.outcomes.fill_in.Goals as goal

pub put-requires-clause-empty : goal.put-requires-clause-empty
put-requires-clause-empty g c = c.requires.empty c.in-Some.n c.in-Some.is

pub returns-in-Some-clause-filled : goal.returns-in-Some-clause-filled
returns-in-Some-clause-filled g c =
    subst (λ (m : Option Name). FillsIn m c.args.k c.args.children.now c.put.new.children
    (g.N.Blocks.seen c.args.store.now).held (g.N.Blocks.seen c.keep_at-share.new.self).held)
    (sym c.in-Some.is) (
      c.put.ensures ∙ ap (λ (m : Name). set c.args.children.now c.args.k (Some m)) c.keep_at-share.ensures.name,
      c.keep_at-share.ensures.held,
    )

pub returns-in-None-clause-filled : goal.returns-in-None-clause-filled
returns-in-None-clause-filled g c =
    subst (λ (m : Option Name). FillsIn m c.args.k c.args.children.now c.args.children.now
    (g.N.Blocks.seen c.args.store.now).held (g.N.Blocks.seen c.args.store.now).held)
    (sym c.in-None.is) (refl, refl)

pub returns-in-Some-clause-number : goal.returns-in-Some-clause-number
returns-in-Some-clause-number g c =
    let r = c.requires.reached c.in-Some.n c.in-Some.is in
    omega (
      arith,
      gains_number _ r.tree _ (c.keep_at-share.ensures.held r.tree r.reached r.root),
    )
