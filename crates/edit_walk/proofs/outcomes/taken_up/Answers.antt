use Rattle.std.proofs.Common.{sym, subst}
use Rattle.edit_walk.specs.declared.outcomes.WalkedBlock.{WalkedBlock}
use Rattle.edit_walk.specs.Outcomes.{FoundBeside, TakesUp}
use Rattle.edit_walk.proofs.OutcomeLaws.{found_there, takes_made, takes_standing}
use Rattle.edit_walk.proofs.outcomes.taken_up.Goals as goal

pub again-requires-clause-reached : goal.again-requires-clause-reached
again-requires-clause-reached g c =
    let (rest, full, level, target, a) = c.requires.found in
    found_there rest _ full level target c.in-Stands.name
    (subst (λ (b : WalkedBlock). FoundBeside rest level target b
    (g.N.Blocks.seen c.args.store.now).held full) c.in-Stands.is a)

pub returns-in-Stands-clause-took : goal.returns-in-Stands-clause-took
returns-in-Stands-clause-took g c =
    subst (λ (b : WalkedBlock). TakesUp b c.again.result (g.N.Blocks.seen c.args.store.now)
    (g.N.Blocks.seen c.again.new.store)) (sym c.in-Stands.is)
    (takes_standing c.in-Stands.name c.again.result (g.N.Blocks.seen c.args.store.now)
    (g.N.Blocks.seen c.again.new.store) c.again.ensures.came)

pub returns-in-Made-clause-took : goal.returns-in-Made-clause-took
returns-in-Made-clause-took g c =
    subst (λ (b : WalkedBlock). TakesUp b c.in-Made.share (g.N.Blocks.seen c.args.store.now)
    (g.N.Blocks.seen c.args.store.now)) (sym c.in-Made.is)
    (takes_made c.in-Made.share (g.N.Blocks.seen c.args.store.now))
