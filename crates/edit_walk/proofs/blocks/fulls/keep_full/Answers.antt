use Rattle.edit_walk.proofs.OfBlocks.AsideLaws.{first_held, first_there, full_reaches, keep_came}
use Rattle.edit_walk.proofs.blocks.fulls.keep_full.Goals as goal

pub keep_at-requires-clause-reached : goal.keep_at-requires-clause-reached
keep_at-requires-clause-reached g c =
    let (rest, a) = c.requires.aside in
    let (n, e, l) = c.requires.reaches in
    let f = first_held _ rest _ n c.args.level c.in-Some.n e l a c.in-Some.is in
    full_reaches _ _ _ f.block

pub unreachable-requires : goal.unreachable-requires
unreachable-requires g c =
    let (rest, a) = c.requires.aside in
    let (n, e, l) = c.requires.reaches in
    first_there _ rest _ n c.args.level e l a c.in-None.is

pub returns-clause-came : goal.returns-clause-came
returns-clause-came g c rest a =
    let (n, e, l) = c.requires.reaches in
    let f = first_held _ rest _ n c.args.level c.in-Some.n e l a c.in-Some.is in
    keep_came _ _ rest _ c.args.level _ c.in-Some.n c.keep_at.result a f.block f.falls
    c.keep_at.ensures.name (c.keep_at.ensures.held _ f.block.reached f.block.root)
