use Rattle.std.proofs.Common.{◌∙◌, ap, sym, subst, Some}
use Rattle.node_words.specs.Held.{IsReached}
use Rattle.node_words.proofs.HeldLaws.{held_reached}
use Rattle.tests_core.proofs.stores.under.read_under.Goals as goal

pub returns-clause-bits : goal.returns-clause-bits
returns-clause-bits g c t h e =
    let s = ap (λ b. (g.N.Blocks.seen b).held) (sym c.of-under.ensures.store.1) in
    let r =
    subst (λ held. IsReached held t) s
    (held_reached (g.N.Blocks.seen c.args.store.now).held t h) in
    c.bits.ensures.bits t r (e ∙ ap Some (sym c.of-under.ensures.name))
