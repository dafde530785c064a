use Rattle.voxdag_c.proofs.OfHeld.Opening.{tinted_exactly, tinted_side, tinted_large, plain_exactly, plain_store_side, plain_large}
use Rattle.voxdag_c.proofs.held.worlds.store_of.Goals as goal

pub returns-then-tint-clause-exactly : goal.returns-then-tint-clause-exactly
returns-then-tint-clause-exactly c =
    tinted_exactly c.args.tint c.args.world c.fourfold.result c.if-tint.true c.fourfold.ensures.exactly

pub returns-then-tint-clause-side : goal.returns-then-tint-clause-side
returns-then-tint-clause-side c =
    tinted_side c.args.tint c.args.world c.fourfold.result c.if-tint.true c.fourfold.ensures.four

pub returns-then-tint-clause-large : goal.returns-then-tint-clause-large
returns-then-tint-clause-large c =
    tinted_large c.args.tint c.args.world c.fourfold.result c.if-tint.true c.fourfold.ensures.four

pub returns-clause-exactly : goal.returns-clause-exactly
returns-clause-exactly c = plain_exactly c.args.tint c.args.world c.if-tint.false

pub returns-clause-side : goal.returns-clause-side
returns-clause-side c = plain_store_side c.args.tint c.args.world c.if-tint.false

pub returns-clause-large : goal.returns-clause-large
returns-clause-large c = plain_large c.args.tint c.args.world c.if-tint.false
