use Rattle.std.proofs.Common.{rules}
use Rattle.session.proofs.ActLaws.{large_by, models_of, tinted_box}
use Rattle.session.proofs.world.World.tints_of_root.Goals as goal

pub tints_in-requires-clause-large : goal.tints_in-requires-clause-large
tints_in-requires-clause-large c =
    large_by c.args.self.now.table c.args.self.now.tint _ c.side-side.result
    (models_of c.args.self.now _ _ c.self.view_is c.self.invariant) c.requires.tint
    (search rules)

pub tints_in-requires-clause-inside : goal.tints_in-requires-clause-inside
tints_in-requires-clause-inside c =
    tinted_box c.args.self.now.tint c.args.self.now.table.plan.side c.side-side.result c.args.part
    c.requires.tint (search rules)
    (large_by c.args.self.now.table c.args.self.now.tint _ c.side-side.result
    (models_of c.args.self.now _ _ c.self.view_is c.self.invariant) c.requires.tint
    (search rules)) c.requires.part.inside
