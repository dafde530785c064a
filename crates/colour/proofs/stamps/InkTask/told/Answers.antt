use Rattle.std.proofs.Common.{refl}
use Rattle.colour.proofs.StampBlocks.{ink_full}
use Rattle.colour.proofs.stamps.InkTask.told.Goals as goal

pub returns-in-Set-clause-set : goal.returns-in-Set-clause-set
returns-in-Set-clause-set c e =
    ink_full c.args.plane c.args.level _ c.args.self.now.stencil.now
    c.args.self.now.place.now c.args.self.now.at c.plane-drawn.result.now c.plane-drawn.ensures refl
    (c.in-Set.ensures.set refl) (c.if-holds.ensures refl)
