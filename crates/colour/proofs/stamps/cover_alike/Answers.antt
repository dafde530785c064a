use Rattle.std.proofs.Common.{refl}
use Rattle.colour.proofs.StampBlocks.{ink_agrees}
use Rattle.colour.proofs.stamps.cover_alike.Goals as goal

pub returns : goal.returns
returns c e =
    ink_agrees c.args.plane c.args.other c.args.a.now.level _ c.args.a.now.stencil.now
    c.args.b.now.stencil.now c.args.a.now.place.now c.args.a.now.at c.plane-mine.result.now
    c.plane-theirs.result.now c.plane-mine.ensures c.plane-theirs.ensures refl (c.agrees.ensures e)
