use Rattle.history_model.specs.Tints.{ink_of}
use Rattle.history_model.proofs.PartLaws.{fixed_by, read_by}
use Rattle.history_model.proofs.parts.part.Goals as goal

pub returns-in-Fixed : goal.returns-in-Fixed
returns-in-Fixed c =
    fixed_by c.args.n
    (ink_of c.args.models.now c.args.act.now) c.args.act.now c.args.k c.args.q c.plane_at-corner.result c.from_corner.result c.plane_of-plane.result c.has.result
    c.plane_of-plane.ensures.value c.plane_at-corner.ensures.value c.from_corner.ensures c.has.ensures.value c.if-not-has.false c.in-Fixed.set c.in-Fixed.ensures.made

pub returns-in-Read : goal.returns-in-Read
returns-in-Read c =
    read_by c.args.n
    (ink_of c.args.models.now c.args.act.now) c.args.act.now c.args.k c.args.q c.plane_at-corner.result c.from_corner.result c.plane_of-plane.result c.has.result
    c.plane_of-plane.ensures.value c.plane_at-corner.ensures.value c.from_corner.ensures c.has.ensures.value c.if-not-has.false c.in-Read.p c.plus.result c.plus.ensures c.in-Read.ensures.made
