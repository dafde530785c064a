use Rattle.std.proofs.Common.{arith}
use Rattle.measure.proofs.LeafParts.{counted_within, none_within}
use Rattle.measure.proofs.leaf_parts.count_within.Goals as goal

pub returns-then-within-eq0-clause-number : goal.returns-then-within-eq0-clause-number
returns-then-within-eq0-clause-number g c =
    none_within g.S.Subject.counts
    (g.B.Blocks.seen c.args.store.now).held c.args.of.now c.args.octant c.args.within c.requires.level (omega (arith, c.if-within-eq0.true)) c.requires.within

pub returns-clause-number : goal.returns-clause-number
returns-clause-number g c =
    counted_within g.S.Subject.counts (g.B.Blocks.seen c.args.store.now)
    (g.B.Blocks.seen c.octant-subject.new.store) c.args.of.now c.args.octant c.from.result c.leaf-bits.result c.args.within c.octant-subject.result
    c.requires.level c.octant-subject.ensures.seen
    (omega (arith, c.leaf-bits.type_inv)) c.octant-subject.ensures.octant c.leaf-bits.ensures.bits c.requires.within c.from.ensures
