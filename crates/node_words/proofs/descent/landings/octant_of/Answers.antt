use Rattle.std.proofs.Common.{arith}
use Rattle.node_words.proofs.OfDescent.LandLaws.{octant_place}
use Rattle.node_words.proofs.descent.landings.octant_of.Goals as goal

pub returns-clause-place : goal.returns-clause-place
returns-clause-place c =
    let half = c.half_side-half in
    octant_place c.args.level half.result c.upper-x.result c.upper-y.result c.upper-z.result c.args.c c.requires.level.0 half.ensures.half (omega (arith, half.ensures.bounds.0))
    c.upper-x.ensures.below c.upper-y.ensures.below c.upper-z.ensures.below c.upper-x.ensures.upper c.upper-y.ensures.upper c.upper-z.ensures.upper
