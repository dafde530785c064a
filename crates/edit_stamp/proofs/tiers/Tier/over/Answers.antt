use Rattle.std.proofs.Common.{arith}
use Rattle.edit_stamp.proofs.TierLaws.{over_more, over_all}
use Rattle.edit_stamp.proofs.tiers.Tier.over.Goals as goal

pub loop-n-preserved : goal.loop-n-preserved
loop-n-preserved c =
    over_more (record { size = c.args.size; words = c.args.words.now }) c.half_of-half.result c.place_of-at.result c.loop-n.over.items c.loop-n.n c.word_over-word.result c.place_of-at.ensures.number c.place_of-at.ensures.below
    (omega (arith, c.loop-n.invariant.long, c.leaf_count-number.ensures.value, c.loop-n-test.true)) c.loop-n.invariant c.word_over-word.ensures

pub returns : goal.returns
returns c =
    over_all (record { size = c.args.size; words = c.args.words.now }) c.half_of-half.result c.loop-n.over.items c.loop-n.n c.half_of-half.ensures.value (omega (arith, c.loop-n-test.false, c.loop-n.auto.n-end, c.leaf_count-number.ensures.value)) c.loop-n.invariant
