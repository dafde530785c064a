use Rattle.std.proofs.Common.{arith}
use Rattle.flood.proofs.SpreadLaws.{grows_itself, grows_on, grows_more, step_both, is_spread}
use Rattle.flood.proofs.spreading.spread.Goals as goal

pub loop-word-init : goal.loop-word-init
loop-word-init c = grows_itself c.args.clear c.args.seeds

pub loop-word-preserved : goal.loop-word-preserved
loop-word-preserved c =
    grows_on _ _ _ _ c.loop-word.invariant
    (grows_on _ _ _ _ (step_both c.args.clear c.loop-word.word (omega arith))
    (grows_on _ _ _ _ c.climb.ensures c.sink-word.ensures))

pub loop-word-smaller : goal.loop-word-smaller
loop-word-smaller c =
    let up = grows_more _ _ c.if-next-word.false in
    let climbed = c.climb.ensures.more in
    let sunk = c.sink-word.ensures.more in
    omega (arith, up, climbed, sunk)

pub returns-then-next-word : goal.returns-then-next-word
returns-then-next-word c = is_spread _ _ _ c.loop-word.invariant c.if-next-word.true
