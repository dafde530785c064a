use Rattle.std.proofs.Common.{arith, rules}
use Rattle.retain.proofs.Merging.{pass_goes_on, pass_gives}
use Rattle.retain.proofs.passes.all_marks.Goals as goal

pub loop-index-preserved : goal.loop-index-preserved
loop-index-preserved c =
    record {
      so_far = pass_goes_on c.args.keep c.loop-index.index c.args.records.now _ c.loop-index.marks.items c.loop-index.left.now _ _ _
          c.loop-index-test.true c.loop-index.invariant.so_far c.add_fallen-left.ensures.items c.add_fallen-left.ensures.left;
      few = omega arith;
      room = search rules;
    }

pub returns : goal.returns
returns c =
    pass_gives c.args.keep c.loop-index.index c.args.records.now c.args.forgot.now c.loop-index.marks.items c.loop-index.left.now _
    c.loop-index-test.false c.requires.rising c.loop-index.invariant.so_far c.in_ok-extend_from_slice.ensures.items
