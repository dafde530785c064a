use Rattle.std.proofs.Common.{◌<◌, ◌∙◌, arith, length, refl, sym}
use Rattle.std.proofs.lemmas.List.{length-set}
use Rattle.voxdag_c.proofs.OfHeld.Seen.{none_shown, one_shown, all_shown, listed_tint}
use Rattle.voxdag_c.proofs.held.shown.copy_tinted.Goals as goal

pub loop-i-init : goal.loop-i-init
loop-i-init c = record {
  long = refl;
  puts = λ f e. none_shown f c.args.voxels.now c.args.out.now;
}

pub loop-i-preserved : goal.loop-i-preserved
loop-i-preserved c =
    let inside = c.loop-i-test.true in
    record {
      long = length-set c.loop-i.out c.loop-i.i c.of.result ∙ c.loop-i.invariant.long;
      puts = λ f e.
          one_shown f c.args.voxels.now c.args.out.now c.loop-i.out c.loop-i.i _ c.of.result inside
          c.requires.room (c.loop-i.invariant.puts f e)
          (c.of.ensures ∙ listed_tint f c.args.voxels.now c.args.tints.now c.loop-i.i _ _ inside e);
    }

pub returns-clause-puts : goal.returns-clause-puts
returns-clause-puts c f e =
    c.loop-i.invariant.puts f e
    ∙ all_shown f c.args.voxels.now c.args.out.now c.loop-i.i
    (omega (arith, c.loop-i.auto.i-end, c.loop-i-test.false))
