use Rattle.std.proofs.Common.{◌≡◌, ◌++◌}
use Rattle.std.specs.Prelude.{All}
use Rattle.std.specs.Vec.Iter.{into_iter_items, into_iter_len}
use Rattle.vox_read.specs.Contents.{IsModel}
use Rattle.act_rebuilds.specs.Drawn.{HaveTints}
use Rattle.act_rebuilds.proofs.lists.own_models.Given as goal

abbrev pub invariant-loop-model : goal.invariant-loop-model
invariant-loop-model l = record {
  kind : l.own.tint ≡ l.fn.tint;
  models : All IsModel (into_iter_items l.rest);
  owned : l.own.models ++ into_iter_items l.rest ≡ l.fn.models;
  tints : HaveTints l.fn.tint l.own.models;
}

abbrev pub decreases-loop-model : goal.decreases-loop-model
decreases-loop-model l = into_iter_len l.rest
