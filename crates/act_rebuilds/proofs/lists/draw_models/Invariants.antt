use Rattle.std.proofs.Common.{◌≡◌, take}
use Rattle.act_rebuilds.specs.Drawn.{HaveTints}
use Rattle.act_rebuilds.proofs.lists.draw_models.Given as goal

abbrev pub invariant-loop-model : goal.invariant-loop-model
invariant-loop-model l = record {
  kind : l.drawn.tint ≡ l.fn.tint;
  drawn : l.drawn.models ≡ take l.model-index l.models;
  tints : HaveTints l.fn.tint (take l.model-index l.models);
}
