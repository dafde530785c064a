use Rattle.std.proofs.Common.{◌∙◌}
use Rattle.act_rebuilds.proofs.ListLaws.{first_model, other_models, owned_more, owned_tinted}
use Rattle.act_rebuilds.proofs.lists.own_models.Goals as goal

pub add-requires : goal.add-requires
add-requires c =
    first_model c.in-Some.model _ _ c.in-Some.ensures.items c.loop-model.invariant.models

pub loop-model-preserved : goal.loop-model-preserved
loop-model-preserved c = record {
  kind = c.add.ensures.tint ∙ c.loop-model.invariant.kind;
  models = other_models c.in-Some.model _ _ c.in-Some.ensures.items c.loop-model.invariant.models;
  owned = owned_more c.loop-model.own.models c.add.new.self.models _ _ _ c.in-Some.model
      c.in_ok-add.ensures.models c.in-Some.ensures.items c.loop-model.invariant.owned;
  tints = owned_tinted c.args.tint c.loop-model.own.tint c.loop-model.own.models _ c.in-Some.model
      c.in_ok-add.ensures.models c.loop-model.invariant.tints c.loop-model.invariant.kind
      c.in_ok-add.ensures.tints;
}
