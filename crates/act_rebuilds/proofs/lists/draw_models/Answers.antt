use Rattle.std.proofs.Common.{rules, ◌≡◌, ◌<◌, ◌∙◌, length, slice_index_or}
use Rattle.vox_read.specs.Contents.{Content}
use Rattle.act_rebuilds.proofs.ListLaws.{none_tinted, taken_more, taken_tinted}
use Rattle.act_rebuilds.proofs.lists.draw_models.Goals as goal

pub loop-model-init : goal.loop-model-init
loop-model-init c = record {
  kind = c.none-drawn.ensures.tint;
  drawn = c.none-drawn.ensures.models;
  tints = none_tinted c.args.tint;
}

pub loop-model-preserved : goal.loop-model-preserved
loop-model-preserved c =
    let x : Content = c.model-item.result in
    let lt : c.loop-model.model-index < length c.args.models.now = search rules in
    let read : x ≡ slice_index_or c.args.models.now c.loop-model.model-index x = search rules in
    record {
      kind = c.add.ensures.tint ∙ c.loop-model.invariant.kind;
      drawn = taken_more c.args.models.now c.loop-model.model-index x lt read
          c.loop-model.drawn.models c.add.new.self.models c.loop-model.invariant.drawn
          c.in_ok-add.ensures.models;
      tints = taken_tinted c.args.models.now c.loop-model.model-index x lt read c.args.tint
          c.loop-model.drawn.tint c.loop-model.invariant.tints c.loop-model.invariant.kind
          c.in_ok-add.ensures.tints;
    }
