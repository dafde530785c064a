use Rattle.std.proofs.Common.{refl}
use Rattle.edit_ops.proofs.BoxLaws.{beq-same}
use Rattle.edit_ops.proofs.boxes.same_tasks.Goals as goal

pub returns : goal.returns
returns c e =
    (c.if-not-same_names.ensures.0 refl, c.if-not-same_boxes.ensures.0 refl, beq-same _ _ e)
