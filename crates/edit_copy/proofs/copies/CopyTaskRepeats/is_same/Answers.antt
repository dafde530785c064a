use Rattle.std.proofs.Common.{refl}
use Rattle.edit_copy.proofs.CopyLaws.{copy_same}
use Rattle.edit_copy.proofs.copies.CopyTaskRepeats.is_same.Goals as goal

pub returns : goal.returns
returns c e base level p q m n =
    copy_same base level _ _ p q (c.if-not-same_names.ensures.0 refl) (c.same_sources.ensures e)
    (c.if-not-same_cells.ensures.0 refl) (c.if-not-same_boxes.ensures.0 refl) m n
