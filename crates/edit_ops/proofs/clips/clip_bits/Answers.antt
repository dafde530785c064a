use Rattle.std.proofs.Common.{refl}
use Rattle.edit_ops.proofs.ClipLaws.{both_show}
use Rattle.edit_ops.proofs.clips.clip_bits.Goals as goal

pub returns-clause-bits : goal.returns-clause-bits
returns-clause-bits c =
    both_show _ c.box_bits.result c.ball_bits.result c.args.block _ _ c.box_bits.ensures.bits
    c.ball_bits.ensures.bits refl
