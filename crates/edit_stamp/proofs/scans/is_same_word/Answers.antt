use Rattle.std.proofs.Common.{refl}
use Rattle.std.proofs.lemmas.Bool.{eqb-true}
use Rattle.edit_stamp.proofs.StampLaws.{masked_word}
use Rattle.edit_stamp.proofs.scans.is_same_word.Goals as goal

pub returns : goal.returns
returns c e =
    masked_word c.args.inside c.args.leaf.x c.args.leaf.y c.args.leaf.z c.args.left c.args.right
    c.box_bits-seen.result _ refl refl refl c.box_bits-seen.ensures.bits (eqb-true _ _ e)
