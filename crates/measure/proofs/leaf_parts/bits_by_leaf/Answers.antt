use Rattle.measure.proofs.LeafParts.{words_show, shows_there}
use Rattle.measure.proofs.leaf_parts.bits_by_leaf.Goals as goal

pub returns : goal.returns
returns c k lt = words_show c.args.b _ _ _ _ _ _ _ _
    (shows_there _ _ _ _ c.octant_leaf.ensures c.box_bits.ensures.bits)
    (shows_there _ _ _ _ c.octant_leaf-2.ensures c.box_bits-2.ensures.bits)
    (shows_there _ _ _ _ c.octant_leaf-3.ensures c.box_bits-3.ensures.bits)
    (shows_there _ _ _ _ c.octant_leaf-4.ensures c.box_bits-4.ensures.bits)
    (shows_there _ _ _ _ c.octant_leaf-5.ensures c.box_bits-5.ensures.bits)
    (shows_there _ _ _ _ c.octant_leaf-6.ensures c.box_bits-6.ensures.bits)
    (shows_there _ _ _ _ c.octant_leaf-7.ensures c.box_bits-7.ensures.bits)
    (shows_there _ _ _ _ c.octant_leaf-8.ensures c.box_bits-8.ensures.bits) k lt
