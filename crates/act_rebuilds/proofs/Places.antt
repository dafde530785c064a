-- Places of models that were drawn by their tints have tints.
use Rattle.std.proofs.Common.{ℕ, ◌<◌, ◌^◌, subst}
use Rattle.node_words.proofs.OfContents.LeafBits.{bits_below-small}
use Rattle.vox_read.specs.Contents.{Content}
use Rattle.edit_stamp.specs.Drawings.{drawn_cells}
use Rattle.colour.specs.Inks.{DrawsTints, Inked, bit_drawn}
use Rattle.colour.specs.Planes.{TintsPlaces}

pub drawn_places : (model : Content) (inked : Inked) → DrawsTints model inked → TintsPlaces model
drawn_places model inked d q below =
    subst (λ (n : ℕ). n < 2 ^ 8) (d.each q below)
    (bits_below-small (λ b. drawn_cells (bit_drawn inked.bits b) q) 8)
