use Rattle.core_laws.proofs.OfContents.Multiples.{aligned_at, place_of}
use Rattle.core_laws.proofs.OfContents.WorldBlocks.{aligned_in_world}
use Rattle.core_laws.proofs.contents.laws.aligned_blocks_have_places.Goals as goal

pub returns : goal.returns
returns c = record { aligned = aligned_at; place = place_of; in_world = aligned_in_world }
