use Rattle.std.proofs.Common.{◌∙◌}
use Rattle.vw_cell.specs.declared.directions.Direction.TheVariants.{LowX, HighX, LowY, HighY, LowZ, HighZ}
use Rattle.extract.proofs.NearLaws.{bits_still}
use Rattle.extract.proofs.SideLaws.{beside_still, block_of_sides}
use Rattle.extract.proofs.near_leaves.NearLeaves.of.Goals as goal

pub octant_bits-block-requires : goal.octant_bits-block-requires
octant_bits-block-requires g c = record {
  block =
      block_of_sides (g.B.Blocks.seen c.args.store.now).held 1 c.args.subject.now
      c.requires.block;
}

pub bits_beside-low_x-requires-clause-bits : goal.bits_beside-low_x-requires-clause-bits
bits_beside-low_x-requires-clause-bits g c =
    bits_still (g.B.Blocks.seen c.args.store.now) (g.B.Blocks.seen c.octant_bits-block.new.store)
    c.args.subject.now.block _ (c.octant_bits-block.ensures.seen)
    c.octant_bits-block.ensures.leaves

pub bits_beside-low_x-requires-clause-beside : goal.bits_beside-low_x-requires-clause-beside
bits_beside-low_x-requires-clause-beside g c =
    beside_still (g.B.Blocks.seen c.args.store.now) (g.B.Blocks.seen c.octant_bits-block.new.store)
    1 c.args.subject.now LowX (c.octant_bits-block.ensures.seen)
    c.requires.block

pub bits_beside-high_x-requires-clause-bits : goal.bits_beside-high_x-requires-clause-bits
bits_beside-high_x-requires-clause-bits g c =
    bits_still (g.B.Blocks.seen c.args.store.now) (g.B.Blocks.seen c.bits_beside-low_x.new.store)
    c.args.subject.now.block _ (c.bits_beside-low_x.ensures.seen ∙ c.octant_bits-block.ensures.seen)
    c.octant_bits-block.ensures.leaves

pub bits_beside-high_x-requires-clause-beside : goal.bits_beside-high_x-requires-clause-beside
bits_beside-high_x-requires-clause-beside g c =
    beside_still (g.B.Blocks.seen c.args.store.now) (g.B.Blocks.seen c.bits_beside-low_x.new.store)
    1 c.args.subject.now HighX (c.bits_beside-low_x.ensures.seen ∙ c.octant_bits-block.ensures.seen)
    c.requires.block

pub bits_beside-low_y-requires-clause-bits : goal.bits_beside-low_y-requires-clause-bits
bits_beside-low_y-requires-clause-bits g c =
    bits_still (g.B.Blocks.seen c.args.store.now) (g.B.Blocks.seen c.bits_beside-high_x.new.store)
    c.args.subject.now.block _ (c.bits_beside-high_x.ensures.seen ∙ c.bits_beside-low_x.ensures.seen ∙ c.octant_bits-block.ensures.seen)
    c.octant_bits-block.ensures.leaves

pub bits_beside-low_y-requires-clause-beside : goal.bits_beside-low_y-requires-clause-beside
bits_beside-low_y-requires-clause-beside g c =
    beside_still (g.B.Blocks.seen c.args.store.now) (g.B.Blocks.seen c.bits_beside-high_x.new.store)
    1 c.args.subject.now LowY (c.bits_beside-high_x.ensures.seen ∙ c.bits_beside-low_x.ensures.seen ∙ c.octant_bits-block.ensures.seen)
    c.requires.block

pub bits_beside-high_y-requires-clause-bits : goal.bits_beside-high_y-requires-clause-bits
bits_beside-high_y-requires-clause-bits g c =
    bits_still (g.B.Blocks.seen c.args.store.now) (g.B.Blocks.seen c.bits_beside-low_y.new.store)
    c.args.subject.now.block _ (c.bits_beside-low_y.ensures.seen ∙ c.bits_beside-high_x.ensures.seen ∙ c.bits_beside-low_x.ensures.seen ∙ c.octant_bits-block.ensures.seen)
    c.octant_bits-block.ensures.leaves

pub bits_beside-high_y-requires-clause-beside : goal.bits_beside-high_y-requires-clause-beside
bits_beside-high_y-requires-clause-beside g c =
    beside_still (g.B.Blocks.seen c.args.store.now) (g.B.Blocks.seen c.bits_beside-low_y.new.store)
    1 c.args.subject.now HighY (c.bits_beside-low_y.ensures.seen ∙ c.bits_beside-high_x.ensures.seen ∙ c.bits_beside-low_x.ensures.seen ∙ c.octant_bits-block.ensures.seen)
    c.requires.block

pub bits_beside-low_z-requires-clause-bits : goal.bits_beside-low_z-requires-clause-bits
bits_beside-low_z-requires-clause-bits g c =
    bits_still (g.B.Blocks.seen c.args.store.now) (g.B.Blocks.seen c.bits_beside-high_y.new.store)
    c.args.subject.now.block _ (c.bits_beside-high_y.ensures.seen ∙ c.bits_beside-low_y.ensures.seen ∙ c.bits_beside-high_x.ensures.seen ∙ c.bits_beside-low_x.ensures.seen ∙ c.octant_bits-block.ensures.seen)
    c.octant_bits-block.ensures.leaves

pub bits_beside-low_z-requires-clause-beside : goal.bits_beside-low_z-requires-clause-beside
bits_beside-low_z-requires-clause-beside g c =
    beside_still (g.B.Blocks.seen c.args.store.now) (g.B.Blocks.seen c.bits_beside-high_y.new.store)
    1 c.args.subject.now LowZ (c.bits_beside-high_y.ensures.seen ∙ c.bits_beside-low_y.ensures.seen ∙ c.bits_beside-high_x.ensures.seen ∙ c.bits_beside-low_x.ensures.seen ∙ c.octant_bits-block.ensures.seen)
    c.requires.block

pub bits_beside-high_z-requires-clause-bits : goal.bits_beside-high_z-requires-clause-bits
bits_beside-high_z-requires-clause-bits g c =
    bits_still (g.B.Blocks.seen c.args.store.now) (g.B.Blocks.seen c.bits_beside-low_z.new.store)
    c.args.subject.now.block _ (c.bits_beside-low_z.ensures.seen ∙ c.bits_beside-high_y.ensures.seen ∙ c.bits_beside-low_y.ensures.seen ∙ c.bits_beside-high_x.ensures.seen ∙ c.bits_beside-low_x.ensures.seen ∙ c.octant_bits-block.ensures.seen)
    c.octant_bits-block.ensures.leaves

pub bits_beside-high_z-requires-clause-beside : goal.bits_beside-high_z-requires-clause-beside
bits_beside-high_z-requires-clause-beside g c =
    beside_still (g.B.Blocks.seen c.args.store.now) (g.B.Blocks.seen c.bits_beside-low_z.new.store)
    1 c.args.subject.now HighZ (c.bits_beside-low_z.ensures.seen ∙ c.bits_beside-high_y.ensures.seen ∙ c.bits_beside-low_y.ensures.seen ∙ c.bits_beside-high_x.ensures.seen ∙ c.bits_beside-low_x.ensures.seen ∙ c.octant_bits-block.ensures.seen)
    c.requires.block

pub returns-clause-rests : goal.returns-clause-rests
returns-clause-rests g c =
    g.met.B.Blocks.rests_on _ _ _ (g.met.B.Blocks.rests_on _ _ _ (g.met.B.Blocks.rests_on _ _ _ (g.met.B.Blocks.rests_on _ _ _ (g.met.B.Blocks.rests_on _ _ _ (g.met.B.Blocks.rests_on _ _ _ c.octant_bits-block.ensures.rests c.bits_beside-low_x.ensures.rests) c.bits_beside-high_x.ensures.rests) c.bits_beside-low_y.ensures.rests) c.bits_beside-high_y.ensures.rests) c.bits_beside-low_z.ensures.rests) c.bits_beside-high_z.ensures.rests
