use Rattle.std.proofs.Common.{◌+◌, ◌-◌, ◌^◌, ◌∙◌, ℕ, get_or, inr, refl, sym, ap, subst, arith}
use Rattle.vox_read.specs.declared.voxels.Voxel.{Voxel}
use Rattle.node_words.specs.shapes.Tree.{shape_of}
use Rattle.node_words.specs.descent.Roots.{cells_of}
use Rattle.extract.proofs.LeafLaws.{small_box}
use Rattle.colour.specs.Layers.{IsRead}
use Rattle.colour.specs.Reading.{tint_of_voxel}
use Rattle.colour.proofs.ReadLaws.{block_as}
use Rattle.colour.proofs.VoxelLaws.{no_voxel, place_inside, voxel_tint, more_tints}
use Rattle.colour.proofs.voxels.read_tints.Goals as goal

pub turn_to-requires-clause-z : goal.turn_to-requires-clause-z
turn_to-requires-clause-z g c =
    (place_inside c.args.b.size c.args.voxels.now c.loop-i.i
    (get_or c.args.voxels.now c.loop-i.i no_voxel) no_voxel c.place_of-c.result c.requires.voxels
    c.loop-i-test.true refl c.place_of-c.ensures).2

pub turn_to-requires-clause-rows : goal.turn_to-requires-clause-rows
turn_to-requires-clause-rows g c t block =
    c.loop-i.invariant.rows t (block_as _ _ _ _ t (sym c.loop-i.invariant.same) block)

pub tint_of-tint-requires-clause-b : goal.tint_of-tint-requires-clause-b
tint_of-tint-requires-clause-b g c =
    small_box (c.args.side - 2) c.args.b (omega arith) c.requires.inside c.requires.small.0
    c.requires.small.1 c.requires.small.2

pub tint_of-tint-requires-clause-c : goal.tint_of-tint-requires-clause-c
tint_of-tint-requires-clause-c g c =
    place_inside c.args.b.size c.args.voxels.now c.loop-i.i
    (get_or c.args.voxels.now c.loop-i.i no_voxel) no_voxel c.place_of-c.result c.requires.voxels
    c.loop-i-test.true refl c.place_of-c.ensures

pub loop-i-preserved : goal.loop-i-preserved
loop-i-preserved g c =
    let v : Voxel = get_or c.args.voxels.now c.loop-i.i no_voxel in
    record {
      items = λ t block.
          let read = c.turn_to.ensures.rows t (block_as _ _ _ _ t c.loop-i.invariant.same block) in
          more_tints (tint_of_voxel (2 ^ (c.args.side - 2))
          (cells_of (c.args.side - 2) (shape_of t)) c.args.b.at) c.args.voxels.now c.loop-i.i v
          no_voxel c.loop-i.tints.items c.push_reserved.new.self.items c.tint_of-tint.result
          c.loop-i-test.true refl (c.loop-i.invariant.items t block)
          (voxel_tint c.args.side t c.args.b v c.place_of-c.result c.tint_of-tint.result
          c.requires.large c.requires.inside c.place_of-c.ensures
          (place_inside c.args.b.size c.args.voxels.now c.loop-i.i v no_voxel c.place_of-c.result
          c.requires.voxels c.loop-i-test.true refl c.place_of-c.ensures)
          (c.tint_of-tint.ensures c.args.side t read)) c.push_reserved.ensures.items;
      rows = λ t block.
          subst (λ (l : ℕ). IsRead l c.turn_to.new.rows c.args.b c.args.side t)
          (sym c.turn_to.ensures.layer)
          (inr (c.turn_to.ensures.rows t (block_as _ _ _ _ t c.loop-i.invariant.same block)));
      long = c.push_reserved.ensures.len ∙ ap (λ (n : ℕ). n + 1) c.loop-i.invariant.long;
      room = c.push_reserved.ensures.capacity ∙ c.loop-i.invariant.room;
      same = c.turn_to.ensures.seen ∙ c.loop-i.invariant.same;
      rests = g.met.B.Blocks.rests_on _ _ _ c.loop-i.invariant.rests c.turn_to.ensures.rests;
    }
