use Rattle.std.proofs.Common.{arith, refl, sym, ◌∙◌}
use Rattle.vw_cell.specs.Places.{block_side}
use Rattle.node_words.specs.shapes.Tree.{shape_of}
use Rattle.node_words.specs.descent.Roots.{cells_of}
use Rattle.node_words.proofs.OfDescent.LookLaws.{block_still}
use Rattle.extract.specs.Surface.{bare_sides_of, layer_of_sides}
use Rattle.extract.proofs.NearLaws.{found_before}
use Rattle.extract.proofs.SurfaceLaws.{slab_more, slab_none}
use Rattle.extract.proofs.surfaces.slabs_in.Goals as goal

pub loop-z-init : goal.loop-z-init
loop-z-init g c =
    record {
      within = omega arith;
      appended = λ t o. slab_none _ _;
      right = c.new-found.ensures _;
      block = c.requires.block;
      same = refl;
      rests = g.met.B.Blocks.rests_itself _;
    }

pub loop-z-preserved : goal.loop-z-preserved
loop-z-preserved g c =
    let seen = g.B.Blocks.seen in
    let was = c.loop-z.invariant in
    record {
      within = omega (arith, c.run_length-n.ensures.within, c.loop-z-test.true);
      appended = λ t o. slab_more c.loop-z.z c.run_length-n.result
          (layer_of_sides (bare_sides_of (block_side c.args.level)
          (cells_of c.args.level (shape_of t))) c.args.b) _ _ _ (was.appended t o)
          (c.slab_in.ensures.voxels c.if-not-slab_in.false t
          (block_still (seen c.args.store.now)
          (seen c.loop-z.store) c.args.level c.args.block t was.same o));
      right = found_before (seen c.slab_in.new.store) (seen c.loop-z.store) _
          (sym c.slab_in.ensures.seen) c.slab_in.ensures.found;
      block = c.slab_in.ensures.block;
      same = c.slab_in.ensures.seen ∙ was.same;
      rests = g.met.B.Blocks.rests_on _ _ _ was.rests c.slab_in.ensures.rests;
    }
