use Rattle.std.proofs.Common.{arith, refl, ◌∙◌}
use Rattle.node_words.specs.shapes.Tree.{shape_of}
use Rattle.node_words.specs.descent.Roots.{cells_of}
use Rattle.node_words.proofs.OfDescent.LookLaws.{block_still}
use Rattle.extract.specs.Listing.{box_layer}
use Rattle.extract.proofs.ListingLaws.{none_joined, appends_run, room_run}
use Rattle.extract.proofs.boxes.box_in.Goals as goal

pub loop-z-init : goal.loop-z-init
loop-z-init g c =
    record {
      within = omega arith;
      appended =
          λ t o. none_joined _ c.args.into.now;
      same = refl;
      rests = g.met.B.Blocks.rests_itself _;
    }

pub layers_in-requires-clause-room : goal.layers_in-requires-clause-room
layers_in-requires-clause-room g c =
    let seen = g.B.Blocks.seen in
    let t = c.requires.block.tree in
    let o = c.requires.block.is_block in
    let cells = cells_of c.args.level (shape_of t) in (
      cells,
      c.gather-leaves.ensures.layer t
          (block_still (seen c.args.store.now)
          (seen c.loop-z.store) c.args.level c.args.block t c.loop-z.invariant.same o),
      room_run c.loop-z.z c.run_length-n.result c.args.b.size.z
          (box_layer cells c.args.b) c.args.into.now c.loop-z.into
          (omega (arith, c.run_length-n.ensures.within, c.loop-z-test.true))
          (c.requires.room t o) (c.loop-z.invariant.appended t o),
    )

pub loop-z-preserved : goal.loop-z-preserved
loop-z-preserved g c =
    let seen = g.B.Blocks.seen in
    record {
      within = omega (arith, c.run_length-n.ensures.within, c.loop-z-test.true);
      appended = λ t o. appends_run c.loop-z.z c.run_length-n.result
          (box_layer (cells_of c.args.level
          (shape_of t)) c.args.b) c.args.into.now c.loop-z.into c.layers_in.new.into
          (c.loop-z.invariant.appended t o)
          (c.layers_in.ensures.appended (cells_of c.args.level (shape_of t))
          (c.gather-leaves.ensures.layer t
          (block_still (seen c.args.store.now)
          (seen c.loop-z.store) c.args.level c.args.block t c.loop-z.invariant.same o)));
      same = c.gather-leaves.ensures.seen ∙ c.loop-z.invariant.same;
      rests = g.met.B.Blocks.rests_on _ _ _ c.loop-z.invariant.rests c.gather-leaves.ensures.rests;
    }
