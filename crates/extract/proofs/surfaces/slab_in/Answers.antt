use Rattle.std.proofs.Common.{arith}
use Rattle.vw_cell.specs.Places.{block_side}
use Rattle.node_words.specs.shapes.Tree.{shape_of}
use Rattle.node_words.specs.descent.Roots.{cells_of}
use Rattle.extract.specs.Layers.{HasRoom}
use Rattle.extract.specs.Surface.{bare_sides_of}
use Rattle.extract.proofs.SurfaceLaws.{layers_bound, where_done}
use Rattle.extract.proofs.surfaces.slab_in.Goals as goal

pub layers_in_room-requires-clause-room : goal.layers_in_room-requires-clause-room
layers_in_room-requires-clause-room g c =
    let t = c.requires.block.tree in
    let o = c.requires.block.is_block in
    let side = block_side c.args.level in
    let cells = cells_of c.args.level (shape_of t) in
    let most = layers_bound (bare_sides_of side cells) c.args.b c.args.z c.args.n in
    let room =
    where_done c.reserve.result c.is_err.result (HasRoom c.reserve.new.self c.most_cells-most.result) c.is_err.ensures.value c.if-is_err.false c.reserve.ensures.ok in (
      side,
      cells,
      c.gather_slab.ensures.layer t o,
      omega (arith, most, c.most_cells-most.ensures, room),
    )
