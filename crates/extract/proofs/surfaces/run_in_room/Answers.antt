use Rattle.std.proofs.Common.{length, sym, subst}
use Rattle.extract.specs.Layers.{HasRoom, AppendsVoxels}
use Rattle.extract.specs.BareLayers.{run_of_sides}
use Rattle.extract.specs.declared.bare_layers.BareLeaf.{BareLeaf}
use Rattle.extract.proofs.SurfaceLaws.{blank_appends, no_row}
use Rattle.extract.proofs.surfaces.run_in_room.Goals as goal

pub returns-then-is_row_blank : goal.returns-then-is_row_blank
returns-then-is_row_blank c =
    blank_appends c.args.into.now _
    (no_row _ _ c.args.n c.args.at c.args.to c.requires.any c.requires.row.x
    (c.is_row_blank.ensures c.if-is_row_blank.true))

pub cells_in_room-requires-clause-room : goal.cells_in_room-requires-clause-room
cells_in_room-requires-clause-room c =
    subst (λ (leaf : BareLeaf). HasRoom c.args.into.now
    (length (run_of_sides leaf c.args.at c.args.n c.args.to))) (sym c.leaf_of.ensures)
    c.requires.room

pub returns : goal.returns
returns c =
    subst (λ (leaf : BareLeaf). AppendsVoxels (run_of_sides leaf c.args.at c.args.n c.args.to)
    c.args.into.now c.cells_in_room.new.into) c.leaf_of.ensures c.cells_in_room.ensures
