use Rattle.std.proofs.Common.{◌∙◌}
use Rattle.voxdag_c.specs.held.Files.{TellsSide}
use Rattle.voxdag_c.proofs.OfHeld.FileAsks.{file_cells}
use Rattle.voxdag_c.proofs.held.files.CFile.put_side.Goals as goal

pub returns : goal.returns
returns c = TellsSide.told (c.cells.ensures.value
    ∙ file_cells c.args.self.now c.view.result c.side.result c.view.ensures c.side.ensures)
