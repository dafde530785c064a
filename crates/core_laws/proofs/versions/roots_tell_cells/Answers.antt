use Rattle.core_laws.proofs.RootCells.{same_cells, same_root, no_root_no_cell, no_cell_no_root}
use Rattle.core_laws.proofs.versions.roots_tell_cells.Goals as goal

pub returns : goal.returns
returns c = record {
  same_cells =
      λ p models state v w low s of_v of_w same. same_cells p models state low s v w of_v of_w same;
  same_root =
      λ p models state v w low s of_v of_w same. same_root p models state low s v w of_v of_w same;
  no_cell =
      λ p models state v q low s kept none inside.
      no_root_no_cell p models state low s v kept none q inside;
  no_root = λ p models state v low s kept clear. no_cell_no_root p models state low s v kept clear;
}
