use Rattle.std.proofs.Common.{◌-◌, ◌∙◌, ◌++◌, List, ap}
use Rattle.std.specs.Prelude.{option_copied}
use Rattle.vox_read.specs.declared.voxels.Voxel.{Voxel}
use Rattle.node_words.specs.shapes.Tree.{shape_of}
use Rattle.node_words.specs.descent.Roots.{cells_of}
use Rattle.extract.specs.Listing.{voxels_of_box}
use Rattle.extract.proofs.SavedLaws.{told_inside, told_few}
use Rattle.extract.proofs.files.box_file.Goals as goal

pub write_model-requires-clause-inside : goal.write_model-requires-clause-inside
write_model-requires-clause-inside g c =
    let held = (g.B.Blocks.seen c.args.store.now).held in
    told_inside held c.args.side (option_copied c.args.root) c.args.b c.as_slice.result.now
    (λ t block. c.as_slice.ensures.value ∙ c.in_ok-cells_in.ensures.voxels t block
    ∙ ap
    (λ (old : List Voxel). old ++ voxels_of_box c.args.b
    (cells_of (c.args.side - 2) (shape_of t))) c.new-voxels.ensures.items)
    c.requires.root

pub write_model-requires-clause-few : goal.write_model-requires-clause-few
write_model-requires-clause-few g c =
    let held = (g.B.Blocks.seen c.args.store.now).held in
    told_few held c.args.side (option_copied c.args.root) c.args.b c.as_slice.result.now
    (λ t block. c.as_slice.ensures.value ∙ c.in_ok-cells_in.ensures.voxels t block
    ∙ ap
    (λ (old : List Voxel). old ++ voxels_of_box c.args.b
    (cells_of (c.args.side - 2) (shape_of t))) c.new-voxels.ensures.items)
    c.requires.root c.requires.small
