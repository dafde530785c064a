use Rattle.std.proofs.Common.{◌-◌, ◌^◌, ◌∙◌, ◌++◌, List, ap}
use Rattle.std.specs.Prelude.{option_copied}
use Rattle.vox_read.specs.declared.voxels.Voxel.{Voxel}
use Rattle.node_words.specs.shapes.Tree.{shape_of}
use Rattle.node_words.specs.descent.Roots.{cells_of}
use Rattle.act_rebuilds.specs.Reading.{tinted_voxels}
use Rattle.store_run.proofs.TintFiles.{tints_inside, tints_few}
use Rattle.store_run.proofs.tint_files.tint_file.Goals as goal

pub write_model-requires-clause-inside : goal.write_model-requires-clause-inside
write_model-requires-clause-inside g c =
    let held = (g.B.Blocks.seen c.args.store.now).held in
    tints_inside held c.args.side (option_copied c.args.root) c.args.b c.as_slice.result.now
    (λ t block. c.as_slice.ensures.value ∙ c.in_ok-tints_in.ensures.voxels t block
    ∙ ap
    (λ (old : List Voxel). old ++ tinted_voxels (2 ^ (c.args.side - 2)) c.args.b
    (cells_of (c.args.side - 2) (shape_of t))) c.new-voxels.ensures.items)
    c.requires.root

pub write_model-requires-clause-few : goal.write_model-requires-clause-few
write_model-requires-clause-few g c =
    let held = (g.B.Blocks.seen c.args.store.now).held in
    tints_few held c.args.side (option_copied c.args.root) c.args.b c.as_slice.result.now
    (λ t block. c.as_slice.ensures.value ∙ c.in_ok-tints_in.ensures.voxels t block
    ∙ ap
    (λ (old : List Voxel). old ++ tinted_voxels (2 ^ (c.args.side - 2)) c.args.b
    (cells_of (c.args.side - 2) (shape_of t))) c.new-voxels.ensures.items)
    c.requires.root c.requires.small
