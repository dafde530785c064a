use Rattle.std.proofs.Common.{◌-◌, ◌∙◌, ◌++◌, List, ap}
use Rattle.std.specs.Prelude.{option_copied}
use Rattle.vox_read.specs.declared.voxels.Voxel.{Voxel}
use Rattle.node_words.specs.shapes.Tree.{shape_of}
use Rattle.node_words.specs.descent.Roots.{cells_of}
use Rattle.session.specs.Roots.{stored_voxels}
use Rattle.session.proofs.VoxelLaws.{kept_size, told_few, told_inside}
use Rattle.session.proofs.world.World.file_of_root.Goals as goal

pub write_model-requires-clause-size : goal.write_model-requires-clause-size
write_model-requires-clause-size c =
    kept_size c.args.self.now.tint c.args.self.now.table.plan.side c.args.part c.requires.part.inside
    c.requires.part.small

pub write_model-requires-clause-inside : goal.write_model-requires-clause-inside
write_model-requires-clause-inside c =
    told_inside c.args.self.now.tint c.args.s.now.view.held c.args.self.now.table.plan.side
    (option_copied c.args.root) c.args.part c.as_slice.result.now
    (λ t block. c.as_slice.ensures.value ∙ c.in_ok-cells_of_root.ensures.voxels t block
    ∙ ap (λ (old : List Voxel). old ++ stored_voxels c.args.self.now.tint
    c.args.self.now.table.plan.side c.args.part
    (cells_of (c.args.self.now.table.plan.side - 2) (shape_of t))) c.new-voxels.ensures.items)
    c.requires.root

pub write_model-requires-clause-few : goal.write_model-requires-clause-few
write_model-requires-clause-few c =
    told_few c.args.self.now.tint c.args.s.now.view.held c.args.self.now.table.plan.side
    (option_copied c.args.root) c.args.part c.as_slice.result.now
    (λ t block. c.as_slice.ensures.value ∙ c.in_ok-cells_of_root.ensures.voxels t block
    ∙ ap (λ (old : List Voxel). old ++ stored_voxels c.args.self.now.tint
    c.args.self.now.table.plan.side c.args.part
    (cells_of (c.args.self.now.table.plan.side - 2) (shape_of t))) c.new-voxels.ensures.items)
    c.requires.root c.requires.part.small
