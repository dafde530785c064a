use Rattle.std.proofs.Common.{refl, ap, arith, ◌∙◌}
use Rattle.vox_read.specs.Contents.{Content}
use Rattle.vox_read.proofs.Marking.{marks_none, marks_step, counted_step, room_left}
use Rattle.vox_read.proofs.counting.mark_cells.Goals as goal

pub loop-voxel-init : goal.loop-voxel-init
loop-voxel-init c =
    marks_none _ _ (omega (arith, c.in_ok-bits.ensures.length)) c.in_ok-bits.ensures.clear

pub moved-cells-requires-clause-counted : goal.moved-cells-requires-clause-counted
moved-cells-requires-clause-counted c =
    counted_step _ c.args.model.now.size c.args.model.now.voxels c.deref-voxel-items.result.now c.loop-voxel.voxel-index c.index.result c.loop-voxel.bits _ _ (record { x = 0; y = 0; z = 0; colour = 0 })
    (ap (λ (m : Content). m.size) c.model.view_is)
    (c.deref-voxel-items.ensures.value
    ∙ ap (λ (m : Content). m.voxels) c.model.view_is) c.loop-voxel-test.true c.requires.voxels
    c.loop-voxel.invariant c.index.ensures c.put-was.ensures.was

pub moved-cells-requires-clause-room : goal.moved-cells-requires-clause-room
moved-cells-requires-clause-room c =
    room_left _ c.args.model.now.size _ c.loop-voxel.bits _
    (ap (λ (m : Content). m.size) c.model.view_is) c.requires.size c.loop-voxel.invariant

pub loop-voxel-preserved : goal.loop-voxel-preserved
loop-voxel-preserved c =
    marks_step _ c.args.model.now.size c.args.model.now.voxels c.deref-voxel-items.result.now c.loop-voxel.voxel-index c.index.result c.loop-voxel.bits _ _ _ _ _ (record { x = 0; y = 0; z = 0; colour = 0 })
    (ap (λ (m : Content). m.size) c.model.view_is)
    (c.deref-voxel-items.ensures.value
    ∙ ap (λ (m : Content). m.voxels) c.model.view_is) c.loop-voxel-test.true c.requires.voxels
    c.loop-voxel.invariant c.index.ensures c.put-was.ensures.was c.put-was.ensures.here c.put-was.ensures.elsewhere c.put-was.ensures.length refl c.moved-cells.ensures
