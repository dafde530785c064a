use Rattle.std.proofs.Common.{◌≡◌, ◌≤◌, length, ap, refl, ◌∙◌}
use Rattle.vox_read.specs.Contents.{Content}
use Rattle.vox_read.specs.declared.voxels.Voxel.{Voxel}
use Rattle.vox_read.proofs.Gathering.{collects_none, bit_inside, collects_step, all_collected}
use Rattle.vox_read.proofs.collecting.cells.Goals.{then-put+in_ok-push, else-put}
use Rattle.vox_read.proofs.collecting.cells.Goals as goal

abbrev none : Voxel
none = record { x = 0; y = 0; z = 0; colour = 0 }

pub loop-voxel-init : goal.loop-voxel-init
loop-voxel-init c =
    rw c.in_ok-cells.ensures.items
    (collects_none _ c.args.model.now.voxels c.in_ok-marked.marked.bits c.in_ok-marked.marked.cells (rw (ap (λ (m : Content). m.size) c.model.view_is) c.in_ok-marked.ensures))

pub put-requires : goal.put-requires
put-requires c =
    bit_inside _ c.args.model.now.size c.args.model.now.voxels c.deref-voxel-items.result.now c.loop-voxel.voxel-index c.index.result c.loop-voxel.marked.bits none (ap (λ (m : Content). m.size) c.model.view_is)
    (c.deref-voxel-items.ensures.value
    ∙ ap (λ (m : Content). m.voxels) c.model.view_is) c.loop-voxel-test.true c.requires.voxels c.loop-voxel.invariant.room c.index.ensures

pub loop-voxel-preserved : goal.loop-voxel-preserved
loop-voxel-preserved c =
    let step =
    collects_step _ c.args.model.now.size c.args.model.now.voxels c.deref-voxel-items.result.now c.loop-voxel.voxel-index c.index.result c.loop-voxel.marked.bits c.put.new.self c.loop-voxel.cells.items c.if-put.cells.items c.put.result none (ap (λ (m : Content). m.size) c.model.view_is)
    (c.deref-voxel-items.ensures.value
    ∙ ap (λ (m : Content). m.voxels) c.model.view_is) c.loop-voxel-test.true c.requires.voxels c.loop-voxel.invariant c.index.ensures c.put.ensures.was c.put.ensures.here c.put.ensures.elsewhere c.put.ensures.length in
    elim c.if-put.branch [
      | then-put+in_ok-push w ↦ step (rw (w.cells-is, w.if-put.true) w.in_ok-push.ensures.items)
      | else-put w ↦ step (rw (w.cells-is, w.if-put.false) refl)
    ]

pub returns : goal.returns
returns c =
    let listed : c.deref-voxel-items.result.now ≡ c.args.model.now.voxels =
    c.deref-voxel-items.ensures.value ∙ ap (λ (m : Content). m.voxels) c.model.view_is in
    let past : length c.args.model.now.voxels ≤ c.loop-voxel.voxel-index =
    rw (← listed) c.loop-voxel-test.false in
    all_collected c.args.model.now _ c.loop-voxel.voxel-index c.loop-voxel.marked.bits c.loop-voxel.cells.items (ap (λ (m : Content). m.size) c.model.view_is) past c.loop-voxel.invariant
