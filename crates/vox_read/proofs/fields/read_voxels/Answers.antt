use Rattle.std.proofs.Common.{refl, sym, ◌∙◌, arith}
use Rattle.vox_read.proofs.Grouping.{read_more, more_outside, read_all}
use Rattle.vox_read.proofs.fields.read_voxels.Goals as goal

pub returns-then-not-is_voxel_in-clause-refused : goal.returns-then-not-is_voxel_in-clause-refused
returns-then-not-is_voxel_in-clause-refused c =
    (refl, more_outside c.args.size c.loop-rest.voxels.items c.loop-rest.rest.now c.split_at.result.0.now c.split_at.result.1.now c.args.bytes.now c.voxel_of-voxel.result c.loop-rest.invariant (omega arith) c.split_at.ensures.front c.split_at.ensures.back c.voxel_of-voxel.ensures (sym c.is_voxel_in.ensures ∙ c.if-not-is_voxel_in.true))

pub loop-rest-preserved : goal.loop-rest-preserved
loop-rest-preserved c =
    rw (c.in_ok-push.ensures.items)
    (read_more c.args.size c.loop-rest.voxels.items c.loop-rest.rest.now c.split_at.result.0.now c.split_at.result.1.now c.args.bytes.now c.voxel_of-voxel.result c.loop-rest.invariant (omega arith) c.split_at.ensures.front c.split_at.ensures.back c.voxel_of-voxel.ensures (sym c.is_voxel_in.ensures ∙ c.if-not-is_voxel_in.false))

pub returns-clause-read : goal.returns-clause-read
returns-clause-read c = read_all _ _ c.loop-rest.rest.now _ c.loop-rest.invariant (omega arith)
