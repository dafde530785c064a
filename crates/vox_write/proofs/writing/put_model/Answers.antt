use Rattle.std.proofs.Common.{refl}
use Rattle.vox_write.proofs.Joining.{model_put}
use Rattle.vox_write.proofs.writing.put_model.Goals as goal

pub returns-clause-items : goal.returns-clause-items
returns-clause-items c =
    model_put (record { size = c.args.size; voxels = c.args.voxels.now }) _ c.args.into.now.items
    c.put_size.new.into.items c.put_xyzi.new.into.items c.put_voxels.new.into.items refl
    c.put_size.ensures.items c.put_xyzi.ensures.items c.put_voxels.ensures.items
