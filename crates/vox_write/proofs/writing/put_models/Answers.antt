use Rattle.vox_write.proofs.Joining.{models_put}
use Rattle.vox_write.proofs.writing.put_models.Goals as goal

pub returns : goal.returns
returns c =
    models_put c.args.models.now c.args.length c.args.into.now.items c.put_main.new.into.items
    c.put_chunks.new.into.items c.requires.length c.put_main.ensures.items c.put_chunks.ensures
