use Rattle.std.proofs.Common.{refl}
use Rattle.std.specs.Prelude.{option_copied}
use Rattle.history_model.specs.declared.acts.Act.TheVariants.{Copy}
use Rattle.act_rebuilds.proofs.Rooms.{most_room}
use Rattle.act_rebuilds.proofs.MakerLaws.{made_plainly}
use Rattle.act_rebuilds.proofs.copies.CopyActActMaker.make.Goals as goal

pub rebuild_copy_with-requires-clause-may : goal.rebuild_copy_with-requires-clause-may
rebuild_copy_with-requires-clause-may g c = record {
  side_is = c.requires.may.side_is;
  root_is = c.requires.may.root_is;
  room = most_room (Copy c.args.self.now.from c.args.self.now.to) _ c.requires.may.room;
}

pub returns-clause-made : goal.returns-clause-made
returns-clause-made g c =
    made_plainly (g.N.Blocks.seen c.args.store.now) (g.N.Blocks.seen c.rebuild_copy_with.new.store)
    c.args.side (option_copied c.args.old) c.args.self.now.models.now.models
    (Copy c.args.self.now.from c.args.self.now.to) refl refl c.rebuild_copy_with.result
    c.rebuild_copy_with.ensures.made
