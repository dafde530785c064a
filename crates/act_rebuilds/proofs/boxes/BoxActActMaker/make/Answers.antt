use Rattle.std.specs.Prelude.{option_copied}
use Rattle.edit_ops.specs.Boxes.{box_act}
use Rattle.act_rebuilds.proofs.Rooms.{most_room}
use Rattle.act_rebuilds.proofs.MakerLaws.{box_plain, box_same, made_plainly}
use Rattle.act_rebuilds.proofs.boxes.BoxActActMaker.make.Goals as goal

pub rebuild_box_with-requires-clause-may : goal.rebuild_box_with-requires-clause-may
rebuild_box_with-requires-clause-may g c = record {
  side_is = c.requires.may.side_is;
  root_is = c.requires.may.root_is;
  room = most_room (box_act c.args.self.now.set c.args.self.now.part) _ c.requires.may.room;
}

pub returns-clause-made : goal.returns-clause-made
returns-clause-made g c =
    made_plainly (g.N.Blocks.seen c.args.store.now) (g.N.Blocks.seen c.rebuild_box_with.new.store)
    c.args.side (option_copied c.args.old) c.args.self.now.models.now.models
    (box_act c.args.self.now.set c.args.self.now.part)
    (box_plain c.args.self.now.set c.args.self.now.part)
    (box_same c.args.self.now.models.now.models c.args.self.now.set c.args.self.now.part)
    c.rebuild_box_with.result c.rebuild_box_with.ensures.made
