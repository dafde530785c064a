use Rattle.node_words.proofs.OfDescent.PartLaws.{box_in_root}
use Rattle.extract.proofs.LeafLaws.{small_box, root_there, world_room}
use Rattle.extract.proofs.boxes.cells_in.Goals as goal

pub box_in-requires-clause-block : goal.box_in-requires-clause-block
box_in-requires-clause-block g c =
    root_there (g.B.Blocks.seen c.args.store.now)
    (g.B.Blocks.seen c.count-number.new.store) c.args.side _ _ _ c.count-number.ensures.seen c.root_level.ensures.value c.name_of.ensures c.requires.root

pub box_in-requires-clause-b : goal.box_in-requires-clause-b
box_in-requires-clause-b g c =
    small_box c.args.side c.args.b c.root_level.ensures.bounds.1 c.requires.inside c.requires.small.0 c.requires.small.1 c.requires.small.2

pub box_in-requires-clause-ends : goal.box_in-requires-clause-ends
box_in-requires-clause-ends g c =
    box_in_root _ c.args.side c.args.b c.root_level.ensures.value c.root_level.ensures.bounds.0 c.requires.inside

pub box_in-requires-clause-room : goal.box_in-requires-clause-room
box_in-requires-clause-room g c =
    world_room (g.B.Blocks.seen c.args.store.now)
    (g.B.Blocks.seen c.count-number.new.store) c.args.side _ _ _ c.args.b c.count-number.result c.reserve.new.self c.count-number.ensures.seen c.root_level.ensures.value c.name_of.ensures c.count-number.ensures.number c.in_ok-reserve.ensures.ok
