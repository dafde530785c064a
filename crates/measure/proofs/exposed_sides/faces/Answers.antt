use Rattle.node_words.proofs.OfDescent.BlockLaws.{root_block}
use Rattle.node_words.proofs.OfDescent.PartLaws.{box_in_root}
use Rattle.measure.proofs.FaceLaws.{faces_in_world}
use Rattle.measure.proofs.exposed_sides.faces.Goals as goal

pub faces_in_block-requires-clause-block : goal.faces_in_block-requires-clause-block
faces_in_block-requires-clause-block g c =
    rw (c.root_level.ensures.value, c.name_of.ensures) (root_block _ c.args.side _ c.requires.root)

pub faces_in_block-requires-clause-part : goal.faces_in_block-requires-clause-part
faces_in_block-requires-clause-part g c =
    box_in_root _ c.args.side c.args.b c.root_level.ensures.value c.root_level.ensures.bounds.0 c.requires.inside

pub returns-clause-number : goal.returns-clause-number
returns-clause-number g c =
    faces_in_world _ _ c.args.side _ _ _ c.args.b c.root_level.ensures.value c.root_level.ensures.bounds.0 c.name_of.ensures c.faces_in_block.ensures.number
