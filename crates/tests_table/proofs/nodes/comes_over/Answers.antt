use Rattle.tests_table.proofs.Giving.{came_held, taken_and_given}
use Rattle.tests_table.proofs.nodes.comes_over.Goals as goal

pub over_and_back-requires-clause-held : goal.over_and_back-requires-clause-held
over_and_back-requires-clause-held g c =
    came_held c.args.pass.now.view c.leaf.new.pass.view c.in-Ok.share c.args.bits
    c.in-Ok.ensures.taken

pub returns-in-Ok-clause-held : goal.returns-in-Ok-clause-held
returns-in-Ok-clause-held g c =
    taken_and_given c.args.pass.now.view c.leaf.new.pass.view c.over_and_back.new.pass.view
    c.in-Ok.share c.args.bits c.in-Ok.ensures.taken c.over_and_back.ensures.given
