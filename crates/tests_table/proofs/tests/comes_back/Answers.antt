use Rattle.tests_table.proofs.Giving.{came_held, kept_and_given, same_itself}
use Rattle.tests_table.proofs.tests.comes_back.Goals as goal

pub back-requires-clause-held : goal.back-requires-clause-held
back-requires-clause-held g c =
    came_held c.args.pass.now.view c.leaf.new.pass.view c.in-Ok.share c.args.bits c.in-Ok.ensures.taken

pub returns-in-Ok-clause-held : goal.returns-in-Ok-clause-held
returns-in-Ok-clause-held g c =
    kept_and_given (c.args.pass.now.view) (c.leaf.new.pass.view) (c.leaf.new.pass.view)
    (c.back.new.pass.view) c.in-Ok.share c.args.bits c.in-Ok.ensures.taken
    (same_itself _) c.back.ensures.held
