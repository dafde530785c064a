use Rattle.tests_table.proofs.Giving.{came_held, kept_and_given, same_itself}
use Rattle.tests_table.proofs.tests.next_told.Goals as goal

pub back-requires-clause-held : goal.back-requires-clause-held
back-requires-clause-held g c =
    came_held c.args.b.now.view c.leaf.new.pass.view c.in-Ok.share 2 c.in-Ok.ensures.taken

pub returns-in-Ok-clause-second_held : goal.returns-in-Ok-clause-second_held
returns-in-Ok-clause-second_held g c =
    kept_and_given (c.args.b.now.view) (c.leaf.new.pass.view) (c.leaf.new.pass.view)
    (c.back.new.pass.view) c.in-Ok.share 2 c.in-Ok.ensures.taken
    (same_itself _) c.back.ensures.held
