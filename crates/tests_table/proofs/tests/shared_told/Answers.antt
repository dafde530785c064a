use Rattle.tests_table.proofs.Giving.{came_held, kept_and_given, still_held}
use Rattle.tests_table.proofs.tests.shared_told.Goals as goal

pub back-requires-clause-held : goal.back-requires-clause-held
back-requires-clause-held g c =
    still_held c.leaf.new.pass.view.held c.next_told-next.new.b.view.held c.in-Ok.share
    c.next_told-next.ensures.second_held
    (came_held c.args.b.now.view c.leaf.new.pass.view c.in-Ok.share 1 c.in-Ok.ensures.taken)

pub returns-in-Ok-clause-second_held : goal.returns-in-Ok-clause-second_held
returns-in-Ok-clause-second_held g c =
    kept_and_given (c.args.b.now.view) (c.leaf.new.pass.view) (c.next_told-next.new.b.view)
    (c.back.new.pass.view) c.in-Ok.share 1 c.in-Ok.ensures.taken
    c.next_told-next.ensures.second_held c.back.ensures.held
