use Rattle.tests_table.proofs.Giving.{came_held, kept_and_given, same_itself}
use Rattle.tests_table.proofs.calls.comes_and_goes.Goals as goal

pub give-freed-requires-clause-held : goal.give-freed-requires-clause-held
give-freed-requires-clause-held g c =
    came_held c.args.pass.now.view c.leaf.new.pass.view c.in-Ok.share c.args.bits c.in-Ok.ensures.taken

pub returns-then-slot-at-clause-held : goal.returns-then-slot-at-clause-held
returns-then-slot-at-clause-held g c =
    kept_and_given (c.args.pass.now.view) (c.leaf.new.pass.view) (c.leaf.new.pass.view)
    (c.give-freed.new.pass.view) c.in-Ok.share c.args.bits c.in-Ok.ensures.taken
    (same_itself _) c.give-freed.ensures.given

pub returns-else-slot-at-clause-held : goal.returns-else-slot-at-clause-held
returns-else-slot-at-clause-held g c =
    kept_and_given (c.args.pass.now.view) (c.leaf.new.pass.view) (c.leaf.new.pass.view)
    (c.give-freed.new.pass.view) c.in-Ok.share c.args.bits c.in-Ok.ensures.taken
    (same_itself _) c.give-freed.ensures.given
