use Rattle.tests_table.proofs.Giving.{nothing_held}
use Rattle.tests_table.proofs.calls.end.Goals as goal

pub end-requires-clause-held : goal.end-requires-clause-held
end-requires-clause-held c = nothing_held c.args.pass.view.held c.requires.held
