use Rattle.std.proofs.Common.{rules, ◌≡◌, []}
use Rattle.tests_table.proofs.Giving.{few_held}
use Rattle.tests_table.proofs.threads.left_nothing.Goals as goal

pub is_empty-empty-requires-clause-room : goal.is_empty-empty-requires-clause-room
is_empty-empty-requires-clause-room g c =
    few_held c.in-Some.pass.view.held (let h : c.in-Some.pass.view.held ≡ [] = search rules in h)
