use Rattle.std.proofs.Common.{rules, ◌≡◌, []}
use Rattle.tests_table.proofs.Giving.{few_held}
use Rattle.tests_table.proofs.shares.one_counts.Goals as goal

pub is_counted-counted-requires-clause-room : goal.is_counted-counted-requires-clause-room
is_counted-counted-requires-clause-room g c =
    few_held c.in-Some.pass.view.held (let h : c.in-Some.pass.view.held ≡ [] = search rules in h)
