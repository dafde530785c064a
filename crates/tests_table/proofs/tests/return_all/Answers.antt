use Rattle.std.proofs.Common.{rules, arith}
use Rattle.tests_table.proofs.tests.return_all.Goals as goal

pub returns : goal.returns
returns g c = λ k d h. (let t = (c.for_each_mut.ensures k d (omega arith)).1 in search rules)
