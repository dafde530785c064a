use Rattle.std.proofs.Common.{◌≤◌, ℕ, Option, IfSome, subst, sym}
use Rattle.table_rule.specs.LogFacts.{number_seen}
use Rattle.version_log.proofs.WordLaws.{led_there}
use Rattle.version_log.proofs.sures.Sure.target.Goals as goal

pub returns-clause-there : goal.returns-clause-there
returns-clause-there c =
    let v = c.args.self.now.pass.now.view in
    subst (λ (o : Option ℕ). IfSome o (λ to. to ≤ number_seen v)) (sym c.version_of.ensures)
    (led_there v.log.seen.records c.args.act.now c.look_behind-behind.result
    c.look_behind-behind.ensures.finds.target)
