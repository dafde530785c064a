use Rattle.std.proofs.Common.{rules, ◌≡◌}
use Rattle.store_run.specs.Replaying.{replay_plan}
use Rattle.audit.proofs.Judging.{refused_all}
use Rattle.audit.proofs.judges.audit.Goals as goal

pub returns-clause-refused : goal.returns-clause-refused
returns-clause-refused c =
    let same : c.in-Some.replayed ≡ replay_plan c.args.history.now.side = search rules in
    refused_all c.in-Some.replayed
    (replay_plan c.args.history.now.side) c.args.models c.args.history.now.marks
    c.args.history.now.records
    c.audit_over.result same c.audit_over.ensures.refused
