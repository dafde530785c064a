use Rattle.std.proofs.Common.{Option, subst}
use Rattle.node_words.specs.declared.shapes.names.Name.{Name}
use Rattle.node_table.specs.LogTurns.{AppendsInTurn, ForAppended}
use Rattle.node_table.proofs.log_acts.log_append_on.Goals as goal

pub returns-clause-appended : goal.returns-clause-appended
returns-clause-appended c =
    let v = c.args.pass.now.view in let w = c.append_on.new.pass.view in
    subst (λ (o : Option Name). ForAppended c.args.table.now.plan v c.args.words o
    (λ r t. AppendsInTurn v r t w)) c.spent.ensures c.append_on.ensures.appended
