use Rattle.std.proofs.Common.{List, All, subst}
use Rattle.node_table.specs.TableStates.{PassState}
use Rattle.node_table.specs.Closing.{IsSpare}
use Rattle.node_table.proofs.JoinLaws.{all_front}
use Rattle.tests_table.proofs.closes.outlive.Goals as goal

pub loop-pass-preserved : goal.loop-pass-preserved
loop-pass-preserved c =
    all_front (IsSpare c.args.table) c.pop.new.self.items c.in-Some.pass
    (subst (λ (l : List PassState). All (IsSpare c.args.table) l) c.in-Some.ensures.items
    c.loop-pass.invariant)
