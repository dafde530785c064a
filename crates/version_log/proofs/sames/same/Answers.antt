use Rattle.std.proofs.Common.{ap}
use Rattle.table_rule.specs.Views.{SeatView}
use Rattle.version_log.specs.Seeing.{OnlyReadsLog}
use Rattle.node_table.specs.TableStates.{PassState}
use Rattle.version_log.proofs.LookLaws.{learns_same, begun_looks, looks_on, left_looks}
use Rattle.version_log.proofs.sames.same.Goals as goal

pub returns-clause-looks : goal.returns-clause-looks
returns-clause-looks g c =
    let v : SeatView = c.args.pass.now.view in
    let w : SeatView = c.log_length-at.new.pass.view in
    let x : SeatView = c.compare-answer.new.pass.view in
    let z : SeatView = c.leave_log.new.pass.view in
    let first : OnlyReadsLog v w =
    begun_looks v c.take_log.new.pass.view w c.take_log.ensures.takes
    (learns_same _ _ (ap (λ (s : PassState). s.view) c.log_length-at.ensures.same))
    in
    looks_on v x z (looks_on v w x first c.compare-answer.ensures.reads.looks)
    (left_looks x z c.leave_log.ensures.view)
