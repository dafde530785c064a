use Rattle.std.proofs.Common.{rules, ap}
use Rattle.table_rule.specs.Views.{SeatView}
use Rattle.version_log.specs.Seeing.{OnlyReadsLog}
use Rattle.node_table.specs.TableStates.{PassState}
use Rattle.version_log.proofs.LookLaws.{learns_same, begun_looks, keeps_looks, left_on, looks_on, mark_looks, open_looks}
use Rattle.version_log.proofs.pins.pin.Goals as goal

pub returns-in-Some-clause-looks : goal.returns-in-Some-clause-looks
returns-in-Some-clause-looks g c =
    let v : SeatView = c.args.pass.now.view in
    let w : SeatView = c.log_length-at.new.pass.view in
    let m : SeatView = c.log_mark.new.pass.view in
    let first : OnlyReadsLog v w =
    begun_looks v _ w c.take_log.ensures.takes
    (learns_same _ _ (ap (λ (s : PassState). s.view) c.log_length-at.ensures.same))
    in
    let next : OnlyReadsLog w m =
    mark_looks w c.version_asked-version.result c.in-Some.mark m c.in-Some.ensures.looks
    in
    left_on v m _ (looks_on v w m first next) (search rules)

pub returns-clause-looks : goal.returns-clause-looks
returns-clause-looks g c =
    let v : SeatView = c.args.pass.now.view in
    let w : SeatView = c.log_length-at.new.pass.view in
    let m : SeatView = c.log_mark.new.pass.view in
    let k : SeatView = c.keep_version-root.new.pass.view in
    let first : OnlyReadsLog v w =
    begun_looks v _ w c.take_log.ensures.takes
    (learns_same _ _ (ap (λ (s : PassState). s.view) c.log_length-at.ensures.same))
    in
    let next : OnlyReadsLog w m =
    open_looks w c.version_asked-version.result m c.in_default.ensures.looks
    in
    left_on v k _
    (looks_on v m k (looks_on v w m first next) (keeps_looks m k c.keep_version-root.ensures.only))
    (search rules)

pub returns-then-version-at-clause-looks : goal.returns-then-version-at-clause-looks
returns-then-version-at-clause-looks g c =
    let w : SeatView = c.log_length-at.new.pass.view in
    let first : OnlyReadsLog c.args.pass.now.view w =
    begun_looks c.args.pass.now.view _ w c.take_log.ensures.takes
    (learns_same _ _ (ap (λ (s : PassState). s.view) c.log_length-at.ensures.same))
    in
    left_on c.args.pass.now.view w _ first (search rules)
