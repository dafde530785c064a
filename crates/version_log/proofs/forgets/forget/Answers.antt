use Rattle.std.proofs.Common.{rules, ◌≡◌, ◌<◌, [], ◌∷◌, arith, ◌∙◌, ap}
use Rattle.table_rule.specs.Views.{SeatView}
use Rattle.version_log.specs.Seeing.{OnlyReadsLog}
use Rattle.version_log.proofs.ForgetLaws.{looked_open, looked_held, looked_number, looked_turn, forgets, forgets_idle}
use Rattle.node_table.specs.TableStates.{PassState}
use Rattle.version_log.proofs.LookLaws.{learns_same, begun_looks, left_on, looks_on, mark_looks}
use Rattle.version_log.proofs.forgets.forget.Goals as goal

pub returns-in-Some-clause-looks : goal.returns-in-Some-clause-looks
returns-in-Some-clause-looks g c =
    let v : SeatView = c.args.pass.now.view in
    let w : SeatView = c.log_length-at.new.pass.view in
    let m : SeatView = c.log_mark.new.pass.view in
    let first : OnlyReadsLog v w =
    begun_looks v _ w c.take_log.ensures.takes
    (learns_same _ _ (ap (λ (s : PassState). s.view) c.log_length-at.ensures.same))
    in
    let next : OnlyReadsLog w m = mark_looks w c.args.v c.in-Some.mark m c.in-Some.ensures.looks in
    left_on v m _ (looks_on v w m first next) (search rules)

pub returns-clause-forgets : goal.returns-clause-forgets
returns-clause-forgets g c =
    let earlier : c.args.v < c.log_length-at.result = omega arith in
    let v : SeatView = c.args.pass.now.view in
    let u : SeatView = c.log_length-at.new.pass.view in
    let m : SeatView = c.log_mark.new.pass.view in
    let b = c.in_default.ensures.looks in
    let same = learns_same _ _ (ap (λ (s : PassState). s.view) c.log_length-at.ensures.same) in
    let looks : OnlyReadsLog v m = looked_open v _ u m c.args.v c.take_log.ensures.takes same b in
    let number : m.numbers ≡ c.number-number.result ∷ [] =
    looks.session.numbers ∙ c.number-number.ensures
    in
    forgets v m c.log_forget-root.new.pass.view c.args.v c.args.line c.log_length-at.result
    c.number-number.result c.log_forget-root.result looks
    (looked_held v _ u m c.args.v c.take_log.ensures.takes same b)
    (looked_number _ u m c.args.v c.log_length-at.result c.log_length-at.ensures.number same b)
    earlier c.number-number.ensures (c.log_forget-root.ensures.forgot c.number-number.result number)

pub returns-clause-free : goal.returns-clause-free
returns-clause-free g c =
    let earlier : c.args.v < c.log_length-at.result = omega arith in
    let v : SeatView = c.args.pass.now.view in
    let u : SeatView = c.log_length-at.new.pass.view in
    let m : SeatView = c.log_mark.new.pass.view in
    let b = c.in_default.ensures.looks in
    let same = learns_same _ _ (ap (λ (s : PassState). s.view) c.log_length-at.ensures.same) in
    let looks : OnlyReadsLog v m = looked_open v _ u m c.args.v c.take_log.ensures.takes same b in
    let number : m.numbers ≡ c.number-number.result ∷ [] =
    looks.session.numbers ∙ c.number-number.ensures
    in
    record {
      of = c.log_forget-root.ensures.of;
      idle = forgets_idle v m c.log_forget-root.new.pass.view c.args.v c.args.line
          c.log_length-at.result c.number-number.result c.log_forget-root.result looks
          (looked_held v _ u m c.args.v c.take_log.ensures.takes same b)
          (looked_number _ u m c.args.v c.log_length-at.result c.log_length-at.ensures.number same b)
          earlier c.number-number.ensures
          (c.log_forget-root.ensures.forgot c.number-number.result number)
          (looked_turn _ u m c.args.v c.take_log.ensures.turn.idle same b);
    }

pub returns-then-v-at-clause-looks : goal.returns-then-v-at-clause-looks
returns-then-v-at-clause-looks g c =
    let w : SeatView = c.log_length-at.new.pass.view in
    let first : OnlyReadsLog c.args.pass.now.view w =
    begun_looks c.args.pass.now.view _ w c.take_log.ensures.takes
    (learns_same _ _ (ap (λ (s : PassState). s.view) c.log_length-at.ensures.same))
    in
    left_on c.args.pass.now.view w _ first (search rules)

pub returns-then-v-at-2-clause-looks : goal.returns-then-v-at-2-clause-looks
returns-then-v-at-2-clause-looks g c =
    let w : SeatView = c.log_length-at.new.pass.view in
    let first : OnlyReadsLog c.args.pass.now.view w =
    begun_looks c.args.pass.now.view _ w c.take_log.ensures.takes
    (learns_same _ _ (ap (λ (s : PassState). s.view) c.log_length-at.ensures.same))
    in
    left_on c.args.pass.now.view w _ first (search rules)
