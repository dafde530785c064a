use Rattle.std.proofs.Common.{◌≡◌, [], ◌∷◌, ◌∙◌, ap}
use Rattle.table_rule.specs.Views.{SeatView}
use Rattle.version_log.proofs.FallLaws.{fell_busy, fell_idle, fell_marked, fell_open}
use Rattle.version_log.proofs.falling.forget_fallen.Goals as goal

pub returns-in-Some-clause-falls : goal.returns-in-Some-clause-falls
returns-in-Some-clause-falls c =
    fell_marked c.args.pass.now.view c.log_mark.new.pass.view c.leave_log.new.pass.view c.args.v
    c.args.line c.in-Some._mark c.in-Some.ensures.looks c.leave_log.ensures.view

pub returns-clause-falls : goal.returns-clause-falls
returns-clause-falls c =
    let v : SeatView = c.args.pass.now.view in
    let m : SeatView = c.log_mark.new.pass.view in
    let b = c.in_default.ensures.looks in
    let number : m.numbers ≡ c.number-number.result ∷ [] =
    ap (λ (x : SeatView). x.numbers) b.is ∙ c.number-number.ensures in
    fell_open v m c.log_forget-root.new.pass.view c.args.v c.args.line c.number-number.result
    c.log_forget-root.result c.requires.earlier c.number-number.ensures b
    (c.log_forget-root.ensures.forgot c.number-number.result number)

pub returns-clause-back : goal.returns-clause-back
returns-clause-back c =
    let v : SeatView = c.args.pass.now.view in
    let m : SeatView = c.log_mark.new.pass.view in
    let b = c.in_default.ensures.looks in
    let number : m.numbers ≡ c.number-number.result ∷ [] =
    ap (λ (x : SeatView). x.numbers) b.is ∙ c.number-number.ensures in
    let f = c.log_forget-root.ensures.forgot c.number-number.result number in
    record {
      free = record {
        of = c.log_forget-root.ensures.of;
        idle = fell_idle v m c.log_forget-root.new.pass.view c.args.v c.args.line
            c.number-number.result c.log_forget-root.result c.requires.earlier
            c.number-number.ensures b f c.requires.turn.idle;
      };
      met_nobody = fell_busy v m c.log_forget-root.new.pass.view c.args.v c.args.line
          c.number-number.result c.log_forget-root.result c.requires.earlier
          c.number-number.ensures b f;
    }
