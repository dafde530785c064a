use Rattle.std.proofs.Common.{refl, ◌∙◌, ap}
use Rattle.table_rule.specs.Views.{SeatView}
use Rattle.node_table.specs.LogTurns.{log_left}
use Rattle.version_log.specs.Commits.{AppendsNext}
use Rattle.version_log.proofs.AppendLaws.{MayGoOn, append_meets, appends, appends_fewer, appends_number, may_append, next_goes_on}
use Rattle.version_log.proofs.finishing.append_next.Goals as goal

pub log_append_on-requires-clause-may : goal.log_append_on-requires-clause-may
log_append_on-requires-clause-may c =
    let r = c.requires in
    let a = r.begins in
    let f = c.cursor_ahead-now.ensures.finds in
    let m : MayGoOn c.args.pass.now.view c.cursor_ahead-now.new.pass.view c.args.table.now.plan
    c.number-number.result c.args.line c.args.act.now c.args.root c.record_words-words.result =
    next_goes_on c.args.pass.now.view c.cursor_ahead-now.new.pass.view _ c.args.table.now.plan
    c.number-number.result c.args.line c.args.at c.args.act.now c.args.root
    c.record_words-words.result c.cursor_ahead-now.result.now c.cursor_ahead-now.result.last
    a.turn.sees.turn f.learns refl a.at a.room a.turn.of.plan
    c.number-number.ensures r.may.fits r.may.target c.tell_numbers.ensures c.ranges.line.fits
    r.may.made f.stands.next c.record_words-words.ensures
    in
    may_append _ _ _ _ _ _ _ _ m

pub returns : goal.returns
returns c =
    let r = c.requires in
    let a = r.begins in
    let f = c.cursor_ahead-now.ensures.finds in
    let v : SeatView = c.args.pass.now.view in
    let w : SeatView = log_left c.log_append_on.new.pass.view in
    let m : MayGoOn v c.cursor_ahead-now.new.pass.view c.args.table.now.plan
    c.number-number.result c.args.line c.args.act.now c.args.root c.record_words-words.result =
    next_goes_on v c.cursor_ahead-now.new.pass.view _ c.args.table.now.plan
    c.number-number.result c.args.line c.args.at c.args.act.now c.args.root
    c.record_words-words.result c.cursor_ahead-now.result.now c.cursor_ahead-now.result.last
    a.turn.sees.turn f.learns refl a.at a.room a.turn.of.plan
    c.number-number.ensures r.may.fits r.may.target c.tell_numbers.ensures c.ranges.line.fits
    r.may.made f.stands.next c.record_words-words.ensures
    in
    let next : AppendsNext v c.args.line c.args.act.now c.args.root c.log_append_on.result w =
    appends _ _ _ _ _ _ _ _ m c.tell.ensures w c.log_append_on.result
    c.log_append_on.ensures.number c.log_append_on.ensures.appended
    in
    record {
      appends = record {
        turn = c.log_append_on.ensures.turn;
        appends = next;
        number = appends_number v w c.args.line c.args.act.now c.args.root
            c.log_append_on.result next;
        fewer = appends_fewer v w c.args.line c.args.act.now c.args.root c.log_append_on.result
            r.may.made next;
        met_nobody = append_meets _ _ _ _ _ _ _ _ m w c.log_append_on.ensures.appended
            ∙ ap (λ (x : SeatView). x.log.busy) f.learns.is;
      };
    }
