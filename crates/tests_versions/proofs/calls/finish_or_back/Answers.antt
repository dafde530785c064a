use Rattle.std.proofs.Common.{rules, ap, ◌∙◌}
use Rattle.table_rule.specs.Views.{SeatView}
use Rattle.tests_versions.specs.Uniform.{uniform_act}
use Rattle.tests_versions.proofs.HoldingLaws.{back_few, fallen_none, fell_few, fell_named, fell_nothing, few_taken, gone_whole, made_act, refused_whole}
use Rattle.tests_versions.proofs.calls.finish_or_back.Goals as goal

pub finish-requires-clause-may : goal.finish-requires-clause-may
finish-requires-clause-may g c =
    record {
      fits = search rules;
      target = search rules;
      known = search rules;
      made = made_act _ _ _ c.requires _ _ c.take_log.ensures.takes
          (c.act_behind-act.ensures ∙ ap uniform_act c.name_of.ensures);
    }

pub finish-requires-clause-room : goal.finish-requires-clause-room
finish-requires-clause-room g c =
    few_taken c.args.pass.now.view c.take_log.new.pass.view c.take_log.ensures.takes
    (back_few _ _ _ c.requires)

pub fallen_back-requires-clause-held : goal.fallen_back-requires-clause-held
fallen_back-requires-clause-held g c =
    let made = c.in-Ok.ensures.came in
    fell_named _ _ _ _ _ _ _ made
    (gone_whole _ _ _ c.requires _ _ _ _ _
    (ap (λ (x : SeatView). x.held) c.take_log.ensures.takes.is) made.appends)

pub fallen_back-requires-clause-room : goal.fallen_back-requires-clause-room
fallen_back-requires-clause-room g c =
    let made = c.in-Ok.ensures.came in
    fell_few _ _ _ _ _ _ _ made
    (gone_whole _ _ _ c.requires _ _ _ _ _
    (ap (λ (x : SeatView). x.held) c.take_log.ensures.takes.is) made.appends)

pub returns-in-Ok : goal.returns-in-Ok
returns-in-Ok g c =
    let made = c.in-Ok.ensures.came in
    fallen_none _ _ _ c.requires _ c.fallen_back.ensures.of c.fallen_back.ensures.idle
    (fell_nothing _ _ _ _ _ _ _ made
    (gone_whole _ _ _ c.requires _ _ _ _ _
    (ap (λ (x : SeatView). x.held) c.take_log.ensures.takes.is) made.appends) _
    c.fallen_back.ensures.gone)

pub returns-in-Err-LogFull : goal.returns-in-Err-LogFull
returns-in-Err-LogFull g c =
    refused_whole _ _ _ c.requires _ _ (search rules)
    (c.in-Err-LogFull.ensures.came.kept ∙ ap (λ (x : SeatView). x.held) c.take_log.ensures.takes.is)
    c.in-Err-LogFull.ensures.free.of c.in-Err-LogFull.ensures.free.idle
