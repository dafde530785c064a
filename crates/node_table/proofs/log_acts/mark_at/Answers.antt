use Rattle.std.proofs.Common.{sym, ap, subst}
use Rattle.table_rule.specs.LogFacts.{number_seen}
use Rattle.table_rule.specs.LogWords.{mark_of_words}
use Rattle.table_rule.specs.Views.{SeatView}
use Rattle.node_table.specs.LogTurns.{HasLogTurn, SeesMark}
use Rattle.node_table.specs.TableStates.{PassState}
use Rattle.node_table.proofs.LogReads.{log_turn_on, sees_mark_of}
use Rattle.node_table.proofs.log_acts.mark_at.Goals as goal

pub returns-clause-turn : goal.returns-clause-turn
returns-clause-turn c =
    let is = c.see_mark-who.ensures.view in
    log_turn_on c.args.table.now c.pass.inside.seat c.see_mark-who.new.seat c.args.v 7
    c.see_mark-who.result
    (subst (λ (x : PassState). HasLogTurn c.args.table.now x) (sym c.pass.view_is) c.requires.turn)
    c.see_mark-who.ensures.same (ap (λ (x : SeatView). x.turn) is)
    (ap (λ (x : SeatView). x.log.turn) is) (ap (λ (x : SeatView). number_seen x) is)
    (ap (λ (x : SeatView). x.log.words) is)

pub returns-clause-seen : goal.returns-clause-seen
returns-clause-seen c =
    let w = c.see_mark-who.new.seat.view in
    subst (λ (x : PassState). SeesMark x.view
    (mark_of_words c.args.v c.args.at c.see_mark-who.result) w)
    c.pass.view_is
    (sees_mark_of c.pass.inside.seat.view w c.args.v c.args.at c.see_mark-who.result
    c.see_mark-who.ensures.view c.see_mark-who.ensures.comes c.see_mark-who.ensures.again)
