use Rattle.std.proofs.Common.{rules, ap, ◌∙◌, arith}
use Rattle.node_table.specs.TableStates.{PassState}
use Rattle.table_rule.specs.LogFacts.{number_seen}
use Rattle.table_rule.specs.Views.{SeatView}
use Rattle.tests_versions.proofs.AppendingLaws.{appended_nothing, appended_number, may_append_seventh, spare_left}
use Rattle.tests_versions.proofs.words.append_on.Goals as goal

pub append_on-n-requires-clause-may : goal.append_on-n-requires-clause-may
append_on-n-requires-clause-may g c =
    may_append_seventh _ _ _ _ _ _ _ _ _ c.requires.first c.requires.side
    c.log_turn-turn.ensures.view c.log_turn-turn.ensures.turn
    (c.len-before.ensures.same.0 ∙ c.log_turn-turn.ensures.table) c.len-before.ensures.same.1
    c.number-session.ensures c.len-before.ensures.number
    (omega (arith, c.if-before-ge65535.false)) c.from-next.ensures c.from.ensures

pub words-told-requires-clause-there : goal.words-told-requires-clause-there
words-told-requires-clause-there g c =
    let may = may_append_seventh _ _ _ _ _ _ _ _ _ c.requires.first c.requires.side
    c.log_turn-turn.ensures.view c.log_turn-turn.ensures.turn
    (c.len-before.ensures.same.0 ∙ c.log_turn-turn.ensures.table) c.len-before.ensures.same.1
    c.number-session.ensures c.len-before.ensures.number
    (omega (arith, c.if-before-ge65535.false)) c.from-next.ensures c.from.ensures in
    let long = appended_number _ c.len-before.new.self.pass.now.view
    c.append_on-n.new.self.pass.now.view _ may c.append_on-n.ensures.appended in
    let same = ap (λ (s : PassState). number_seen s.view) c.len-behind.ensures.same.1 in (
      omega (arith, c.append_on-n.ensures.number),
      omega (arith, c.append_on-n.ensures.number, long, same),
    )

pub returns-clause-first : goal.returns-clause-first
returns-clause-first g c =
    let may = may_append_seventh _ _ _ _ _ _ _ _ _ c.requires.first c.requires.side
    c.log_turn-turn.ensures.view c.log_turn-turn.ensures.turn
    (c.len-before.ensures.same.0 ∙ c.log_turn-turn.ensures.table) c.len-before.ensures.same.1
    c.number-session.ensures c.len-before.ensures.number
    (omega (arith, c.if-before-ge65535.false)) c.from-next.ensures c.from.ensures in
    let none = ap (λ (s : PassState). s.view.held) c.len-before.ensures.same.1
    ∙ ap (λ (v : SeatView). v.held) c.log_turn-turn.ensures.view.is ∙ c.requires.first.held in
    spare_left _ _ c.words-told.new.self.pass.now (search rules) (search rules)
    c.words-told.ensures.keeps.turn.idle
    (ap (λ (v : SeatView). v.held) c.words-told.ensures.learns.is
    ∙ ap (λ (s : PassState). s.view.held) c.len-behind.ensures.same.1
    ∙ appended_nothing _ c.len-before.new.self.pass.now.view
    c.append_on-n.new.self.pass.now.view _ may c.append_on-n.ensures.appended none)
