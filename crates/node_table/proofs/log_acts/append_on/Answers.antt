use Rattle.std.proofs.Common.{sym, ap, subst, arith}
use Rattle.table_rule.specs.LogFacts.{number_seen}
use Rattle.node_table.specs.LogTurns.{AppendsInTurn, ForAppended, MayAppendWords, log_left}
use Rattle.node_table.specs.TableStates.{PassState}
use Rattle.node_table.proofs.LogAppends.{append_held, append_keeps_turn, append_seen, appends_in_turn, held_given, may_stays}
use Rattle.node_table.proofs.log_acts.append_on.Goals as goal

pub put_length-requires-clause-may : goal.put_length-requires-clause-may
put_length-requires-clause-may c =
    let may = subst (λ (s : PassState). MayAppendWords c.args.table.now.plan s.view
    c.args.words.now c.args.root) (sym c.pass.view_is) c.requires.may in
    may_stays c.args.table.now.plan c.pass.inside.seat.view c.put_words.new.seat.view
    c.args.words.now c.args.root c.put_words.ensures.stores may

pub overflow_sub-pass : goal.overflow_sub-pass
overflow_sub-pass c =
    let may = subst (λ (s : PassState). MayAppendWords c.args.table.now.plan s.view
    c.args.words.now c.args.root) (sym c.pass.view_is) c.requires.may in
    let given = c.shares_of_root-given.ensures.weighs may.tree may.root_is in
    let less = held_given c.pass.inside.seat.view may.tree may.may.is_held in
    let inv = c.pass.invariant.0 in omega arith

pub invariant_of-pass : goal.invariant_of-pass
invariant_of-pass c =
    let v = c.pass.inside.seat.view in let w = c.put_length.new.seat.view in
    let may = subst (λ (s : PassState). MayAppendWords c.args.table.now.plan s.view
    c.args.words.now c.args.root) (sym c.pass.view_is) c.requires.may in
    let all = appends_in_turn c.args.table.now.plan v c.put_words.new.seat.view w
    c.args.words.now c.args.root c.put_words.ensures.stores c.put_length.ensures.appended in
    let a = all may.change may.tree may.words_are may.root_is may.may in
    let given = c.shares_of_root-given.ensures.weighs may.tree may.root_is in
    let held = append_held v (log_left w) may.change may.tree a in
    let seen = append_seen v (log_left w) may.change may.tree a in
    let same = ap (λ (s : PassState). number_seen s.view) c.pass.view_is in
    let number = c.seen-next.ensures.number in
    let inv = c.pass.invariant.0 in (omega arith, omega arith)

pub returns-clause-turn : goal.returns-clause-turn
returns-clause-turn c =
    let may = subst (λ (s : PassState). MayAppendWords c.args.table.now.plan s.view
    c.args.words.now c.args.root) (sym c.pass.view_is) c.requires.may in
    let m = may_stays c.args.table.now.plan c.pass.inside.seat.view c.put_words.new.seat.view
    c.args.words.now c.args.root c.put_words.ensures.stores may in
    append_keeps_turn c.args.table.now c.put_words.new.seat c.put_length.new.seat m.change m.tree
    c.put_words.ensures.turn c.put_length.ensures.same
    (c.put_length.ensures.appended m.change m.tree m.words_are m.root_is m.may)

pub returns-clause-appended : goal.returns-clause-appended
returns-clause-appended c =
    let w = c.put_length.new.seat.view in
    subst (λ (s : PassState). ForAppended c.args.table.now.plan s.view c.args.words.now c.args.root
    (λ r t. AppendsInTurn s.view r t w)) c.pass.view_is
    (appends_in_turn c.args.table.now.plan c.pass.inside.seat.view c.put_words.new.seat.view w
    c.args.words.now c.args.root c.put_words.ensures.stores c.put_length.ensures.appended)
