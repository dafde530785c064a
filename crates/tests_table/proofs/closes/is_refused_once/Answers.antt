use Rattle.std.proofs.Common.{List, All, sym, subst}
use Rattle.node_table.specs.TableStates.{PassState, TableState}
use Rattle.node_table.specs.Closing.{IsSpare, RefusesClose}
use Rattle.node_table.specs.declared.closed.TableCloseRefused.{TableCloseRefused}
use Rattle.node_table.proofs.JoinLaws.{all_front, all_end}
use Rattle.tests_table.proofs.Giving.{back_spare}
use Rattle.tests_table.proofs.closes.is_refused_once.Goals as goal

pub close-requires : goal.close-requires
close-requires c =
    all_front (IsSpare c.args.table) c.pop.new.self.items c.in-Some.kept
    (subst (λ (l : List PassState). All (IsSpare c.args.table) l) c.in-Some.ensures.items c.requires)

pub closes_later-closed-requires-clause-passes : goal.closes_later-closed-requires-clause-passes
closes_later-closed-requires-clause-passes c =
    let r = subst (λ (e : TableCloseRefused). RefusesClose c.args.table c.pop.new.self.items e)
    c.in-Err-Count.field-0-is c.in-Err-Count.ensures.refused in
    back_spare c.args.table c.in-Err-Count.table c.pop.new.self.items c.in-Err-Count.passes.items
    (all_front (IsSpare c.args.table) c.pop.new.self.items c.in-Some.kept
    (subst (λ (l : List PassState). All
    (IsSpare c.args.table) l) c.in-Some.ensures.items c.requires))
    r.2 r.3

pub closes_later-closed-requires-clause-kept : goal.closes_later-closed-requires-clause-kept
closes_later-closed-requires-clause-kept c =
    let r = subst (λ (e : TableCloseRefused). RefusesClose c.args.table c.pop.new.self.items e)
    c.in-Err-Count.field-0-is c.in-Err-Count.ensures.refused in
    subst (λ (t : TableState). IsSpare t c.in-Some.kept) (sym r.2)
    (all_end (IsSpare c.args.table) c.pop.new.self.items c.in-Some.kept
    (subst (λ (l : List PassState). All
    (IsSpare c.args.table) l) c.in-Some.ensures.items c.requires))

pub ended-requires-in-Err-Memory : goal.ended-requires-in-Err-Memory
ended-requires-in-Err-Memory c =
    let r = subst (λ (e : TableCloseRefused). RefusesClose c.args.table c.pop.new.self.items e)
    c.in-Err-Memory.field-0-is c.in-Err-Memory.ensures.refused in
    back_spare c.args.table c.in-Err-Memory.table c.pop.new.self.items c.in-Err-Memory.passes.items
    (all_front (IsSpare c.args.table) c.pop.new.self.items c.in-Some.kept
    (subst (λ (l : List PassState). All
    (IsSpare c.args.table) l) c.in-Some.ensures.items c.requires))
    r.1 r.2

pub end-requires-in-Ok-clause-held : goal.end-requires-in-Ok-clause-held
end-requires-in-Ok-clause-held c =
    let s = all_end (IsSpare c.args.table) c.pop.new.self.items c.in-Some.kept
    (subst (λ (l : List PassState). All
    (IsSpare c.args.table) l) c.in-Some.ensures.items c.requires) in
    s.held

pub end-requires-in-Ok-clause-turn : goal.end-requires-in-Ok-clause-turn
end-requires-in-Ok-clause-turn c =
    let s = all_end (IsSpare c.args.table) c.pop.new.self.items c.in-Some.kept
    (subst (λ (l : List PassState). All
    (IsSpare c.args.table) l) c.in-Some.ensures.items c.requires) in
    s.turn

pub end-requires-in-Ok-clause-log_turn : goal.end-requires-in-Ok-clause-log_turn
end-requires-in-Ok-clause-log_turn c =
    let s = all_end (IsSpare c.args.table) c.pop.new.self.items c.in-Some.kept
    (subst (λ (l : List PassState). All
    (IsSpare c.args.table) l) c.in-Some.ensures.items c.requires) in
    s.log_turn
