use Rattle.std.proofs.Common.{sym, subst, arith}
use Rattle.node_words.specs.Held.{ReachesName}
use Rattle.node_words.proofs.HeldLaws.{child_level, held_reached, holds_reaches, reaches_child}
use Rattle.node_table.specs.TableStates.{PassState}
use Rattle.tests_table.proofs.nodes.first_bits.Goals as goal

pub child_at-requires-clause-reached : goal.child_at-requires-clause-reached
child_at-requires-clause-reached c = holds_reaches _ c.args.n c.requires.held

pub bits_at-requires-clause-reached : goal.bits_at-requires-clause-reached
bits_at-requires-clause-reached c =
    let h = c.requires.held in
    let reached = held_reached _ h.tree h.is_held in
    subst (λ (s : PassState). ReachesName s.view.held c.in-Some.leaf)
    (sym c.in-Some.ensures.same)
    (reaches_child _ h.tree 0 c.in-Some.leaf reached
    (sym (c.in-Some.ensures.child h.tree reached h.root)))

pub bits_at-requires-clause-level : goal.bits_at-requires-clause-level
bits_at-requires-clause-level c =
    let h = c.requires.held in
    let reached = held_reached _ h.tree h.is_held in
    let level = c.requires.level in
    let below = child_level _ _ h.tree 0 c.args.n c.in-Some.leaf c.tell.ensures.trees reached h.root
    (sym (c.in-Some.ensures.child h.tree reached h.root)) (omega (arith, level)) in
    omega (arith, below, level)
