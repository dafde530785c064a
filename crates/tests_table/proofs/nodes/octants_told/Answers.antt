use Rattle.std.proofs.Common.{sym, subst, ◌∙◌}
use Rattle.node_words.specs.Held.{ReachesName}
use Rattle.node_words.proofs.HeldLaws.{holds_reaches}
use Rattle.node_table.specs.TableStates.{PassState}
use Rattle.tests_table.proofs.nodes.octants_told.Goals as goal

pub children_at-names-requires-clause-reached : goal.children_at-names-requires-clause-reached
children_at-names-requires-clause-reached c = holds_reaches _ c.args.n c.requires.held

pub leaves_at-bits-requires-clause-reached : goal.leaves_at-bits-requires-clause-reached
leaves_at-bits-requires-clause-reached c =
    subst (λ (s : PassState). ReachesName s.view.held c.args.n)
    (sym c.children_at-names.ensures.same) (holds_reaches _ c.args.n c.requires.held)

pub child_at-first-requires-clause-reached : goal.child_at-first-requires-clause-reached
child_at-first-requires-clause-reached c =
    subst (λ (s : PassState). ReachesName s.view.held c.args.n)
    (sym (c.leaves_at-bits.ensures.same ∙ c.children_at-names.ensures.same))
    (holds_reaches _ c.args.n c.requires.held)

pub child_at-second-requires-clause-reached : goal.child_at-second-requires-clause-reached
child_at-second-requires-clause-reached c =
    subst (λ (s : PassState). ReachesName s.view.held c.args.n)
    (sym (c.child_at-first.ensures.same
    ∙ c.leaves_at-bits.ensures.same ∙ c.children_at-names.ensures.same))
    (holds_reaches _ c.args.n c.requires.held)
