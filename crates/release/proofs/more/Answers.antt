use Rattle.std.proofs.Common.{Some, sym, ap, subst, ◌∙◌}
use Rattle.node_words.specs.declared.shapes.names.Name.{Name}
use Rattle.node_words.specs.Held.{ReachesName}
use Rattle.node_words.proofs.HeldLaws.{held_reached, holds_reaches}
use Rattle.release.proofs.more.Goals as goal

pub keep_at-requires-clause-reached : goal.keep_at-requires-clause-reached
keep_at-requires-clause-reached g c =
    subst (λ (n : Name). ReachesName c.args.pass.now.view.held n) (sym c.name.ensures)
    (holds_reaches c.args.pass.now.view.held c.args.share.now c.requires.held)

pub returns-clause-held : goal.returns-clause-held
returns-clause-held g c = λ t held root.
    c.keep_at.ensures.held t (held_reached c.args.pass.now.view.held t held)
    (root ∙ ap (λ (n : Name). Some n) (sym c.name.ensures))
