use Rattle.std.proofs.Common.{◌∙◌, Some, sym, ap, subst, arith}
use Rattle.node_words.specs.declared.shapes.names.Name.{Name}
use Rattle.node_words.specs.Held.{HoldsName}
use Rattle.node_words.proofs.HeldLaws.{came_and_went, gains_held, gains_holds}
use Rattle.tests_table.proofs.shares.more_and_back.Goals as goal

pub back-requires-clause-held : goal.back-requires-clause-held
back-requires-clause-held g c =
    let v = c.args.pass.now.view.held in let w = c.more-more.new.pass.view.held in
    let h = c.requires.held in let n = c.args.share.now in
    subst (λ (m : Name). HoldsName w m) (sym c.more-more.ensures.name)
    (gains_holds v h.tree w n (c.more-more.ensures.held h.tree h.is_held h.root) h.root)

pub back-requires-clause-room : goal.back-requires-clause-room
back-requires-clause-room g c =
    let h = c.requires.held in
    let one = (c.more-more.ensures.held h.tree h.is_held h.root).weighs (λ _. 1) in
    let room = c.requires.room in omega arith

pub returns-clause-held : goal.returns-clause-held
returns-clause-held g c =
    let v = c.args.pass.now.view.held in let w = c.more-more.new.pass.view.held in
    let h = c.requires.held in
    let came = c.more-more.ensures.held h.tree h.is_held h.root in
    came_and_went v w c.back.new.pass.view.held h.tree came
    (c.back.ensures.held h.tree (gains_held v h.tree w came)
    (h.root ∙ ap (λ (m : Name). Some m) (sym c.more-more.ensures.name)))
