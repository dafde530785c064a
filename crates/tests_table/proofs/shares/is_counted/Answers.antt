use Rattle.std.proofs.Common.{sym, subst, arith}
use Rattle.node_words.specs.declared.shapes.names.Name.{Name}
use Rattle.node_words.specs.Held.{HoldsName}
use Rattle.node_words.proofs.HeldLaws.{same_on}
use Rattle.tests_table.proofs.Giving.{came_held, came_number, kept_and_given, still_held, still_few}
use Rattle.tests_table.proofs.shares.is_counted.Goals as goal

pub more_and_back-more-requires-clause-held : goal.more_and_back-more-requires-clause-held
more_and_back-more-requires-clause-held g c =
    came_held c.args.pass.now.view c.leaf.new.pass.view c.in-Ok.share 1 c.in-Ok.ensures.taken

pub more_and_back-more-requires-clause-room : goal.more_and_back-more-requires-clause-room
more_and_back-more-requires-clause-room g c =
    let le = came_number c.args.pass.now.view c.leaf.new.pass.view c.in-Ok.share 1 3000
    c.in-Ok.ensures.taken c.requires.room in omega arith

pub kept_and_back-kept-requires-clause-held : goal.kept_and_back-kept-requires-clause-held
kept_and_back-kept-requires-clause-held g c =
    let m = c.leaf.new.pass.view in let w = c.more_and_back-more.new.pass.view in
    subst (λ (n : Name). HoldsName w.held n) (sym c.name.ensures)
    (still_held m.held w.held c.in-Ok.share c.more_and_back-more.ensures.held
    (came_held c.args.pass.now.view m c.in-Ok.share 1 c.in-Ok.ensures.taken))

pub kept_and_back-kept-requires-clause-room : goal.kept_and_back-kept-requires-clause-room
kept_and_back-kept-requires-clause-room g c =
    let m = c.leaf.new.pass.view in
    let le = came_number c.args.pass.now.view m c.in-Ok.share 1 3000 c.in-Ok.ensures.taken
    c.requires.room in
    still_few m.held c.more_and_back-more.new.pass.view.held 3500
    c.more_and_back-more.ensures.held (omega arith)

pub give-freed-requires-clause-held : goal.give-freed-requires-clause-held
give-freed-requires-clause-held g c =
    let m = c.leaf.new.pass.view in let k = c.more_and_back-more.new.pass.view in
    let w = c.kept_and_back-kept.new.pass.view in
    still_held m.held w.held c.in-Ok.share
    (same_on m.held k.held w.held c.more_and_back-more.ensures.held c.kept_and_back-kept.ensures.held)
    (came_held c.args.pass.now.view m c.in-Ok.share 1 c.in-Ok.ensures.taken)

pub give-freed-requires-clause-room : goal.give-freed-requires-clause-room
give-freed-requires-clause-room g c =
    let m = c.leaf.new.pass.view in let k = c.more_and_back-more.new.pass.view in
    let w = c.kept_and_back-kept.new.pass.view in
    let le = came_number c.args.pass.now.view m c.in-Ok.share 1 3000 c.in-Ok.ensures.taken
    c.requires.room in
    still_few m.held w.held 4000
    (same_on m.held k.held w.held c.more_and_back-more.ensures.held c.kept_and_back-kept.ensures.held)
    (omega arith)

pub returns-in-Ok-clause-held : goal.returns-in-Ok-clause-held
returns-in-Ok-clause-held g c =
    let m = c.leaf.new.pass.view in let k = c.more_and_back-more.new.pass.view in
    let w = c.kept_and_back-kept.new.pass.view in
    kept_and_given c.args.pass.now.view m w c.give-freed.new.pass.view c.in-Ok.share 1
    c.in-Ok.ensures.taken
    (same_on m.held k.held w.held c.more_and_back-more.ensures.held c.kept_and_back-kept.ensures.held)
    c.give-freed.ensures.given
