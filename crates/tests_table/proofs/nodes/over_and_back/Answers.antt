use Rattle.std.proofs.Common.{◌≡◌, ◌∙◌, Option, List, refl, sym, ap, subst, arith}
use Rattle.std.proofs.lemmas.Option.{same_Some}
use Rattle.node_words.specs.declared.shapes.names.Name.{Name}
use Rattle.node_words.specs.shapes.Tree.{Tree, node_at}
use Rattle.node_words.specs.shapes.Weights.{number_of_trees}
use Rattle.node_words.specs.Gathering.{MayHold}
use Rattle.node_words.specs.Held.{Gains, HoldsName, name_in}
use Rattle.tests_table.proofs.Overs.{first_row, first_held, over_held, over_name, over_number, over_went, may_be}
use Rattle.tests_table.proofs.nodes.over_and_back.Goals as goal

pub node-requires-clause-held : goal.node-requires-clause-held
node-requires-clause-held g c =
    let h = c.requires.held in
    record {
      row = first_row h.tree;
      are_held = first_held c.args.pass.now.view.held h.tree c.args.leaf h.is_held h.root;
    }

pub told_and_back-told-requires-clause-idle : goal.told_and_back-told-requires-clause-idle
told_and_back-told-requires-clause-idle g c =
    let h = c.requires.held in
    (c.in-Ok.ensures.taken (first_row h.tree)
    (first_held c.args.pass.now.view.held h.tree c.args.leaf h.is_held h.root)).turn

pub told_and_back-told-requires-clause-held : goal.told_and_back-told-requires-clause-held
told_and_back-told-requires-clause-held g c =
    let v = c.args.pass.now.view.held in let h = c.requires.held in let n = c.args.leaf in
    over_name v c.node.new.pass.view.held h.tree n c.in-Ok.node h.is_held h.root
    (c.in-Ok.ensures.taken (first_row h.tree) (first_held v h.tree n h.is_held h.root)).joins

pub told_and_back-told-requires-clause-level : goal.told_and_back-told-requires-clause-level
told_and_back-told-requires-clause-level g c =
    let h = c.requires.held in
    (c.in-Ok.ensures.taken (first_row h.tree)
    (first_held c.args.pass.now.view.held h.tree c.args.leaf h.is_held h.root)).level_is

pub told_and_back-told-requires-clause-room : goal.told_and_back-told-requires-clause-room
told_and_back-told-requires-clause-room g c =
    let v = c.args.pass.now.view.held in let h = c.requires.held in let n = c.args.leaf in
    let le = over_number v c.node.new.pass.view.held h.tree n c.in-Ok.node 3500 h.root
    (c.in-Ok.ensures.taken (first_row h.tree) (first_held v h.tree n h.is_held h.root)).joins
    c.requires.room in
    omega arith

pub returns-in-Ok-clause-given : goal.returns-in-Ok-clause-given
returns-in-Ok-clause-given g c = λ t held root.
    (let v = c.args.pass.now.view.held in let w = c.node.new.pass.view.held in
    let n = c.args.leaf in let m = c.in-Ok.node in
    let joins = (c.in-Ok.ensures.taken (first_row t) (first_held v t n held root)).joins in
    over_went v w c.told_and_back-told.new.pass.view.held t n m root joins
    (c.told_and_back-told.ensures.held (node_at m (first_row t)) (over_held v w t n m held root joins) refl))

pub back_first-requires-clause-idle : goal.back_first-requires-clause-idle
back_first-requires-clause-idle g c =
    let h = c.requires.held in
    (c.in-Err.ensures.taken (first_row h.tree)
    (first_held c.args.pass.now.view.held h.tree c.args.leaf h.is_held h.root)).turn

pub back_first-requires-clause-held : goal.back_first-requires-clause-held
back_first-requires-clause-held g c = λ m e.
    (let v = c.args.pass.now.view.held in let w = c.node.new.pass.view.held in
    let h = c.requires.held in let n = c.args.leaf in
    let r = c.in-Err.ensures.taken (first_row h.tree) (first_held v h.tree n h.is_held h.root) in
    let first = ap (λ (cs : List (Option Name)). name_in cs 0) c.in-Err.ensures.back in
    let same : n ≡ m = same_Some n m (sym first ∙ e) in
    subst (λ (x : Name). HoldsName w x) same
    (subst (λ (ts : List Tree). HoldsName ts n) (sym r.meets.held) h))

pub back_first-requires-clause-room : goal.back_first-requires-clause-room
back_first-requires-clause-room g c =
    let v = c.args.pass.now.view.held in let h = c.requires.held in let n = c.args.leaf in
    let r = c.in-Err.ensures.taken (first_row h.tree) (first_held v h.tree n h.is_held h.root) in
    let same = ap (λ (ts : List Tree). number_of_trees ts) r.meets.held in
    let room = c.requires.room in omega arith

pub returns-in-Err-clause-given : goal.returns-in-Err-clause-given
returns-in-Err-clause-given g c = λ t held root.
    (let v = c.args.pass.now.view.held in let z = c.back_first.new.pass.view.held in
    let n = c.args.leaf in
    let r = c.in-Err.ensures.taken (first_row t) (first_held v t n held root) in
    let first = ap (λ (cs : List (Option Name)). name_in cs 0) c.in-Err.ensures.back in
    subst (λ (ts : List Tree). Gains z t ts) r.meets.held
    (c.back_first.ensures.gone t n first root
    (subst (λ (ts : List Tree). MayHold ts t) (sym r.meets.held) (may_be v t n held root))))

pub returns-in-Ok-clause-log : goal.returns-in-Ok-clause-log
returns-in-Ok-clause-log g c =
    let h = c.requires.held in
    c.told_and_back-told.ensures.log
    ∙ (c.in-Ok.ensures.taken (first_row h.tree)
    (first_held c.args.pass.now.view.held h.tree c.args.leaf h.is_held h.root)).log

pub returns-in-Err-clause-log : goal.returns-in-Err-clause-log
returns-in-Err-clause-log g c =
    let h = c.requires.held in
    c.back_first.ensures.log
    ∙ (c.in-Err.ensures.taken (first_row h.tree)
    (first_held c.args.pass.now.view.held h.tree c.args.leaf h.is_held h.root)).log
