use Rattle.std.proofs.Common.{Some, ◌∙◌, subst, Option}
use Rattle.node_words.specs.declared.shapes.names.Name.{Name}
use Rattle.node_words.specs.shapes.Tree.{child_of}
use Rattle.node_words.proofs.GatherLaws.{none_loses}
use Rattle.node_table.proofs.OnlyShares.{only_held}
use Rattle.intern.specs.Nodes.{IsHeldBelow}
use Rattle.intern.proofs.GivingLaws.{kept_name, kept_tree, kept_not_freed, gave_one, may_held}
use Rattle.intern.proofs.giving.give_kept.Goals as goal

pub lower_in_turn-requires-clause-held : goal.lower_in_turn-requires-clause-held
lower_in_turn-requires-clause-held g c =
    let v = c.args.pass.now.view in
    kept_name v c.in-Some.share
    (subst (λ (o : Option Name). IsHeldBelow v.held o) c.in-Some.is c.requires.kept)

pub unreachable-requires : goal.unreachable-requires
unreachable-requires g c =
    let v = c.args.pass.now.view in let n = c.in-Some.share in
    let kept : IsHeldBelow v.held (Some n) =
    subst (λ (o : Option Name). IsHeldBelow v.held o) c.in-Some.is c.requires.kept in
    kept_not_freed v n kept c.lower_in_turn.new.pass.view
    (c.in-Freed.ensures.lowered (child_of kept.over kept.octant) (kept_tree v n kept) kept.root).0

pub returns-in-Left-clause-only : goal.returns-in-Left-clause-only
returns-in-Left-clause-only g c =
    let v = c.args.pass.now.view in let n = c.in-Some.share in
    let kept : IsHeldBelow v.held (Some n) =
    subst (λ (o : Option Name). IsHeldBelow v.held o) c.in-Some.is c.requires.kept in
    let e = c.in-Left.ensures.lowered (child_of kept.over kept.octant) (kept_tree v n kept)
    kept.root in
    only_held v c.lower_in_turn.new.pass.view e.held e.is

pub returns-in-Left-clause-loses : goal.returns-in-Left-clause-loses
returns-in-Left-clause-loses g c = λ t root may.
    (let v = c.args.pass.now.view in let n = c.in-Some.share in let is = root ∙ c.in-Some.is in
    gave_one v c.lower_in_turn.new.pass.view t n is
    (c.in-Left.ensures.lowered t (may_held v.held t n is may) is))

pub returns-in-None-clause-loses : goal.returns-in-None-clause-loses
returns-in-None-clause-loses g c = λ t root may.
    none_loses c.args.pass.now.view.held t (root ∙ c.in-None.is)
