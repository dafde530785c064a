use Rattle.std.proofs.Common.{sym, ◌∙◌}
use Rattle.node_words.proofs.OfContents.CellShapeLaws.{shape_with-none, shape_with-same}
use Rattle.edit_walk.proofs.OutcomeLaws.{standing_none}
use Rattle.edit_walk.proofs.walks.told_of.Goals as goal

pub returns-in-Nothing-clause-told : goal.returns-in-Nothing-clause-told
returns-in-Nothing-clause-told g c base rest cells k m r =
    standing_none rest c.args.level _ (shape_with-none c.args.level cells
    (c.in-Nothing.ensures.whole base cells m))

pub returns-in-Some-clause-told : goal.returns-in-Some-clause-told
returns-in-Some-clause-told g c base rest cells k m r =
    let d = r.each c.args.level c.in-Some.kept c.in-Some.ensures.kept in
    record {
      tree = d.tree;
      of = d.of;
      shape = d.shape ∙ sym (shape_with-same c.args.level cells d.cells
          (c.in-Some.ensures.same base c.args.level cells d.cells m d.made));
    }
