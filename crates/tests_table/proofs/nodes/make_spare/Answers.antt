use Rattle.std.proofs.Common.{◌∙◌, ap, subst}
use Rattle.node_words.specs.Held.{SameHeld}
use Rattle.table_rule.specs.LogViews.{LogView}
use Rattle.tests_table.proofs.Giving.{nothing_held, few_held}
use Rattle.tests_table.proofs.nodes.make_spare.Goals as goal

pub make_often-requires-clause-room : goal.make_often-requires-clause-room
make_often-requires-clause-room g c = few_held _ c.requires.spare.held

pub returns : goal.returns
returns g c = record {
  of = c.make_often.ensures.of;
  turn = c.make_often.ensures.idle;
  log_turn = ap (λ (l : LogView). l.turn) c.make_often.ensures.log ∙ c.requires.spare.log_turn;
  held = nothing_held _
      (subst (λ ts. SameHeld ts c.make_often.new.pass.view.held) c.requires.spare.held
      c.make_often.ensures.held);
}
