use Rattle.std.proofs.Common.{◌∙◌, ap, subst}
use Rattle.node_words.specs.Held.{SameHeld}
use Rattle.table_rule.specs.LogViews.{LogView}
use Rattle.tests_table.proofs.Giving.{nothing_held, few_held}
use Rattle.tests_table.proofs.tests.return_spare.Goals as goal

pub return_often-requires-clause-room : goal.return_often-requires-clause-room
return_often-requires-clause-room g c = few_held _ c.requires.held

pub returns : goal.returns
returns g c = record {
  of = c.return_often.ensures.of;
  turn = c.return_often.ensures.idle;
  log_turn = ap (λ (l : LogView). l.turn) c.return_often.ensures.log ∙ c.requires.log_turn;
  held = nothing_held _ (subst (λ ts. SameHeld ts c.return_often.new.pass.view.held) c.requires.held
      c.return_often.ensures.held);
}
