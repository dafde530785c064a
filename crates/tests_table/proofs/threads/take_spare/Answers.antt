use Rattle.std.proofs.Common.{◌∙◌, ap, subst}
use Rattle.node_words.specs.Held.{SameHeld}
use Rattle.table_rule.specs.LogViews.{LogView}
use Rattle.tests_table.proofs.Giving.{nothing_held, few_held}
use Rattle.tests_table.proofs.threads.take_spare.Goals as goal

pub take_often-requires-clause-room : goal.take_often-requires-clause-room
take_often-requires-clause-room g c = few_held _ c.requires.held

pub returns : goal.returns
returns g c = record {
  of = c.take_often.ensures.of;
  turn = c.take_often.ensures.idle;
  log_turn = ap (λ (l : LogView). l.turn) c.take_often.ensures.log ∙ c.requires.log_turn;
  held = nothing_held _ (subst (λ ts. SameHeld ts c.take_often.new.pass.view.held) c.requires.held
      c.take_often.ensures.held);
}
