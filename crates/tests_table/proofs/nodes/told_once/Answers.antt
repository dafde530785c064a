use Rattle.std.proofs.Common.{◌∙◌, ap, subst, arith}
use Rattle.node_words.specs.Held.{SameHeld}
use Rattle.table_rule.specs.LogViews.{LogView}
use Rattle.tests_table.proofs.Giving.{nothing_held, few_held}
use Rattle.tests_table.proofs.nodes.told_once.Goals as goal

pub comes_over-requires-clause-room : goal.comes_over-requires-clause-room
comes_over-requires-clause-room g c =
    let few = few_held _ c.requires.spare.held in omega (arith, few)

pub returns : goal.returns
returns g c = record {
  of = c.comes_over.ensures.of;
  turn = c.comes_over.ensures.idle;
  log_turn = ap (λ (l : LogView). l.turn) c.comes_over.ensures.log ∙ c.requires.spare.log_turn;
  held = nothing_held _
      (subst (λ ts. SameHeld ts c.comes_over.new.pass.view.held) c.requires.spare.held
      c.comes_over.ensures.held);
}
