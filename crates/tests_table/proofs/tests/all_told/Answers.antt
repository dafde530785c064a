use Rattle.std.proofs.Common.{◌+◌, ◌∙◌, ap, subst, arith}
use Rattle.node_words.specs.Held.{SameHeld}
use Rattle.table_rule.specs.LogViews.{LogView}
use Rattle.tests_table.proofs.Giving.{came_held, came_number, few_held, kept_and_given, nothing_held, still_few, still_held}
use Rattle.tests_table.proofs.tests.all_told.Goals as goal

pub leaf-requires-clause-room : goal.leaf-requires-clause-room
leaf-requires-clause-room g c = let few = few_held _ c.requires.first.held in omega arith

pub shared_told-told-requires-clause-first_room : goal.shared_told-told-requires-clause-first_room
shared_told-told-requires-clause-first_room g c =
    let few = came_number c.args.a.now.view c.leaf.new.pass.view c.in-Ok.share 1 3000
    c.in-Ok.ensures.taken (few_held _ c.requires.first.held) in
    omega arith

pub shared_told-told-requires-clause-second_room : goal.shared_told-told-requires-clause-second_room
shared_told-told-requires-clause-second_room g c =
    let few = few_held _ c.requires.second.held in omega arith

pub back-requires-clause-room : goal.back-requires-clause-room
back-requires-clause-room g c =
    let came = came_number c.args.a.now.view c.leaf.new.pass.view c.in-Ok.share 1 3000
    c.in-Ok.ensures.taken (few_held _ c.requires.first.held) in
    let few = still_few c.leaf.new.pass.view.held c.shared_told-told.new.a.view.held (3000 + 1)
    c.shared_told-told.ensures.first_held came in
    omega arith

pub back-requires-clause-held : goal.back-requires-clause-held
back-requires-clause-held g c =
    still_held c.leaf.new.pass.view.held
    c.shared_told-told.new.a.view.held c.in-Ok.share c.shared_told-told.ensures.first_held
    (came_held c.args.a.now.view c.leaf.new.pass.view c.in-Ok.share 1 c.in-Ok.ensures.taken)

pub returns-in-Ok-clause-first : goal.returns-in-Ok-clause-first
returns-in-Ok-clause-first g c = record {
  of = c.back.ensures.of;
  turn = c.back.ensures.only.turn;
  log_turn =
      ap (λ (l : LogView). l.turn)
      (c.back.ensures.only.log ∙ c.shared_told-told.ensures.first_log ∙ c.in-Ok.ensures.taken.log)
      ∙ c.requires.first.log_turn;
  held =
      nothing_held _
      (subst (λ ts. SameHeld ts c.back.new.pass.view.held) c.requires.first.held
      (kept_and_given (c.args.a.now.view) (c.leaf.new.pass.view) (c.shared_told-told.new.a.view)
      (c.back.new.pass.view) c.in-Ok.share 1 c.in-Ok.ensures.taken
      c.shared_told-told.ensures.first_held c.back.ensures.held));
}

pub returns-in-Ok-clause-second : goal.returns-in-Ok-clause-second
returns-in-Ok-clause-second g c = record {
  of = c.shared_told-told.ensures.second;
  turn = c.shared_told-told.ensures.second_idle;
  log_turn =
      ap (λ (l : LogView). l.turn) c.shared_told-told.ensures.second_log
      ∙ c.requires.second.log_turn;
  held =
      nothing_held _
      (subst (λ ts. SameHeld ts c.shared_told-told.new.b.view.held) c.requires.second.held
      c.shared_told-told.ensures.second_held);
}
