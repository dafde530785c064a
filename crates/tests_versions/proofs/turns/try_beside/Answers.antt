use Rattle.std.proofs.Common.{rules, sym, ap, ◌∙◌, subst}
use Rattle.table_rule.specs.Views.{SeatView}
use Rattle.node_table.specs.Closing.{IsSpare}
use Rattle.node_table.specs.TableStates.{PassState}
use Rattle.tests_versions.specs.Uniform.{uniform_act}
use Rattle.tests_versions.proofs.HoldingLaws.{back_few, fell_few, few_behind, few_taken, gone_whole, made_act, spare_behind}
use Rattle.tests_versions.proofs.turns.try_beside.Goals.{in-Ok, in-Err-LogFull}
use Rattle.tests_versions.proofs.turns.try_beside.Goals as goal

pub finish-requires-clause-room : goal.finish-requires-clause-room
finish-requires-clause-room g c =
    few_taken c.uniform_root-own.new.pass.view c.sure-turn.result.pass.now.view
    c.sure-turn.ensures.takes (back_few _ _ _ c.uniform_root-own.ensures)

pub finish-requires-clause-may : goal.finish-requires-clause-may
finish-requires-clause-may g c =
    record {
      fits = search rules;
      target = search rules;
      known = search rules;
      made = made_act _ _ _ c.uniform_root-own.ensures _ _ c.sure-turn.ensures.takes
          (c.act_behind-act.ensures ∙ ap uniform_act c.name_of.ensures);
    }

pub fallen_back-requires-clause-room : goal.fallen_back-requires-clause-room
fallen_back-requires-clause-room g c =
    let made = c.in-Ok.ensures.came in
    few_behind _ _ (search rules)
    (fell_few _ _ _ _ _ _ _ made
    (gone_whole _ _ _ c.uniform_root-own.ensures _ _ _ _ _
    (ap (λ (x : SeatView). x.held) c.sure-turn.ensures.takes.is) made.appends))

pub returns-clause-first : goal.returns-clause-first
returns-clause-first g c = elim c.match-finish.branch [
  | in-Ok w ↦
      let made = w.in-Ok.ensures.came in
      subst (λ (s : PassState). IsSpare c.args.table.now s) (sym w.a-is)
      (spare_behind _ _ _ _ _ _ _ _ _ _ made
      (gone_whole _ _ _ c.uniform_root-own.ensures _ _ _ _ _
      (ap (λ (x : SeatView). x.held) c.sure-turn.ensures.takes.is) made.appends)
      (search rules) w.fallen_back.ensures.of w.fallen_back.ensures.idle
      w.fallen_back.ensures.gone)
  | in-Err-LogFull w ↦
      subst (λ (s : PassState). IsSpare c.args.table.now s) (sym w.a-is) w.all_back.ensures
]
