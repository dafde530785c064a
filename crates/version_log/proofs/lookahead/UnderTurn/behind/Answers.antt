use Rattle.std.proofs.Common.{◌≡◌, sym, ◌∙◌, ap, List}
use Rattle.history_model.specs.declared.histories.Record.{Record}
use Rattle.history_model.specs.Worlds.{is_edit}
use Rattle.undo.specs.Standings.{version_of}
use Rattle.version_log.specs.Targets.{act_target}
use Rattle.version_log.proofs.WordLaws.{looked_behind}
use Rattle.version_log.proofs.lookahead.UnderTurn.behind.Goals as goal

pub returns-in-Undo-clause-finds : goal.returns-in-Undo-clause-finds
returns-in-Undo-clause-finds c =
    let records : List Record = c.args.self.now.pass.now.view.log.seen.records in
    let top : version_of c.behind_undo.result ≡ act_target records c.args.act.now =
    c.behind_undo.ensures.top ∙ sym (ap (act_target records) c.in-Undo.is)
    in
    record {
      target = top;
      behind = looked_behind records c.args.act.now c.behind_undo.result (ap is_edit c.in-Undo.is)
          c.tell.ensures.log.few top c.behind_undo.ensures.last;
    }

pub returns-in-Redo-clause-finds : goal.returns-in-Redo-clause-finds
returns-in-Redo-clause-finds c =
    let records : List Record = c.args.self.now.pass.now.view.log.seen.records in
    let top : version_of c.behind_redo.result ≡ act_target records c.args.act.now =
    c.behind_redo.ensures.top ∙ sym (ap (act_target records) c.in-Redo.is)
    in
    record {
      target = top;
      behind = looked_behind records c.args.act.now c.behind_redo.result (ap is_edit c.in-Redo.is)
          c.tell.ensures.log.few top c.behind_redo.ensures.last;
    }
