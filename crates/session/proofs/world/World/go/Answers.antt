use Rattle.std.proofs.Common.{rules}
use Rattle.version_log.proofs.UndoLaws.{other_fits}
use Rattle.session.proofs.GoLaws.{gone_held, gone_room, nothing_held, way_few, way_room, went_done, went_late, went_nowhere}
use Rattle.session.proofs.KeepLaws.{fallen_back}
use Rattle.session.proofs.SurelyLaws.{few_behind, finish_full}
use Rattle.session.proofs.world.World.go.Goals as goal

pub find_undo_target-requires-clause-room : goal.find_undo_target-requires-clause-room
find_undo_target-requires-clause-room g c =
    few_behind c.args.s.now.view.held c.take.new.s.view.held c.take.ensures.held c.requires.ready.room

pub finish-requires-clause-room : goal.finish-requires-clause-room
finish-requires-clause-room g c =
    way_few c.args.s.now.view c.take.new.s.view c.find_undo_target.new.s.view c.in-Ok.field-0.root
    c.take.ensures.held c.in-Ok.ensures.came.gains c.requires.ready.room

-- the share of the version that fell out goes back
pub give_root-requires-clause-held : goal.give_root-requires-clause-held
give_root-requires-clause-held g c =
    fallen_back _ c.args.line c.args.act.now _ c.in-Ok-finish.field-0 c.find_undo_target.new.s.view
    c.finish.new.s.view c.in-Ok-finish.ensures.came

pub returns-in-Ok-finish-clause-told : goal.returns-in-Ok-finish-clause-told
returns-in-Ok-finish-clause-told g c =
    went_done c.args.self.now c.args.line c.args.act.now c.args.s.now.view c.take.new.s.view
    c.find_undo_target.new.s.view c.take.ensures.looks.looks c.find_undo_target.ensures.looks.looks
    c.in-Ok.field-0.root c.in-Ok-finish.field-0 c.finish.new.s.view
    c.give_root.new.s.view c.in-Ok-finish.ensures.came c.give_root.ensures.seen

pub returns-in-Err-clause-told : goal.returns-in-Err-clause-told
returns-in-Err-clause-told g c =
    went_nowhere c.args.self.now c.args.line c.args.act.now c.args.s.now.view c.take.new.s.view
    c.find_undo_target.new.s.view c.take.ensures.looks.looks c.find_undo_target.ensures.looks.looks
    c.in-Err.answer c.leave.new.s.view (c.in-Err.ensures.came.told c.args.line) c.leave.ensures.seen

pub returns-in-Err-LogFull-clause-told : goal.returns-in-Err-LogFull-clause-told
returns-in-Err-LogFull-clause-told g c =
    went_late c.args.self.now c.args.line c.args.act.now c.args.s.now.view c.take.new.s.view
    c.find_undo_target.new.s.view c.take.ensures.looks.looks c.find_undo_target.ensures.looks.looks c.requires.other
    c.finish.new.s.view c.give_root-in-Err-LogFull.new.s.view
    (finish_full _ _ c.finish.new.s.view c.in-Err-LogFull.ensures.came.refused)
    c.in-Ok.ensures.came.found c.in-Err-LogFull.ensures.came.seen c.give_root-in-Err-LogFull.ensures.seen

pub finish-requires-clause-may : goal.finish-requires-clause-may
finish-requires-clause-may g c =
    record {
      fits = other_fits _ _ c.args.act.now c.requires.other;
      target = c.in-Ok.ensures.came.target;
      known = c.in-Ok.ensures.came.known;
      made = c.in-Ok.ensures.came.made;
    }

pub returns-in-Ok-finish-clause-calls : goal.returns-in-Ok-finish-clause-calls
returns-in-Ok-finish-clause-calls g c =
    record {
      rest = c.give_root.ensures.back.rest;
      same = search rules;
      held = gone_held c.args.s.now.view c.take.new.s.view c.find_undo_target.new.s.view c.in-Ok.field-0.root
          c.take.ensures.held c.in-Ok.ensures.came.gains _ c.args.line c.args.act.now
          c.in-Ok-finish.field-0 c.finish.new.s.view c.give_root.new.s.view
          c.in-Ok-finish.ensures.came c.give_root.ensures.gone;
    }

pub returns-in-Err-clause-calls : goal.returns-in-Err-clause-calls
returns-in-Err-clause-calls g c =
    record {
      rest = c.leave.ensures.back.rest;
      same = search rules;
      held = nothing_held c.args.s.now.view c.take.new.s.view c.find_undo_target.new.s.view c.leave.new.s.view
          c.take.ensures.held c.in-Err.ensures.came.kept c.leave.ensures.held;
    }

pub give_root-requires-clause-ready : goal.give_root-requires-clause-ready
give_root-requires-clause-ready g c =
    record {
      rest = c.finish.ensures.back.rest;
      room = gone_room c.args.s.now.view c.take.new.s.view c.find_undo_target.new.s.view c.in-Ok.field-0.root
          c.take.ensures.held c.in-Ok.ensures.came.gains _ c.args.line c.args.act.now
          c.in-Ok-finish.field-0 c.finish.new.s.view c.in-Ok-finish.ensures.came c.requires.ready.room;
    }

pub give_root-requires-in-Err-LogFull-clause-ready : goal.give_root-requires-in-Err-LogFull-clause-ready
give_root-requires-in-Err-LogFull-clause-ready g c =
    record {
      rest = c.finish.ensures.back.rest;
      room = way_room c.args.s.now.view c.take.new.s.view c.find_undo_target.new.s.view c.in-Ok.field-0.root
          c.take.ensures.held c.in-Ok.ensures.came.gains c.finish.new.s.view
          c.in-Err-LogFull.ensures.came.kept c.requires.ready.room;
    }
