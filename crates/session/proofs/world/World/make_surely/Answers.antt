use Rattle.std.proofs.Common.{rules, ◌∙◌}
use Rattle.session.proofs.KeepLaws.{commits_as, fallen_back}
use Rattle.session.proofs.SurelyLaws.{done_held, done_made, done_room, full_held, full_made, late_room, made_few}
use Rattle.session.proofs.TurnLaws.{log_lends, log_lent}
use Rattle.session.proofs.world.World.make_surely.Goals as goal

pub make_next-requires-clause-ready : goal.make_next-requires-clause-ready
make_next-requires-clause-ready g c =
    log_lends c.args.self.now.table c.args.s.now c.requires.turn

pub finish-requires-clause-turn : goal.finish-requires-clause-turn
finish-requires-clause-turn g c =
    log_lent c.args.self.now.table c.args.s.now c.make_next.new.s c.requires.turn
    c.make_next.ensures.stays

pub finish-requires-clause-room : goal.finish-requires-clause-room
finish-requires-clause-room g c =
    made_few c.args.self.now c.args.line (g.M.ActMaker.act c.args.maker.now) _
    c.args.s.now.view c.make_next.new.s.view c.in-Ok.ensures.made c.requires.head.room

pub leave-at-requires : goal.leave-at-requires
leave-at-requires g c =
    record {
      turn = log_lent c.args.self.now.table c.args.s.now c.make_next.new.s c.requires.turn
          c.make_next.ensures.stays;
    }

-- the share of the version that fell out goes back
pub give_root-requires-clause-held : goal.give_root-requires-clause-held
give_root-requires-clause-held g c =
    fallen_back _ c.args.line _ _ c.in-Ok-finish.field-0 c.make_next.new.s.view
    c.finish.new.s.view c.in-Ok-finish.ensures.came

pub returns-in-Ok-finish-clause-told : goal.returns-in-Ok-finish-clause-told
returns-in-Ok-finish-clause-told g c =
    done_made c.args.self.now c.args.line (g.M.ActMaker.act c.args.maker.now) _
    c.args.s.now.view c.make_next.new.s.view c.in-Ok.ensures.made c.finish.new.s.view
    c.give_root.new.s.view c.in-Ok-finish.field-0
    (commits_as _ _ _ _ c.act.result (g.M.ActMaker.act c.args.maker.now) _ _
    (c.act.ensures.value ∙ c.make_next.ensures.edit.act_is) c.in-Ok-finish.ensures.came)
    c.give_root.ensures.seen

pub returns-in-Err-clause-told : goal.returns-in-Err-clause-told
returns-in-Err-clause-told g c =
    full_made c.args.self.now c.args.line (g.M.ActMaker.act c.args.maker.now)
    c.args.s.now.view c.make_next.new.s.view c.in-Err.full c.in-Err.ensures.made
    c.leave-at.new.s.view c.leave-at.result c.leave-at.ensures.at c.leave-at.ensures.seen

pub returns-in-Ok-finish-clause-calls : goal.returns-in-Ok-finish-clause-calls
returns-in-Ok-finish-clause-calls g c =
    record {
      rest = c.give_root.ensures.back.rest;
      same = search rules;
      held = done_held c.args.self.now c.args.line (g.M.ActMaker.act c.args.maker.now) _
          c.args.s.now.view c.make_next.new.s.view c.in-Ok.ensures.made c.finish.new.s.view
          c.give_root.new.s.view c.in-Ok-finish.field-0
          (commits_as _ _ _ _ c.act.result (g.M.ActMaker.act c.args.maker.now) _ _
          (c.act.ensures.value ∙ c.make_next.ensures.edit.act_is) c.in-Ok-finish.ensures.came)
          c.give_root.ensures.gone;
    }

pub returns-in-Err-clause-calls : goal.returns-in-Err-clause-calls
returns-in-Err-clause-calls g c =
    record {
      rest = c.leave-at.ensures.back.rest;
      same = search rules;
      held = full_held c.args.self.now c.args.line (g.M.ActMaker.act c.args.maker.now)
          c.args.s.now.view c.make_next.new.s.view c.in-Err.full c.in-Err.ensures.made
          c.leave-at.new.s.view c.leave-at.ensures.held;
    }

pub give_root-requires-clause-ready : goal.give_root-requires-clause-ready
give_root-requires-clause-ready g c =
    record {
      rest = c.finish.ensures.back.rest;
      room = done_room c.args.self.now c.args.line (g.M.ActMaker.act c.args.maker.now) _
          c.args.s.now.view c.make_next.new.s.view c.in-Ok.ensures.made c.finish.new.s.view
          c.in-Ok-finish.field-0
          (commits_as _ _ _ _ c.act.result (g.M.ActMaker.act c.args.maker.now) _ _
          (c.act.ensures.value ∙ c.make_next.ensures.edit.act_is) c.in-Ok-finish.ensures.came) c.requires.head.room;
    }

pub give_root-requires-in-Err-LogFull-clause-ready : goal.give_root-requires-in-Err-LogFull-clause-ready
give_root-requires-in-Err-LogFull-clause-ready g c =
    record {
      rest = c.finish.ensures.back.rest;
      room = late_room c.args.self.now c.args.line (g.M.ActMaker.act c.args.maker.now) c.in-Ok.root
          c.args.s.now.view c.make_next.new.s.view c.in-Ok.ensures.made c.finish.new.s.view
          c.in-Err-LogFull.ensures.came.kept c.requires.head.room;
    }
