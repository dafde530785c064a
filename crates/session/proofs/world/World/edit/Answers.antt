use Rattle.std.proofs.Common.{refl, rules}
use Rattle.conformance.specs.declared.sessions.calls.ActAnswer.TheVariants as acts
use Rattle.session.proofs.ActLaws.{maker_on}
use Rattle.session.proofs.CommitLaws.{held_on}
use Rattle.session.proofs.EditLaws.{act_told, again_answers, answers_as, base_back, base_gone, base_room, full_answers_on, pinned_answers, pinned_room, still_few, two_few, two_room}
use Rattle.session.proofs.SurelyLaws.{gets_keeps}
use Rattle.session.proofs.world.World.edit.Goals as goal

pub give_root-requires-in-Err-2-clause-held : goal.give_root-requires-in-Err-2-clause-held
give_root-requires-in-Err-2-clause-held g c =
    base_back c.args.s.now.view c.pin_head-base.new.s.view c.pin_head-base.result.root
    c.pin_head-base.ensures.gains c.give_root-in-Err.new.s.view _ (search rules)
    (base_gone c.pin_head-base.new.s.view c.attempt.new.s.view _ c.in-Err.ensures.comes.gains
    c.edit_surely-answer.new.s.view c.give_root-in-Err.new.s.view c.in-Err.field-0.root refl
    c.edit_surely-answer.ensures.calls.held c.give_root-in-Err.ensures.gone)

pub returns-in-Ok-clause-told : goal.returns-in-Ok-clause-told
returns-in-Ok-clause-told g c =
    answers_as c.args.self.now c.args.line c.args.act.now _ _ c.args.s.now.view
    c.give_root.new.s.view c.requires.act
    (act_told c.args.self.now c.args.line _ _ _ c.args.s.now.view c.give_root.new.s.view
    c.act_answer.ensures
    (pinned_answers c.args.self.now c.args.line _ _ c.args.s.now.view
    c.pin_head-base.new.s.view c.attempt.new.s.view c.give_root.new.s.view
    c.pin_head-base.ensures.looks c.in-Ok.ensures.comes.1 c.give_root.ensures.seen))

pub surely_anew-requires-clause-ready : goal.surely_anew-requires-clause-ready
surely_anew-requires-clause-ready g c =
    record {
      rest = c.give_root-in-Err-2.ensures.back.rest;
      room = still_few c.args.s.now.view.held c.give_root-in-Err-2.new.s.view.held
          (base_gone c.args.s.now.view c.pin_head-base.new.s.view c.pin_head-base.result.root
          c.pin_head-base.ensures.gains c.give_root-in-Err.new.s.view
          c.give_root-in-Err-2.new.s.view _ (search rules)
          (base_gone c.pin_head-base.new.s.view c.attempt.new.s.view _
          c.in-Err.ensures.comes.gains c.edit_surely-answer.new.s.view
          c.give_root-in-Err.new.s.view c.in-Err.field-0.root refl
          c.edit_surely-answer.ensures.calls.held c.give_root-in-Err.ensures.gone)
          c.give_root-in-Err-2.ensures.gone) c.requires.ready.room;
    }

pub returns-in-Full-clause-calls : goal.returns-in-Full-clause-calls
returns-in-Full-clause-calls g c =
    record {
      rest = c.surely_anew.ensures.calls.rest;
      same = search rules;
      held = held_on c.args.s.now.view.held c.give_root-in-Err-2.new.s.view.held
          c.surely_anew.new.s.view.held
          (base_gone c.args.s.now.view c.pin_head-base.new.s.view c.pin_head-base.result.root
          c.pin_head-base.ensures.gains c.give_root-in-Err.new.s.view
          c.give_root-in-Err-2.new.s.view _ (search rules)
          (base_gone c.pin_head-base.new.s.view c.attempt.new.s.view _
          c.in-Err.ensures.comes.gains c.edit_surely-answer.new.s.view
          c.give_root-in-Err.new.s.view c.in-Err.field-0.root refl
          c.edit_surely-answer.ensures.calls.held c.give_root-in-Err.ensures.gone)
          c.give_root-in-Err-2.ensures.gone) c.surely_anew.ensures.calls.held;
    }

pub returns-in-Full-clause-told : goal.returns-in-Full-clause-told
returns-in-Full-clause-told g c =
    full_answers_on c.args.self.now c.args.line c.args.act.now _ c.in-Full.at
    c.in-Full.full c.args.s.now.view c.give_root-in-Err-2.new.s.view c.surely_anew.new.s.view (search rules)
    (answers_as c.args.self.now c.args.line c.args.act.now _
    (acts.Full c.in-Full.at c.in-Full.full) c.args.s.now.view
    c.give_root-in-Err-2.new.s.view c.requires.act
    (again_answers c.args.self.now c.args.line (g.M.ActMaker.act c.args.maker.now)
    (g.M.ActMaker.act c.attempt.new.maker) (acts.Full c.in-Full.at c.in-Full.full)
    c.pin_head-base.result c.in-Err.field-0
    c.args.s.now.view c.pin_head-base.new.s.view c.attempt.new.s.view
    c.edit_surely-answer.new.s.view c.give_root-in-Err.new.s.view
    c.give_root-in-Err-2.new.s.view c.pin_head-base.ensures.looks c.in-Err.ensures.comes
    c.attempt.ensures.edit.act_is c.in-Full.ensures.told c.give_root-in-Err.ensures.seen
    c.give_root-in-Err-2.ensures.seen))
    c.surely_anew.ensures.told

pub returns-in_default-clause-told : goal.returns-in_default-clause-told
returns-in_default-clause-told g c =
    answers_as c.args.self.now c.args.line c.args.act.now _ _ c.args.s.now.view
    c.give_root-in-Err-2.new.s.view c.requires.act
    (act_told c.args.self.now c.args.line _ _ _ c.args.s.now.view
    c.give_root-in-Err-2.new.s.view c.act_answer-in_default.ensures
    (again_answers c.args.self.now c.args.line (g.M.ActMaker.act c.args.maker.now)
    (g.M.ActMaker.act c.attempt.new.maker) _ c.pin_head-base.result c.in-Err.field-0
    c.args.s.now.view c.pin_head-base.new.s.view c.attempt.new.s.view
    c.edit_surely-answer.new.s.view c.give_root-in-Err.new.s.view
    c.give_root-in-Err-2.new.s.view c.pin_head-base.ensures.looks c.in-Err.ensures.comes
    c.attempt.ensures.edit.act_is c.edit_surely-answer.ensures.told c.give_root-in-Err.ensures.seen
    c.give_root-in-Err-2.ensures.seen))

pub returns-in-Ok-clause-calls : goal.returns-in-Ok-clause-calls
returns-in-Ok-clause-calls g c =
    record { rest = search rules; same = search rules; held = search rules }

pub returns-in_default-clause-calls : goal.returns-in_default-clause-calls
returns-in_default-clause-calls g c =
    record { rest = search rules; same = search rules; held = search rules }

pub attempt-requires-clause-maker : goal.attempt-requires-clause-maker
attempt-requires-clause-maker g c =
    record {
      maker = c.requires.maker.maker;
      recalled = g.M.ActMaker.recalls_more c.args.maker.now c.args.s.now.view.held
          c.pin_head-base.new.s.view.held (gets_keeps _ _ _ c.pin_head-base.ensures.gains)
          c.requires.maker.recalled;
    }

pub attempt-requires-clause-ready : goal.attempt-requires-clause-ready
attempt-requires-clause-ready g c =
    record {
      rest = c.pin_head-base.ensures.back.rest;
      room = pinned_room c.args.s.now.view c.pin_head-base.new.s.view c.pin_head-base.result.root
          c.pin_head-base.ensures.gains 3900 c.requires.ready.room;
    }

pub give_root-requires-clause-ready : goal.give_root-requires-clause-ready
give_root-requires-clause-ready g c =
    record {
      rest = c.attempt.ensures.back.rest;
      room = base_room c.args.s.now.view c.pin_head-base.new.s.view c.pin_head-base.result.root
          c.pin_head-base.ensures.gains c.attempt.new.s.view c.in-Ok.ensures.comes.0 c.requires.ready.room;
    }

pub edit_surely-answer-requires-clause-ready : goal.edit_surely-answer-requires-clause-ready
edit_surely-answer-requires-clause-ready g c =
    record {
      rest = c.attempt.ensures.back.rest;
      room = two_few _ _ _ _ _ c.pin_head-base.ensures.gains c.in-Err.ensures.comes.gains c.requires.ready.room;
    }

pub give_root-requires-in-Err-clause-ready : goal.give_root-requires-in-Err-clause-ready
give_root-requires-in-Err-clause-ready g c =
    record {
      rest = c.edit_surely-answer.ensures.calls.rest;
      room = two_room _ _ _ _ _ _ c.pin_head-base.ensures.gains c.in-Err.ensures.comes.gains
          c.edit_surely-answer.ensures.calls.held c.requires.ready.room;
    }

pub give_root-requires-in-Err-2-clause-ready : goal.give_root-requires-in-Err-2-clause-ready
give_root-requires-in-Err-2-clause-ready g c =
    record {
      rest = c.give_root-in-Err.ensures.back.rest;
      room = base_room c.args.s.now.view c.pin_head-base.new.s.view c.pin_head-base.result.root
          c.pin_head-base.ensures.gains c.give_root-in-Err.new.s.view
          (base_gone c.pin_head-base.new.s.view c.attempt.new.s.view _ c.in-Err.ensures.comes.gains
          c.edit_surely-answer.new.s.view c.give_root-in-Err.new.s.view c.in-Err.field-0.root refl
          c.edit_surely-answer.ensures.calls.held c.give_root-in-Err.ensures.gone) c.requires.ready.room;
    }

pub edit_surely-answer-requires-clause-maker : goal.edit_surely-answer-requires-clause-maker
edit_surely-answer-requires-clause-maker g c =
    record {
      maker = maker_on _ _ _ _ _ c.attempt.ensures.edit c.requires.maker.maker;
      recalled = c.in-Err.ensures.recalls;
    }
