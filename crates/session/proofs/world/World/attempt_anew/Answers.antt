use Rattle.std.proofs.Common.{refl, rules}
use Rattle.session.proofs.ActLaws.{maker_of, models_of}
use Rattle.session.proofs.EditLaws.{base_back, base_gone, base_room, once_told, pinned_answers, pinned_room, stale_told, two_room}
use Rattle.session.proofs.CommitLaws.{held_itself}
use Rattle.session.proofs.world.World.attempt_anew.Goals as goal

pub give_root-requires-in-Err-2-clause-held : goal.give_root-requires-in-Err-2-clause-held
give_root-requires-in-Err-2-clause-held g c =
    base_back c.args.s.now.view c.pin_head-base.new.s.view c.pin_head-base.result.root
    c.pin_head-base.ensures.gains c.give_root-in-Err.new.s.view _ (search rules)
    (base_gone c.pin_head-base.new.s.view c.attempt.new.s.view _ c.in-Err.ensures.comes.gains
    c.attempt.new.s.view c.give_root-in-Err.new.s.view c.in-Err.field-0.root refl
    (held_itself _) c.give_root-in-Err.ensures.gone)

pub returns-in-Ok-clause-told : goal.returns-in-Ok-clause-told
returns-in-Ok-clause-told g c =
    once_told c.args.self.now c.args.line c.args.act.now c.in-Ok.answer c.once_answer.result
    c.args.s.now.view c.give_root.new.s.view c.once_answer.ensures
    (pinned_answers c.args.self.now c.args.line _ _ c.args.s.now.view
    c.pin_head-base.new.s.view c.attempt.new.s.view c.give_root.new.s.view
    c.pin_head-base.ensures.looks c.in-Ok.ensures.comes.1 c.give_root.ensures.seen)

pub returns-in-Err-clause-told : goal.returns-in-Err-clause-told
returns-in-Err-clause-told g c =
    stale_told c.args.self.now c.args.line c.args.act.now c.pin_head-base.result
    c.in-Err.field-0 c.args.s.now.view c.pin_head-base.new.s.view c.attempt.new.s.view
    c.give_root-in-Err.new.s.view c.give_root-in-Err-2.new.s.view c.pin_head-base.ensures.looks
    c.pin_head-base.ensures.head c.in-Err.ensures.comes c.give_root-in-Err.ensures.seen
    c.give_root-in-Err-2.ensures.seen

pub returns-in-Ok-clause-calls : goal.returns-in-Ok-clause-calls
returns-in-Ok-clause-calls g c =
    record { rest = search rules; same = search rules; held = search rules }

pub returns-in-Err-clause-calls : goal.returns-in-Err-clause-calls
returns-in-Err-clause-calls g c =
    record { rest = search rules; same = search rules; held = search rules }

pub attempt-requires-clause-maker : goal.attempt-requires-clause-maker
attempt-requires-clause-maker g c =
    record {
      maker = maker_of c.args.self.now _ _ c.args.act.now _
          (models_of c.args.self.now _ _ c.self.view_is c.self.invariant) c.requires.edit.fits
          c.requires.edit.edit refl refl;
      recalled = tt;
    }

pub attempt-requires-clause-ready : goal.attempt-requires-clause-ready
attempt-requires-clause-ready g c =
    record {
      rest = c.pin_head-base.ensures.back.rest;
      room = pinned_room c.args.s.now.view c.pin_head-base.new.s.view c.pin_head-base.result.root
          c.pin_head-base.ensures.gains 3900 c.requires.ready.room;
    }

pub give_root-requires-clause-ready : goal.give_root-requires-clause-ready
give_root-requires-clause-ready g c =
    record {
      rest = c.attempt.ensures.back.rest;
      room = base_room c.args.s.now.view c.pin_head-base.new.s.view c.pin_head-base.result.root
          c.pin_head-base.ensures.gains c.attempt.new.s.view c.in-Ok.ensures.comes.0 c.requires.ready.room;
    }

pub give_root-requires-in-Err-clause-ready : goal.give_root-requires-in-Err-clause-ready
give_root-requires-in-Err-clause-ready g c =
    record {
      rest = c.attempt.ensures.back.rest;
      room = two_room _ _ _ _ _ _ c.pin_head-base.ensures.gains c.in-Err.ensures.comes.gains
          (held_itself _) c.requires.ready.room;
    }

pub give_root-requires-in-Err-2-clause-ready : goal.give_root-requires-in-Err-2-clause-ready
give_root-requires-in-Err-2-clause-ready g c =
    record {
      rest = c.give_root-in-Err.ensures.back.rest;
      room = base_room c.args.s.now.view c.pin_head-base.new.s.view c.pin_head-base.result.root
          c.pin_head-base.ensures.gains c.give_root-in-Err.new.s.view
          (base_gone c.pin_head-base.new.s.view c.attempt.new.s.view _ c.in-Err.ensures.comes.gains
          c.attempt.new.s.view c.give_root-in-Err.new.s.view c.in-Err.field-0.root refl
          (held_itself _) c.give_root-in-Err.ensures.gone) c.requires.ready.room;
    }
