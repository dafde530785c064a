use Rattle.std.specs.Prelude.{Result}
use Rattle.conformance.specs.sessions.CallSpecs.{SaveSpec}
use Rattle.session.specs.Saves.{saved_told}
use Rattle.session.specs.SessionWorlds.{of_world, session_view}
use Rattle.session.specs.declared.saves.PinnedSave.{PinnedSave}
use Rattle.retain.specs.declared.refusals.PinRefused.{PinRefused}
use Rattle.std.proofs.Common.{rules, subst}
use Rattle.session.proofs.DeskLaws.{desk_goes_on, desk_saves, few_shares, first_stay, save_sees}
use Rattle.session.proofs.responders.ScriptResponderSessionCalls.save.Goals as goal

pub returns-in-Ok-clause-stands : goal.returns-in-Ok-clause-stands
returns-in-Ok-clause-stands g c =
    desk_saves c.args.self.now.world.now.table c.args.self.now.number c.args.self.now.first c.args.self.now.most c.args.self.now.session.now c.args.self.now.saves.now.items _ c.requires.stands c.pin_box.new.s c.in-Ok.field-0.pin c.push_reserved.new.self.items c.requires.room c.pin_box.ensures.back.rest c.pin_box.ensures.back.same c.in-Ok.ensures.came.pinned
    (save_sees (of_world c.args.self.now.world.now c.args.self.now.number)
    (session_view c.args.self.now.session.now.view)
    (session_view c.pin_box.new.s.view) c.args.version c.args.part
    (saved_told c.pin_box.result)
    (c.pin_box.ensures.told c.args.self.now.number)) c.push_reserved.ensures.items _ c.push_reserved.ensures.capacity

pub returns-in-Ok-clause-told : goal.returns-in-Ok-clause-told
returns-in-Ok-clause-told g c =
    subst (λ (r : Result PinnedSave PinRefused). SaveSpec
    (of_world c.args.self.now.world.now c.args.self.now.number) c.args.version c.args.part
    (session_view c.args.self.now.session.now.view) (session_view c.pin_box.new.s.view)
    (saved_told r))
    c.in-Ok.is (c.pin_box.ensures.told c.args.self.now.number)

pub returns-in-Ok-clause-rests : goal.returns-in-Ok-clause-rests
returns-in-Ok-clause-rests g c =
    record {
      world = search rules;
      session = search rules;
      saves = search rules;
      same = search rules;
      first = search rules;
      kept = first_stay c.args.self.now.first c.args.self.now.saves.now.items
          c.push_reserved.new.self.items c.in-Ok.field-0.pin c.requires.stands.begun
          c.push_reserved.ensures.items;
    }

pub returns-in-Err-clause-stands : goal.returns-in-Err-clause-stands
returns-in-Err-clause-stands g c =
    desk_goes_on c.args.self.now.world.now.table c.args.self.now.number c.args.self.now.first c.args.self.now.most c.args.self.now.session.now c.args.self.now.saves.now.items _ c.requires.stands c.pin_box.new.s c.pin_box.ensures.back.rest c.pin_box.ensures.back.same c.in-Err.ensures.came
    (save_sees (of_world c.args.self.now.world.now c.args.self.now.number)
    (session_view c.args.self.now.session.now.view)
    (session_view c.pin_box.new.s.view) c.args.version c.args.part
    (saved_told c.pin_box.result) (c.pin_box.ensures.told c.args.self.now.number))

pub returns-in-Err-clause-told : goal.returns-in-Err-clause-told
returns-in-Err-clause-told g c =
    subst (λ (r : Result PinnedSave PinRefused). SaveSpec
    (of_world c.args.self.now.world.now c.args.self.now.number) c.args.version c.args.part
    (session_view c.args.self.now.session.now.view) (session_view c.pin_box.new.s.view)
    (saved_told r))
    c.in-Err.is (c.pin_box.ensures.told c.args.self.now.number)

pub pin_box-requires-clause-ready : goal.pin_box-requires-clause-ready
pin_box-requires-clause-ready g c =
    record {
      rest = c.requires.stands.rest;
      room = few_shares c.args.self.now.world.now.table c.args.self.now.number c.args.self.now.first c.args.self.now.most c.args.self.now.session.now c.args.self.now.saves.now.items _ c.requires.stands;
    }
