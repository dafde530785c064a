use Rattle.std.proofs.Common.{rules, sym, ap, ◌∙◌}
use Rattle.history_model.specs.Logs.{Log}
use Rattle.store_run.specs.Replaying.{ReplayState, TakesEdit}
use Rattle.store_run.proofs.Taking.{way_replays}
use Rattle.store_run.proofs.Filling.{edit_fills, edit_parts, way_made, state_as}
use Rattle.store_run.proofs.replaying.Replay.take.Goals as goal

pub returns-then-not-is_edit-clause-replays : goal.returns-then-not-is_edit-clause-replays
returns-then-not-is_edit-clause-replays g c =
    way_replays c.args.self.now.records c.reserve.new.self c.take_undo.new.self c.args.next
    c.take_undo.result
    (ap (λ (l : Log). l.records) c.reserve.ensures.log
    ∙ ap (λ (s : ReplayState). s.records) c.self.view_is)
    (sym c.is_edit.ensures ∙ c.if-not-is_edit.true) c.take_undo.ensures.takes
    c.take_undo.ensures.follows c.take_undo.ensures.stays c.take_undo.ensures.target

pub returns-then-not-is_edit-clause-made : goal.returns-then-not-is_edit-clause-made
returns-then-not-is_edit-clause-made g c =
    way_made c.args.self.now c.reserve.new.self c.take_undo.new.self c.args.next c.take_undo.result
    (state_as c.args.self.now c.self.inside.versions c.reserve.new.self c.self.view_is
    c.reserve.ensures.same c.reserve.ensures.log c.reserve.ensures.store)
    c.requires.made c.take_undo.ensures.takes c.take_undo.ensures.stays

pub returns-clause-made : goal.returns-clause-made
returns-clause-made g c =
    let takes : TakesEdit c.reserve.new.self c.args.next c.take_edit.new.self = search rules in
    edit_parts c.args.self.now c.reserve.new.self c.take_edit.new.self c.args.next
    (state_as c.args.self.now c.self.inside.versions c.reserve.new.self c.self.view_is
    c.reserve.ensures.same c.reserve.ensures.log c.reserve.ensures.store)
    c.reserve.ensures.are (sym c.is_edit.ensures ∙ c.if-not-is_edit.false) c.requires.made takes

pub returns-in-Err-clause-refused : goal.returns-in-Err-clause-refused
returns-in-Err-clause-refused g c =
    edit_fills c.args.self.now c.reserve.new.self c.take_edit.new.self c.args.next c.in-Err.full
    (state_as c.args.self.now c.self.inside.versions c.reserve.new.self c.self.view_is
    c.reserve.ensures.same c.reserve.ensures.log c.reserve.ensures.store)
    c.reserve.ensures.are (sym c.is_edit.ensures ∙ c.if-not-is_edit.false) c.requires.made
    c.in-Err.ensures.fills
