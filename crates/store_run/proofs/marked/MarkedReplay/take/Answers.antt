use Rattle.std.proofs.Common.{rules, sym, ◌∙◌}
use Rattle.store_run.specs.Marked.{replayed}
use Rattle.store_run.specs.Replaying.{TakesEdit}
use Rattle.store_run.proofs.Filling.{edit_fills, edit_parts, way_parts}
use Rattle.store_run.proofs.Followed.{follows_as, log_taken, replayed_as, world_as}
use Rattle.store_run.proofs.marked.MarkedReplay.take.Goals as goal

pub follow_undo-requires-clause-follows : goal.follow_undo-requires-clause-follows
follow_undo-requires-clause-follows g c =
    follows_as c.args.self.now c.reserve.new.self c.args.next.act
    (world_as c.args.self.now c.self.inside.versions c.reserve.new.self c.self.view_is
    c.reserve.ensures.same c.reserve.ensures.log c.reserve.ensures.store) c.requires.follows

pub returns-then-not-is_edit-clause-log : goal.returns-then-not-is_edit-clause-log
returns-then-not-is_edit-clause-log g c =
    log_taken c.args.self.now c.reserve.new.self c.follow_undo.new.self c.args.next
    (world_as c.args.self.now c.self.inside.versions c.reserve.new.self c.self.view_is
    c.reserve.ensures.same c.reserve.ensures.log c.reserve.ensures.store)
    c.reserve.ensures.are c.follow_undo.ensures.are c.follow_undo.ensures.takes.takes

pub returns-then-not-is_edit-clause-made : goal.returns-then-not-is_edit-clause-made
returns-then-not-is_edit-clause-made g c =
    way_parts (replayed c.args.self.now) c.reserve.new.self c.follow_undo.new.self c.args.next
    (replayed_as c.args.self.now c.reserve.new.self
    (world_as c.args.self.now c.self.inside.versions c.reserve.new.self c.self.view_is
    c.reserve.ensures.same c.reserve.ensures.log c.reserve.ensures.store))
    c.requires.made c.follow_undo.ensures.takes

pub returns-clause-log : goal.returns-clause-log
returns-clause-log g c =
    let takes : TakesEdit c.reserve.new.self c.args.next c.take_edit.new.self = search rules in
    log_taken c.args.self.now c.reserve.new.self c.take_edit.new.self c.args.next
    (world_as c.args.self.now c.self.inside.versions c.reserve.new.self c.self.view_is
    c.reserve.ensures.same c.reserve.ensures.log c.reserve.ensures.store)
    c.reserve.ensures.are c.take_edit.ensures.are takes.takes

pub returns-clause-made : goal.returns-clause-made
returns-clause-made g c =
    let takes : TakesEdit c.reserve.new.self c.args.next c.take_edit.new.self = search rules in
    edit_parts (replayed c.args.self.now) c.reserve.new.self c.take_edit.new.self c.args.next
    (replayed_as c.args.self.now c.reserve.new.self
    (world_as c.args.self.now c.self.inside.versions c.reserve.new.self c.self.view_is
    c.reserve.ensures.same c.reserve.ensures.log c.reserve.ensures.store))
    c.reserve.ensures.are (sym c.is_edit.ensures ∙ c.if-not-is_edit.false) c.requires.made takes

pub returns-in-Err-clause-refused : goal.returns-in-Err-clause-refused
returns-in-Err-clause-refused g c =
    edit_fills (replayed c.args.self.now) c.reserve.new.self c.take_edit.new.self c.args.next
    c.in-Err.full
    (replayed_as c.args.self.now c.reserve.new.self
    (world_as c.args.self.now c.self.inside.versions c.reserve.new.self c.self.view_is
    c.reserve.ensures.same c.reserve.ensures.log c.reserve.ensures.store))
    c.reserve.ensures.are (sym c.is_edit.ensures ∙ c.if-not-is_edit.false) c.requires.made
    c.in-Err.ensures.fills
