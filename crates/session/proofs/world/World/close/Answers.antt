use Rattle.std.proofs.Common.{◌∙◌, ap, rules, sym, subst}
use Rattle.node_table.specs.Closing.{EndsTable, HadEnough}
use Rattle.node_table.specs.TableStates.{TableState}
use Rattle.node_table.specs.Closed.{Closed}
use Rattle.conformance.specs.sessions.Ran.{ClosesWorld}
use Rattle.conformance.specs.sessions.SessionViews.{MayTint}
use Rattle.session.specs.Closes.{CountsLive, coloured_as, session_views}
use Rattle.session.specs.SessionWorlds.{SessionWorld}
use Rattle.session.proofs.ActLaws.{models_of}
use Rattle.session.proofs.CloseLaws.{closes_world, ends_as, legal_left, lives_as}
use Rattle.session.proofs.world.World.close.Goals as goal

pub returns-in-Ok-clause-ends : goal.returns-in-Ok-clause-ends
returns-in-Ok-clause-ends c =
    let ends : EndsTable c.args.self.table c.in-Ok.closed = search rules in
    subst (λ (e : Closed). EndsTable c.args.self.table e) (sym c.of.ensures)
    (ends_as c.self.inside.tint c.args.self.table c.in-Ok.closed ends)

pub returns-in-Ok-clause-live : goal.returns-in-Ok-clause-live
returns-in-Ok-clause-live c =
    subst (λ (e : Closed). CountsLive c.args.self.table e) (sym c.of.ensures)
    (lives_as c.self.inside.tint c.args.self.table c.in-Ok.closed
    (subst (λ (t : TableState). CountsLive t c.in-Ok.closed)
    (ap (λ (w : SessionWorld). w.table) c.self.view_is) c.in-Ok.ensures.live))

pub returns-in-Ok-clause-closes : goal.returns-in-Ok-clause-closes
returns-in-Ok-clause-closes c =
    let ends : EndsTable c.args.self.table c.in-Ok.closed = search rules in
    let may : MayTint c.args.self.tint c.args.self.table.plan c.args.self.table.models =
    (models_of c.args.self _ _ c.self.view_is c.self.invariant).may in
    let had : HadEnough c.args.self.table.plan c.args.sessions.items = search rules in
    subst (λ (e : Closed). ClosesWorld c.args.self.tint c.args.self.table.plan c.args.self.table.models (session_views c.args.sessions.items) e.history)
    (sym (c.of.ensures
    ∙ ap (λ (w : SessionWorld). coloured_as w.tint c.in-Ok.closed) c.self.view_is))
    (closes_world c.args.self.tint c.args.self.table may c.args.sessions.items
    c.in-Ok.closed.history c.requires.rest (legal_left c.args.self.table c.in-Ok.closed ends)
    c.in-Ok.ensures.history had)
