use Rattle.std.proofs.Common.{rules}
use Rattle.node_table.specs.Closing.{HaveHistory}
use Rattle.conformance.specs.sessions.SessionViews.{MayTint, log_as}
use Rattle.session.proofs.ActLaws.{models_of}
use Rattle.session.proofs.CloseLaws.{closes_world}
use Rattle.session.proofs.world.World.give_up.Goals as goal

pub returns : goal.returns
returns c =
    let may : MayTint c.args.self.tint c.args.self.table.plan c.args.self.table.models =
    (models_of c.args.self _ _ c.self.view_is c.self.invariant).may in
    let had : HaveHistory c.args.self.table c.args.sessions.items = search rules in
    record {
      log = log_as c.args.self.tint had.log;
      closes = closes_world c.args.self.tint c.args.self.table may c.args.sessions.items had.log
          c.requires.rest had.legal had.tells had.enough;
    }
