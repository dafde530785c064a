use Rattle.std.proofs.Common.{sym, subst, length, ◌≤◌, ◌^◌, ◌↔◌, IsTrue}
use Rattle.history_model.specs.Logs.{side_of_world}
use Rattle.history_model.specs.Moments.{world_tint}
use Rattle.history_model.specs.Tints.{SameTints}
use Rattle.store_run.specs.Replaying.{ReplayState}
use Rattle.store_run.proofs.Taking.{same_roots_same}
use Rattle.store_run.proofs.replaying.Replay.has_same_tints.Goals as goal

pub returns : goal.returns
returns g c =
    subst (λ (s : ReplayState). IsTrue c.has_same_roots.result
    ↔ SameTints (side_of_world s.tint (2 ^ s.plan.side))
    (world_tint s.models s.records c.args.v)
    (world_tint s.models s.records c.args.w)) c.self.view_is
    (same_roots_same c.self.inside.versions c.number-number.result c.args.v c.args.w
    c.self.invariant c.number-number.ensures.store
    (subst (λ (s : ReplayState). c.args.v ≤ length s.records)
    (sym c.self.view_is) c.requires.there.0)
    (subst (λ (s : ReplayState). c.args.w ≤ length s.records)
    (sym c.self.view_is) c.requires.there.1)
    c.has_same_roots.result c.has_same_roots.ensures)
