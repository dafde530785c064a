use Rattle.std.proofs.Common.{◌^◌, ◌↔◌, sym, subst}
use Rattle.std.specs.Prelude.{IsTrue}
use Rattle.history_model.specs.Logs.{side_of_world}
use Rattle.history_model.specs.Moments.{world_has, world_tint}
use Rattle.history_model.specs.Tints.{SameTints}
use Rattle.core_laws.specs.contents.Versions.{HoldsVersion, SameWorld}
use Rattle.store_run.specs.Worlds.{WorldState}
use Rattle.store_run.proofs.Opening.{same_by_roots, rests_plain}
use Rattle.store_run.proofs.Taking.{roots_same}
use Rattle.store_run.proofs.open_worlds.OpenWorld.same.Goals as goal

pub returns-clause-tints : goal.returns-clause-tints
returns-clause-tints c =
    subst
    (λ (s : WorldState). IsTrue c.has_same_roots.result
    ↔ SameTints (side_of_world s.log.coloured (2 ^ s.plan.side))
    (world_tint s.models s.log.records c.args.v) (world_tint s.models s.log.records c.args.w))
    c.self.view_is
    (roots_same c.self.inside.versions c.number-number.result c.args.v c.args.w
    c.self.invariant.are c.number-number.ensures.store
    (subst (λ (s : WorldState). HoldsVersion s.log c.args.v) (sym c.self.view_is) c.requires.first)
    (subst (λ (s : WorldState). HoldsVersion s.log c.args.w)
    (sym c.self.view_is) c.requires.second) c.has_same_roots.result c.has_same_roots.ensures)

pub returns-clause-cells : goal.returns-clause-cells
returns-clause-cells c plain =
    subst
    (λ (s : WorldState). IsTrue c.has_same_roots.result
    ↔ SameWorld (2 ^ s.plan.side) (world_has s.models s.log.records c.args.v)
    (world_has s.models s.log.records c.args.w))
    c.self.view_is
    (same_by_roots c.self.inside.versions c.number-number.result c.args.v c.args.w c.has_same_roots.result
    (rests_plain c.self.inside.versions _ c.self.view_is c.self.invariant plain).are
    c.number-number.ensures.store
    (subst (λ (s : WorldState). HoldsVersion s.log c.args.v) (sym c.self.view_is) c.requires.first)
    (subst (λ (s : WorldState). HoldsVersion s.log c.args.w)
    (sym c.self.view_is) c.requires.second) c.has_same_roots.ensures)
