use Rattle.std.proofs.Common.{sym, subst}
use Rattle.std.specs.Prelude.{◌↔◌, IfOk, IsTrue}
use Rattle.world_core.specs.declared.events.Event.{Event}
use Rattle.world_core.specs.Kept.{stored}
use Rattle.world_core.specs.Lawful.{IsLawful}
use Rattle.world_core.specs.Stored.{stored_state}
use Rattle.world_core.proofs.parts.Parts.allows.Goals as goal

pub returns-in-Lower : goal.returns-in-Lower
returns-in-Lower c =
    let s = stored c.args.self.now in
    subst (λ (e : Event). IfOk c.may_lower.result
    (λ b. IsTrue b ↔ IsLawful s.plan s.models (stored_state s) e))
    (sym c.in-Lower.is) c.may_lower.ensures

pub returns-in-Append : goal.returns-in-Append
returns-in-Append c =
    let s = stored c.args.self.now in
    subst (λ (e : Event). IfOk c.may_append.result
    (λ b. IsTrue b ↔ IsLawful s.plan s.models (stored_state s) e))
    (sym c.in-Append.is) c.may_append.ensures
