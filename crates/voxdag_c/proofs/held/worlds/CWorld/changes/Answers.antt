use Rattle.std.proofs.Common.{refl, sym}
use Rattle.voxdag_c.specs.held.Calls.{WorldDiffers}
use Rattle.voxdag_c.proofs.OfHeld.Kinds.{differs_plain}
use Rattle.voxdag_c.proofs.held.worlds.CWorld.changes.Goals as goal

pub returns-then-not-holds_version-clause-differs : goal.returns-then-not-holds_version-clause-differs
returns-then-not-holds_version-clause-differs c =
    WorldDiffers.first c.why_gone.result c.why_gone.ensures (refl, refl)

pub returns-then-not-holds_version-2-clause-differs : goal.returns-then-not-holds_version-2-clause-differs
returns-then-not-holds_version-2-clause-differs c =
    WorldDiffers.second c.why_gone-then-not-holds_version-2.result
    (c.if-not-holds_version.ensures.0 refl) c.why_gone-then-not-holds_version-2.ensures (refl, refl)

pub returns-clause-differs : goal.returns-clause-differs
returns-clause-differs c =
    WorldDiffers.told c.changes.result (c.if-not-holds_version.ensures.0 refl)
    (c.if-not-holds_version-2.ensures.0 refl) c.changes.ensures.tints
    (λ plain. differs_plain c.args.self.now c.args.a c.args.b c.changes.result plain
    (c.changes.ensures.cells plain)) (sym c.put_extent.ensures.found, c.put_extent.ensures.none)
