use Rattle.std.proofs.Common.{refl}
use Rattle.voxdag_c.specs.held.Calls.{WorldCompares}
use Rattle.voxdag_c.proofs.OfHeld.Kinds.{same_plain}
use Rattle.voxdag_c.proofs.held.worlds.CWorld.same.Goals as goal

pub returns-then-not-holds_version : goal.returns-then-not-holds_version
returns-then-not-holds_version c = WorldCompares.first c.why_gone.result c.why_gone.ensures refl

pub returns-then-not-holds_version-2 : goal.returns-then-not-holds_version-2
returns-then-not-holds_version-2 c =
    WorldCompares.second c.why_gone-then-not-holds_version-2.result
    (c.if-not-holds_version.ensures.0 refl) c.why_gone-then-not-holds_version-2.ensures refl

pub returns : goal.returns
returns c =
    WorldCompares.told (c.if-not-holds_version.ensures.0 refl)
    (c.if-not-holds_version-2.ensures.0 refl) c.same.ensures.tints
    (same_plain c.args.self.now c.args.a c.args.b c.same.result c.same.ensures.cells)
