use Rattle.std.proofs.Common.{arith}
use Rattle.world_core.specs.Kept.{stored}
use Rattle.world_core.proofs.VersionLaws.{found_root}
use Rattle.world_core.proofs.DoingLaws.{root_live}
use Rattle.world_core.proofs.parts.Parts.pin.Goals as goal

pub keep-requires-clause-live : goal.keep-requires-clause-live
keep-requires-clause-live c =
    let s = stored c.args.self.now in
    let root = c.index-root.result.now in
    λ n some. root_live s c.asked-asked.result root n c.requires.stored
    (omega (arith, c.moment-at.ensures.small, c.if-asked-at.false))
    (found_root s.roots c.asked-asked.result root
    (omega (arith, c.requires.stored.places, c.moment-at.ensures.small, c.if-asked-at.false)) c.index-root.ensures) some
