use Rattle.world_core.specs.Kept.{stored}
use Rattle.world_core.proofs.DoingLaws.{raised_live}
use Rattle.world_core.proofs.parts.Parts.share.Goals as goal

pub raise-requires-clause-live : goal.raise-requires-clause-live
raise-requires-clause-live c =
    raised_live (stored c.args.self.now) c.args.session c.args.n c.requires.stored c.requires.lawful
