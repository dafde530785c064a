use Rattle.world_core.specs.Kept.{stored}
use Rattle.world_core.proofs.AddLaws.{none_found, slot_found}
use Rattle.world_core.proofs.parts.Parts.find.Goals as goal

pub returns-in-None : goal.returns-in-None
returns-in-None c =
    none_found
    (stored c.args.self.now) c.args.level c.args.bucket c.args.key.now c.requires.stored c.requires.level c.requires.bucket c.in-None.ensures.slot

pub returns-in-Some : goal.returns-in-Some
returns-in-Some c =
    slot_found
    (stored c.args.self.now) c.args.level c.args.bucket c.args.key.now c.requires.stored c.requires.level c.requires.bucket c.in-Some.slot c.in-Some.ensures.slot c.in-Some.ensures.live
