use Rattle.std.proofs.Common.{arith}
use Rattle.world_core.specs.Kept.{stored}
use Rattle.world_core.proofs.LowerLaws.{held_live}
use Rattle.world_core.proofs.parts.Parts.give.Goals as goal

pub free-requires-clause-last : goal.free-requires-clause-last
free-requires-clause-last c =
    let live =
    held_live (stored c.args.self.now) c.args.session c.args.n c.requires.stored c.requires.lawful.held in
    omega (arith, live.book, c.book-book.ensures, c.if-book-gt1.false)
