use Rattle.std.proofs.Common.{ℕ, sym, subst}
use Rattle.world_core.specs.Kept.{stored}
use Rattle.world_core.specs.Steps.{LowersEntry}
use Rattle.world_core.proofs.ShareLaws.{moved, names_at}
use Rattle.world_core.proofs.LowerLaws.{lowered}
use Rattle.world_core.proofs.parts.Parts.lower.Goals as goal

pub returns-clause-lowers : goal.returns-clause-lowers
returns-clause-lowers c =
    let s = stored c.args.self.now in
    subst (λ (at : ℕ). LowersEntry s c.args.session c.args.n
    (moved s c.lower-left.new.self at c.in_ok-after.after)) (sym c.from-at.ensures)
    (lowered s c.args.session c.args.n c.index.result.now c.in_ok-after.after c.lower-left.new.self c.requires.stored c.requires.may
    (names_at s c.args.session c.from-at.result 4089 c.index.result.now c.from-at.ensures c.requires.may.room c.index.ensures)
    c.lower-left.result c.requires.more c.in_ok-after.ensures c.lower-left.ensures)
