use Rattle.std.proofs.Common.{ℕ, sym, subst}
use Rattle.world_core.specs.Kept.{stored}
use Rattle.world_core.specs.Steps.{FreesEntry}
use Rattle.world_core.proofs.ShareLaws.{moved, names_at}
use Rattle.world_core.proofs.LowerLaws.{freed}
use Rattle.world_core.proofs.parts.Parts.free.Goals as goal

pub returns-clause-frees : goal.returns-clause-frees
returns-clause-frees c =
    let s = stored c.args.self.now in
    subst (λ (at : ℕ). FreesEntry s c.args.session c.args.n
    (moved s c.lower-key.new.self at c.in_ok-after.after)) (sym c.from-at.ensures)
    (freed s c.args.session c.args.n c.index.result.now c.in_ok-after.after c.lower-key.new.self c.requires.stored c.requires.may
    (names_at s c.args.session c.from-at.result 4089 c.index.result.now c.from-at.ensures c.requires.may.room c.index.ensures)
    c.lower-key.result c.args.children.now c.requires.last c.requires.children c.in_ok-after.ensures c.lower-key.ensures)
