use Rattle.std.proofs.Common.{ℕ, arith, sym, subst}
use Rattle.world_core.specs.Kept.{stored}
use Rattle.world_core.specs.Steps.{RaisesEntry}
use Rattle.world_core.proofs.Keeping.{book_low}
use Rattle.world_core.proofs.ShareLaws.{moved, raised, names_at, seat_in}
use Rattle.world_core.proofs.parts.Parts.raise.Goals as goal

pub raise-requires-clause-small : goal.raise-requires-clause-small
raise-requires-clause-small c =
    book_low (stored c.args.self.now) c.args.n c.requires.stored c.requires.live

pub index_mut-requires : goal.index_mut-requires
index_mut-requires c =
    let lt =
    seat_in (stored c.args.self.now) c.args.session c.from-at.result 4095 c.from-at.ensures c.requires.room in
    omega (arith, lt, c.args.self.now.held.ok)

pub returns-clause-raises : goal.returns-clause-raises
returns-clause-raises c =
    let s = stored c.args.self.now in
    subst (λ (at : ℕ). RaisesEntry s c.args.session c.args.n
    (moved s c.raise.new.self at c.in_ok-after.after)) (sym c.from-at.ensures)
    (raised s c.args.session c.args.n c.index.result.now c.in_ok-after.after c.raise.new.self c.requires.stored c.requires.live c.requires.room
    (names_at s c.args.session c.from-at.result 4095 c.index.result.now c.from-at.ensures c.requires.room c.index.ensures)
    c.in_ok-after.ensures c.raise.ensures)
