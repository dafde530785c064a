use Rattle.std.proofs.Common.{ℕ, sym, subst, arith, ap, List}
use Rattle.world_core.specs.Slots.{BucketRow}
use Rattle.world_core.specs.Kept.{stored}
use Rattle.world_core.specs.Steps.{AddsEntry}
use Rattle.world_core.proofs.ShareLaws.{moved, names_at, seat_in}
use Rattle.world_core.proofs.AddLaws.{added, all_taken}
use Rattle.core_laws.specs.places.Names.{named}
use Rattle.world_core.proofs.parts.Parts.add.Goals as goal

pub index_mut-requires : goal.index_mut-requires
index_mut-requires c =
    let lt =
    seat_in (stored c.args.self.now) c.args.session c.from-at.result 4095 c.from-at.ensures c.requires.room in
    omega (arith, lt, c.args.self.now.held.ok)

pub returns-in-None-clause-adds : goal.returns-in-None-clause-adds
returns-in-None-clause-adds c =
    let s = stored c.args.self.now in (
      all_taken s c.args.level c.args.bucket c.args.key c.requires.stored c.requires.level c.requires.bucket c.in-None.ensures.live,
      ap (λ (all : List BucketRow). record s { entries = all }) c.in-None.ensures.all,
    )

pub returns-in-Some-clause-adds : goal.returns-in-Some-clause-adds
returns-in-Some-clause-adds c =
    let s = stored c.args.self.now in
    subst (λ (at : ℕ). AddsEntry s c.args.session c.args.level c.args.key
    (named c.args.level c.args.bucket c.in-Some.slot)
    (moved s c.add.new.self at c.with.result)) (sym c.from-at.ensures)
    (added s c.args.level c.args.bucket c.args.key c.requires.stored c.requires.level c.requires.bucket c.args.session c.in-Some.slot
    c.index.result.now c.in_ok-rest.rest c.with.result c.args.children.now c.add.new.self c.requires.nowhere c.requires.fits c.requires.children c.requires.held c.requires.room
    (names_at s c.args.session c.from-at.result 4095 c.index.result.now c.from-at.ensures c.requires.room c.index.ensures)
    c.in_ok-rest.ensures c.with.ensures c.in-Some.ensures.slot c.in-Some.ensures.live c.in-Some.ensures.all)
