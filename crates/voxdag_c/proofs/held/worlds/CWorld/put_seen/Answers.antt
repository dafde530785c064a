use Rattle.std.proofs.Common.{◌∙◌, refl, sym, arith}
use Rattle.voxdag_c.specs.held.Calls.{WorldShows, cells_of_version, held_side}
use Rattle.voxdag_c.proofs.OfHeld.Seen.{seen_inside, writes_none, writes_plain, writes_tinted}
use Rattle.voxdag_c.proofs.held.worlds.CWorld.put_seen.Goals as goal

pub returns-then-voxels-out-clause-shows : goal.returns-then-voxels-out-clause-shows
returns-then-voxels-out-clause-shows c =
    WorldShows.made 11 c.requires.kept c.requires.fits
    (writes_none c.args.self.now c.args.version c.args.part c.args.voxels.now c.requires.seen
    c.args.out.now (omega (arith, c.if-voxels-out.true)))

pub returns-then-not-tint-clause-shows : goal.returns-then-not-tint-clause-shows
returns-then-not-tint-clause-shows c =
    WorldShows.made 0 c.requires.kept c.requires.fits
    (writes_plain c.args.self.now c.args.version c.args.part c.args.voxels.now c.requires.seen
    c.args.out.now c.copy_shown.new.out (sym c.tint.ensures ∙ c.if-not-tint.true)
    (omega (arith, c.if-voxels-out.false)) c.copy_shown.ensures)

pub tints_of-requires-clause-voxels : goal.tints_of-requires-clause-voxels
tints_of-requires-clause-voxels c =
    seen_inside (held_side c.args.self.now) (cells_of_version c.args.self.now c.args.version)
    c.args.part c.args.voxels.now c.requires.seen

pub returns-in-Ok-clause-shows : goal.returns-in-Ok-clause-shows
returns-in-Ok-clause-shows c =
    WorldShows.made 0 c.requires.kept c.requires.fits
    (writes_tinted c.args.self.now c.args.version c.args.part c.args.voxels.now c.requires.seen
    c.args.out.now c.copy_tinted.new.out c.in-Ok.tints.items
    (sym c.tint.ensures ∙ c.if-not-tint.false) (omega (arith, c.if-voxels-out.false))
    c.in-Ok.ensures.tints (λ f e. c.copy_tinted.ensures.puts f (c.as_slice.ensures.value ∙ e)))

pub returns-in-Err-clause-shows : goal.returns-in-Err-clause-shows
returns-in-Err-clause-shows c =
    WorldShows.memory c.requires.kept c.requires.fits (record { bytes = refl; number = refl })
