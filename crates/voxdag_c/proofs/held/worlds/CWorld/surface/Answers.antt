use Rattle.std.proofs.Common.{refl, sym, ◌∙◌, ap, subst}
use Rattle.vw_cell.specs.declared.boxes.Boxed.{Boxed}
use Rattle.extract.specs.Surface.{surface_of_box}
use Rattle.voxdag_c.specs.declared.held.worlds.CWorld.{CWorld}
use Rattle.voxdag_c.specs.held.Calls.{FitsFile, WorldShows, held_side, cells_of_version}
use Rattle.voxdag_c.proofs.OfHeld.Fitting.{box_fits, box_leaves, file_fits, file_large}
use Rattle.voxdag_c.proofs.OfHeld.Seen.{held_still}
use Rattle.voxdag_c.proofs.held.worlds.CWorld.surface.Goals as goal

pub returns-in-None-clause-shows : goal.returns-in-None-clause-shows
returns-in-None-clause-shows c =
    WorldShows.outside
    (λ f. box_leaves c.side.result _ c.side.ensures c.args.part c.in-None.ensures.exactly f.inside) (record { bytes = refl; number = refl })

pub returns-then-not-is_small-clause-shows : goal.returns-then-not-is_small-clause-shows
returns-then-not-is_small-clause-shows c =
    WorldShows.outside
    (file_large _ c.args.part c.in-Some.b c.in-Some.ensures.value c.if-not-is_small.ensures)
    (record { bytes = refl; number = refl })

pub returns-then-not-holds_version-clause-shows : goal.returns-then-not-holds_version-clause-shows
returns-then-not-holds_version-clause-shows c = WorldShows.gone c.why_gone.result
    (file_fits _ c.args.part c.in-Some.b c.in-Some.ensures.value
    (box_fits c.side.result _ c.side.ensures c.args.part c.in-Some.b c.in-Some.ensures.value c.in-Some.ensures.exactly)
    (c.if-not-is_small.ensures.0 refl))
    c.why_gone.ensures (record { bytes = refl; number = refl })

pub returns-in-Err-clause-shows : goal.returns-in-Err-clause-shows
returns-in-Err-clause-shows c =
    WorldShows.memory (c.if-not-holds_version.ensures.0 refl)
    (file_fits _ c.args.part c.in-Some.b c.in-Some.ensures.value
    (box_fits c.side.result _ c.side.ensures c.args.part c.in-Some.b c.in-Some.ensures.value c.in-Some.ensures.exactly)
    (c.if-not-is_small.ensures.0 refl))
    (record { bytes = refl; number = refl })

pub surface-requires-clause-inside : goal.surface-requires-clause-inside
surface-requires-clause-inside c =
    box_fits c.side.result _ c.side.ensures c.args.part c.in-Some.b c.in-Some.ensures.value
    c.in-Some.ensures.exactly

pub put_seen-requires-clause-fits : goal.put_seen-requires-clause-fits
put_seen-requires-clause-fits c =
    subst (λ (w : CWorld). FitsFile (held_side w) c.in-Some.b)
    (sym (held_still c.args.self.now c.surface.new.self c.surface.ensures.same)) (record {
      inside = box_fits c.side.result _ c.side.ensures c.args.part c.in-Some.b
          c.in-Some.ensures.value c.in-Some.ensures.exactly;
      small = c.if-not-is_small.ensures.0 refl;
    })

pub put_seen-requires-clause-seen : goal.put_seen-requires-clause-seen
put_seen-requires-clause-seen c =
    c.as_slice.ensures.value ∙ c.in-Ok.ensures.voxels
    ∙ ap (λ (w : CWorld). surface_of_box (held_side w) (cells_of_version w c.args.version)
    c.in-Some.b) (sym (held_still c.args.self.now c.surface.new.self c.surface.ensures.same))

pub returns-in-Ok-clause-shows : goal.returns-in-Ok-clause-shows
returns-in-Ok-clause-shows c =
    subst (λ (b : Boxed). WorldShows c.args.self.now c.args.version b c.args.out.now
    c.put_seen.new.out c.args.needed.now c.put_seen.new.needed c.put_seen.result)
    c.in-Some.ensures.value
    (subst (λ (w : CWorld). WorldShows w c.args.version c.in-Some.b c.args.out.now
    c.put_seen.new.out c.args.needed.now c.put_seen.new.needed c.put_seen.result)
    (held_still c.args.self.now c.surface.new.self c.surface.ensures.same)
    c.put_seen.ensures.shows)
