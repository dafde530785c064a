use Rattle.std.proofs.Common.{List, ℕ, refl, sym, subst}
use Rattle.vw_cell.specs.declared.boxes.Boxed.{Boxed}
use Rattle.vw_cell.specs.declared.cells.Cell.{Cell}
use Rattle.flood.specs.Regions.{FilesRegion}
use Rattle.voxdag_c.specs.held.Calls.{WorldFloods, WritesBytes, cells_of_version, held_side}
use Rattle.voxdag_c.specs.held.Places.{box_of, cell_of_c_place}
use Rattle.voxdag_c.proofs.OfHeld.Fitting.{box_fits, box_leaves, cell_leaves, region_fits, region_leaves, start_inside}
use Rattle.voxdag_c.proofs.held.worlds.CWorld.flood.Goals as goal

pub returns-in-None-clause-floods : goal.returns-in-None-clause-floods
returns-in-None-clause-floods c =
    WorldFloods.outside
    (λ f. box_leaves c.side-side.result _ c.side-side.ensures c.args.part c.in-None.ensures.exactly f.part_fits.inside) refl (record { bytes = refl; number = refl })

pub returns-in-None-cell_in-clause-floods : goal.returns-in-None-cell_in-clause-floods
returns-in-None-cell_in-clause-floods c =
    WorldFloods.outside
    (λ f. cell_leaves c.side-side.result _ c.side-side.ensures c.args.from c.in-None-cell_in.ensures.exactly
    (start_inside (held_side c.args.self.now) (box_of c.args.part) (cell_of_c_place c.args.from) f.part_fits.inside f.start))
    refl (record { bytes = refl; number = refl })

pub returns-then-not-is_region-clause-floods : goal.returns-then-not-is_region-clause-floods
returns-then-not-is_region-clause-floods c =
    WorldFloods.outside
    (region_leaves _ c.args.part c.in-Some.b c.args.from c.in-Some-cell_in.start c.in-Some.ensures.value c.in-Some-cell_in.ensures.value c.if-not-is_region.ensures)
    refl (record { bytes = refl; number = refl })

pub returns-then-not-holds_version-clause-floods : goal.returns-then-not-holds_version-clause-floods
returns-then-not-holds_version-clause-floods c =
    WorldFloods.gone c.why_gone.result
    (region_fits _ c.args.part c.in-Some.b c.args.from c.in-Some-cell_in.start c.in-Some.ensures.value c.in-Some-cell_in.ensures.value
    (box_fits c.side-side.result _ c.side-side.ensures c.args.part c.in-Some.b c.in-Some.ensures.value c.in-Some.ensures.exactly)
    (c.if-not-is_region.ensures.0 refl))
    c.why_gone.ensures refl (record { bytes = refl; number = refl })

pub returns-in-Ok-clause-floods : goal.returns-in-Ok-clause-floods
returns-in-Ok-clause-floods c =
    WorldFloods.made c.put_bytes.result c.in-Ok.region.file.items (c.if-not-holds_version.ensures.0 refl)
    (region_fits _ c.args.part c.in-Some.b c.args.from c.in-Some-cell_in.start c.in-Some.ensures.value c.in-Some-cell_in.ensures.value
    (box_fits c.side-side.result _ c.side-side.ensures c.args.part c.in-Some.b c.in-Some.ensures.value c.in-Some.ensures.exactly)
    (c.if-not-is_region.ensures.0 refl))
    (subst (λ (n : ℕ). FilesRegion (box_of c.args.part) (cell_of_c_place c.args.from) n c.in-Ok.region.file.items (cells_of_version c.args.self.now c.args.version)) (sym c.from.ensures)
    (subst (λ (b : Boxed). FilesRegion b (cell_of_c_place c.args.from) c.in-Ok.region.cells c.in-Ok.region.file.items (cells_of_version c.args.self.now c.args.version)) c.in-Some.ensures.value
    (subst (λ (p : Cell). FilesRegion c.in-Some.b p c.in-Ok.region.cells c.in-Ok.region.file.items (cells_of_version c.args.self.now c.args.version)) c.in-Some-cell_in.ensures.value
    c.in-Ok.ensures.file)))
    (subst (λ (bytes : List ℕ). WritesBytes bytes c.args.out.now c.put_bytes.new.out c.put_bytes.new.needed c.put_bytes.result)
    c.as_slice.ensures.value c.put_bytes.ensures.writes)

pub returns-in-Err-clause-floods : goal.returns-in-Err-clause-floods
returns-in-Err-clause-floods c =
    WorldFloods.memory (c.if-not-holds_version.ensures.0 refl)
    (region_fits _ c.args.part c.in-Some.b c.args.from c.in-Some-cell_in.start c.in-Some.ensures.value c.in-Some-cell_in.ensures.value
    (box_fits c.side-side.result _ c.side-side.ensures c.args.part c.in-Some.b c.in-Some.ensures.value c.in-Some.ensures.exactly)
    (c.if-not-is_region.ensures.0 refl))
    refl (record { bytes = refl; number = refl })

pub flood-requires-clause-inside : goal.flood-requires-clause-inside
flood-requires-clause-inside c =
    box_fits c.side-side.result _ c.side-side.ensures c.args.part c.in-Some.b
    c.in-Some.ensures.value c.in-Some.ensures.exactly
