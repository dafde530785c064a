use Rattle.std.proofs.Common.{List, ℕ, refl, sym, subst}
use Rattle.vw_cell.specs.declared.cells.Cell.{Cell}
use Rattle.dag_answers.specs.OfVersions.{TellsRegion}
use Rattle.voxdag_c.specs.held.Places.{box_of, cell_of_c_place}
use Rattle.voxdag_c.specs.held.Calls.{WritesBytes}
use Rattle.voxdag_c.specs.held.Files.{FileFloods}
use Rattle.voxdag_c.proofs.OfHeld.FileAsks.{file_cells, file_has, file_has_not, file_moved}
use Rattle.voxdag_c.proofs.OfHeld.Fitting.{box_fits, box_leaves, cell_leaves, start_inside, region_fits, region_leaves}
use Rattle.voxdag_c.proofs.held.files.CFile.flood.Goals as goal

pub returns-in-None-clause-floods : goal.returns-in-None-clause-floods
returns-in-None-clause-floods c =
    FileFloods.outside
    (λ f. box_leaves c.side-side.result _
    (file_cells c.args.self.now c.view-view.result c.side-side.result c.view-view.ensures c.side-side.ensures)
    c.args.part c.in-None.ensures.exactly f.part_fits.inside) refl (record { bytes = refl; number = refl })

pub returns-in-None-cell_in-clause-floods : goal.returns-in-None-cell_in-clause-floods
returns-in-None-cell_in-clause-floods c =
    FileFloods.outside
    (λ f. cell_leaves c.side-side.result _
    (file_cells c.args.self.now c.view-view.result c.side-side.result c.view-view.ensures c.side-side.ensures)
    c.args.from c.in-None-cell_in.ensures.exactly
    (start_inside _ _ _ f.part_fits.inside f.start)) refl (record { bytes = refl; number = refl })

pub returns-then-not-is_region-clause-floods : goal.returns-then-not-is_region-clause-floods
returns-then-not-is_region-clause-floods c =
    FileFloods.outside
    (region_leaves _ c.args.part c.in-Some.b c.args.from c.in-Some-cell_in.start c.in-Some.ensures.value
    c.in-Some-cell_in.ensures.value c.if-not-is_region.ensures) refl (record { bytes = refl; number = refl })

pub returns-in-Some-Ok-clause-floods : goal.returns-in-Some-Ok-clause-floods
returns-in-Some-Ok-clause-floods c =
    FileFloods.made c.put_bytes.result c.in-Some-Ok.region.file.items
    (region_fits _ c.args.part c.in-Some.b c.args.from c.in-Some-cell_in.start c.in-Some.ensures.value
    c.in-Some-cell_in.ensures.value
    (box_fits c.side-side.result _
    (file_cells c.args.self.now c.view-view.result c.side-side.result c.view-view.ensures c.side-side.ensures)
    c.args.part c.in-Some.b c.in-Some.ensures.value c.in-Some.ensures.exactly)
    (c.if-not-is_region.ensures.0 refl))
    (subst (λ (n : ℕ). TellsRegion c.args.self.now.file.bytes c.args.self.now.file.side c.args.version (box_of c.args.part) (cell_of_c_place c.args.from) n c.in-Some-Ok.region.file.items) (sym c.from.ensures)
    (file_moved (λ bytes side part. TellsRegion bytes side c.args.version part (cell_of_c_place c.args.from) c.in-Some-Ok.region.cells c.in-Some-Ok.region.file.items)
    c.args.self.now c.view-view.result c.args.part c.in-Some.b c.view-view.ensures c.in-Some.ensures.value
    (subst (λ (p : Cell). TellsRegion c.view-view.result.bytes c.view-view.result.side c.args.version c.in-Some.b p c.in-Some-Ok.region.cells c.in-Some-Ok.region.file.items)
    c.in-Some-cell_in.ensures.value (rw c.in-Some-Ok.field-0-is at c.in-Some-Ok.ensures.tells))))
    (subst (λ (bytes : List ℕ). WritesBytes bytes c.args.out.now c.put_bytes.new.out c.put_bytes.new.needed c.put_bytes.result)
    c.as_slice.ensures.value c.put_bytes.ensures.writes)

pub returns-in-Some-Err-clause-floods : goal.returns-in-Some-Err-clause-floods
returns-in-Some-Err-clause-floods c =
    FileFloods.memory
    (file_has c.args.self.now c.view-view.result c.args.version c.view-view.ensures c.in-Some-Err.ensures.has)
    (region_fits _ c.args.part c.in-Some.b c.args.from c.in-Some-cell_in.start c.in-Some.ensures.value
    c.in-Some-cell_in.ensures.value
    (box_fits c.side-side.result _
    (file_cells c.args.self.now c.view-view.result c.side-side.result c.view-view.ensures c.side-side.ensures)
    c.args.part c.in-Some.b c.in-Some.ensures.value c.in-Some.ensures.exactly)
    (c.if-not-is_region.ensures.0 refl)) refl (record { bytes = refl; number = refl })

pub returns-in-None-version_region-clause-floods : goal.returns-in-None-version_region-clause-floods
returns-in-None-version_region-clause-floods c =
    FileFloods.no_version
    (region_fits _ c.args.part c.in-Some.b c.args.from c.in-Some-cell_in.start c.in-Some.ensures.value
    c.in-Some-cell_in.ensures.value
    (box_fits c.side-side.result _
    (file_cells c.args.self.now c.view-view.result c.side-side.result c.view-view.ensures c.side-side.ensures)
    c.args.part c.in-Some.b c.in-Some.ensures.value c.in-Some.ensures.exactly)
    (c.if-not-is_region.ensures.0 refl))
    (file_has_not c.args.self.now c.view-view.result c.args.version c.view-view.ensures c.in-None-version_region.ensures.has)
    refl (record { bytes = refl; number = refl })
