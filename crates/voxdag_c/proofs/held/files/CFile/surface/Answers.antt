use Rattle.std.proofs.Common.{List, refl, subst, map}
use Rattle.vox_read.specs.declared.voxels.Voxel.{Voxel}
use Rattle.dag_answers.specs.OfVersions.{TellsSurface}
use Rattle.voxdag_c.specs.held.Places.{shown_by}
use Rattle.voxdag_c.specs.held.Calls.{WritesItems}
use Rattle.voxdag_c.specs.held.Files.{FileShows}
use Rattle.voxdag_c.proofs.OfHeld.FileAsks.{file_cells, file_has, file_has_not, file_moved}
use Rattle.voxdag_c.proofs.OfHeld.Fitting.{box_fits, box_leaves, file_fits, file_large}
use Rattle.voxdag_c.proofs.held.files.CFile.surface.Goals as goal

pub returns-in-None-clause-shows : goal.returns-in-None-clause-shows
returns-in-None-clause-shows c =
    FileShows.outside
    (λ f. box_leaves c.side.result _
    (file_cells c.args.self.now c.view-view.result c.side.result c.view-view.ensures c.side.ensures)
    c.args.part c.in-None.ensures.exactly f.inside) (record { bytes = refl; number = refl })

pub returns-then-not-is_small-clause-shows : goal.returns-then-not-is_small-clause-shows
returns-then-not-is_small-clause-shows c =
    FileShows.outside
    (file_large _ c.args.part c.in-Some.b c.in-Some.ensures.value c.if-not-is_small.ensures) (record { bytes = refl; number = refl })

pub returns-in-Some-Ok-clause-shows : goal.returns-in-Some-Ok-clause-shows
returns-in-Some-Ok-clause-shows c =
    FileShows.made _ c.in-Some-Ok.voxels.items
    (file_fits _ c.args.part c.in-Some.b c.in-Some.ensures.value
    (box_fits c.side.result _
    (file_cells c.args.self.now c.view-view.result c.side.result c.view-view.ensures c.side.ensures)
    c.args.part c.in-Some.b c.in-Some.ensures.value c.in-Some.ensures.exactly)
    (c.if-not-is_small.ensures.0 refl))
    (file_moved (λ bytes side part. TellsSurface bytes side c.args.version part c.in-Some-Ok.voxels.items) c.args.self.now c.view-view.result c.args.part c.in-Some.b
    c.view-view.ensures c.in-Some.ensures.value (rw c.in-Some-Ok.field-0-is at c.in-Some-Ok.ensures.tells))
    (subst (λ (voxels : List Voxel). WritesItems (map (shown_by (λ v. 1)) voxels) c.args.out.now c.put_shown.new.out c.put_shown.new.needed c.put_shown.result)
    c.as_slice.ensures.value c.put_shown.ensures.writes)

pub returns-in-Some-Err-clause-shows : goal.returns-in-Some-Err-clause-shows
returns-in-Some-Err-clause-shows c =
    FileShows.memory
    (file_has c.args.self.now c.view-view.result c.args.version c.view-view.ensures c.in-Some-Err.ensures.has)
    (file_fits _ c.args.part c.in-Some.b c.in-Some.ensures.value
    (box_fits c.side.result _
    (file_cells c.args.self.now c.view-view.result c.side.result c.view-view.ensures c.side.ensures)
    c.args.part c.in-Some.b c.in-Some.ensures.value c.in-Some.ensures.exactly)
    (c.if-not-is_small.ensures.0 refl)) (record { bytes = refl; number = refl })

pub returns-in-None-version_surface-clause-shows : goal.returns-in-None-version_surface-clause-shows
returns-in-None-version_surface-clause-shows c =
    FileShows.no_version
    (file_fits _ c.args.part c.in-Some.b c.in-Some.ensures.value
    (box_fits c.side.result _
    (file_cells c.args.self.now c.view-view.result c.side.result c.view-view.ensures c.side.ensures)
    c.args.part c.in-Some.b c.in-Some.ensures.value c.in-Some.ensures.exactly)
    (c.if-not-is_small.ensures.0 refl))
    (file_has_not c.args.self.now c.view-view.result c.args.version c.view-view.ensures c.in-None-version_surface.ensures.has)
    (record { bytes = refl; number = refl })
